use Rattle.std.proofs.Common.{◌≡◌, take}
use Rattle.module_tree.specs.Runs.{runs_of}
use Rattle.link_resolve.proofs.callees.runs_of.Given as goal

abbrev pub invariant-parts : goal.invariant-parts
invariant-parts l = l.runs.items ≡ runs_of (take l.part-index l.parts)
