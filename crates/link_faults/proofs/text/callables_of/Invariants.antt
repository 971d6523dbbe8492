use Rattle.std.proofs.Common.{take}
use Rattle.module_tree.specs.Callables.{signatures_of}
use Rattle.link_faults.specs.CallableTables.{AreCallables}
use Rattle.link_faults.proofs.text.callables_of.Given as goal

abbrev pub invariant-parts : goal.invariant-parts
invariant-parts l = AreCallables (signatures_of (take l.part-index l.parts)) l.callables
