use Rattle.std.proofs.Common.{◌≡◌, map, take}
use Rattle.hh_term.specs.Views.{body_of}
use Rattle.kernel_expand.specs.Expansion.{bodies_of}
use Rattle.statement_build.proofs.declarations.bodies.Given as goal

abbrev pub invariant-loop-part : goal.invariant-loop-part
invariant-loop-part l = map body_of l.bodies.items ≡ bodies_of (take l.part-index l.parts)
