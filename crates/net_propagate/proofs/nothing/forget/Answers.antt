use Rattle.hh_base.specs.declared.value.Tri.TheVariants as tri
use Rattle.net_solution.specs.Places.{neither}
use Rattle.net_propagate.proofs.Stepping.{forgotten}
use Rattle.net_propagate.proofs.nothing.forget.Goals as goal

pub returns-clause-blank : goal.returns-clause-blank
returns-clause-blank c =
    record {
      gates = λ g. forgotten tri.Unknown _ _ g c.forget_gates.ensures;
      cells = c.forget_cells.ensures.blank;
      before = λ s. forgotten neither _ _ s c.forget_before.ensures;
    }
