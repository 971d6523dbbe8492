use Rattle.std.proofs.Common.{◌∙◌, sym, ap, get_or}
use Rattle.hh_base.specs.declared.value.Tri.TheVariants as tri
use Rattle.net_solution.specs.Places.{question_of, seen_in}
use Rattle.net_solution.specs.Equations.{and_over, or_over, gate_value}
use Rattle.net_solution.proofs.gate.gate_value.Goals as goal

pub returns-in-And : goal.returns-in-And
returns-in-And c =
    c.and_over.ensures
    ∙ (λ i. and_over (λ g. get_or (c.deref-in-And.ensures.value i) g tri.Unknown) (c.as_slice.ensures i))
    ∙ ap (gate_value c.args.nets.now (question_of c.args.asked.now)
    (λ g. get_or c.args.place.now.gates.items g tri.Unknown) (seen_in c.args.place.now)) (sym c.in-And.is)

pub returns-in-Or : goal.returns-in-Or
returns-in-Or c =
    c.or_over.ensures
    ∙ (λ i. or_over (λ g. get_or (c.deref-in-Or.ensures.value i) g tri.Unknown) (c.as_slice-in-Or.ensures i))
    ∙ ap (gate_value c.args.nets.now (question_of c.args.asked.now)
    (λ g. get_or c.args.place.now.gates.items g tri.Unknown) (seen_in c.args.place.now)) (sym c.in-Or.is)
