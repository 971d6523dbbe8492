use Rattle.std.proofs.Common.{Some, None, ◌∙◌, ap, sym}
use Rattle.std.specs.Prelude.{slice_get}
use Rattle.link_faults.proofs.MeantLaws.{callable_meant}
use Rattle.link_faults.proofs.text.callable_of.Goals as goal

pub returns-in-None : goal.returns-in-None
returns-in-None c = callable_meant c.args.text.now c.args.name.now None c.requires
    (sym c.in-None.is ∙ c.place.ensures)

pub returns-in-Some : goal.returns-in-Some
returns-in-Some c = c.at.ensures ∙ ap (λ xs. slice_get xs c.in-Some.place) c.as_slice.ensures
    ∙ callable_meant c.args.text.now c.args.name.now (Some c.in-Some.place) c.requires
    (sym c.in-Some.is ∙ c.place.ensures)
