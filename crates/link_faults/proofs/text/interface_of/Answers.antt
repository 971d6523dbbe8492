use Rattle.std.proofs.Common.{◌≡◌, Some, None, ◌∙◌, ap, sym}
use Rattle.std.specs.Prelude.{option_map, slice_get}
use Rattle.std.specs.Option.{option_copied}
use Rattle.link_faults.proofs.MeantLaws.{module_meant}
use Rattle.link_faults.proofs.text.interface_of.Goals as goal

pub returns-in-None : goal.returns-in-None
returns-in-None c = ap (option_map (λ m. m.interface)) (module_meant c.args.text.now c.args.name.now None
    c.requires (sym c.in-None.is ∙ c.place.ensures))

pub returns-in-None-at : goal.returns-in-None-at
returns-in-None-at c =
    let slot : slice_get c.args.text.now.modules.items c.in-Some.place ≡ None =
    ap (λ ms. slice_get ms c.in-Some.place) (sym c.as_slice.ensures.value)
    ∙ sym c.at.ensures ∙ ap option_copied c.in-None-at.is in
    ap (λ o. option_map (λ m. m.interface) (option_map (λ m. m.now) o)) (sym slot)
    ∙ ap (option_map (λ m. m.interface)) (module_meant c.args.text.now c.args.name.now (Some c.in-Some.place)
    c.requires (sym c.in-Some.is ∙ c.place.ensures))

pub returns-in-Some-at : goal.returns-in-Some-at
returns-in-Some-at c =
    let slot : slice_get c.args.text.now.modules.items c.in-Some.place ≡ Some c.in-Some-at.module.now =
    ap (λ ms. slice_get ms c.in-Some.place) (sym c.as_slice.ensures.value)
    ∙ sym c.at.ensures ∙ ap option_copied c.in-Some-at.is in
    ap (λ i. Some i) c.as_slice-in-Some-at.ensures
    ∙ ap (λ o. option_map (λ m. m.interface) (option_map (λ m. m.now) o)) (sym slot)
    ∙ ap (option_map (λ m. m.interface)) (module_meant c.args.text.now c.args.name.now (Some c.in-Some.place)
    c.requires (sym c.in-Some.is ∙ c.place.ensures))
