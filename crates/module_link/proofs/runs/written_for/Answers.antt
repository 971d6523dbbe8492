use Rattle.std.proofs.Common.{◌≡◌, map, sym, ap, ◌∙◌}
use Rattle.std.specs.Option.{option_copied}
use Rattle.indexmap.specs.IndexMap.{get_by_text}
use Rattle.module_tree.specs.declared.source.Binding.{Binding}
use Rattle.link_faults.specs.Named.{Name, place_of}
use Rattle.module_link.proofs.NamedPlaces.{standing, find_standing}
use Rattle.module_link.proofs.runs.written_for.Goals as goal

pub returns-in_err-place : goal.returns-in_err-place
returns-in_err-place c =
    let written = c.args.written.now in
    let name = c.args.name.now in
    let placed : c.copied.result ≡ place_of (map (λ (b : Binding Name). b.left.name) written) name =
    c.copied.ensures ∙ c.get.ensures.value ∙ ap (get_by_text c.args.places.now) c.as_str.ensures.text
    ∙ c.requires name in
    let found = find_standing (λ (b : Binding Name). b.left.name) written name
    ∙ ap (standing written) (sym placed ∙ c.in_err-place.was) in
    ap option_copied c.from_residual.ensures ∙ sym found

pub returns : goal.returns
returns c =
    let written = c.args.written.now in
    let name = c.args.name.now in
    let placed : c.copied.result ≡ place_of (map (λ (b : Binding Name). b.left.name) written) name =
    c.copied.ensures ∙ c.get.ensures.value ∙ ap (get_by_text c.args.places.now) c.as_str.ensures.text
    ∙ c.requires name in
    let found = find_standing (λ (b : Binding Name). b.left.name) written name
    ∙ ap (standing written) (sym placed ∙ c.in_ok-place.was) in
    c.at.ensures ∙ sym found
