use Rattle.std.proofs.Common.{◌≡◌, None, sym, ap, ◌∙◌}
use Rattle.std.specs.Prelude.{slice_get}
use Rattle.std.specs.Option.{option_copied}
use Rattle.indexmap.specs.IndexMap.{get_by_text}
use Rattle.module_tree.specs.declared.source.ModuleNode.{ModuleNode}
use Rattle.module_tree.specs.Callables.{modules_of}
use Rattle.link_faults.specs.Named.{Name, module_named}
use Rattle.link_faults.specs.Rows.{module_place}
use Rattle.module_link.proofs.NamedPlaces.{standing, find_standing, copied_standing}
use Rattle.module_link.proofs.text.Text.module.Goals as goal

pub returns-in_err-place : goal.returns-in_err-place
returns-in_err-place c =
    let parts = c.args.self.now.parts.now in
    let name = c.args.name.now in
    let placed : c.copied.result ≡ module_place parts name = c.copied.ensures ∙ c.get.ensures.value
    ∙ ap (get_by_text c.args.self.now.module_places) c.as_str.ensures.text ∙ c.requires.module_places name in
    let found : module_named parts name ≡ None = find_standing (λ (m : ModuleNode Name). m.name)
    (modules_of parts) name ∙ ap (standing (modules_of parts)) (sym placed ∙ c.in_err-place.was) in
    ap option_copied c.from_residual.ensures ∙ sym found

pub returns : goal.returns
returns c =
    let parts = c.args.self.now.parts.now in
    let name = c.args.name.now in
    let placed : c.copied.result ≡ module_place parts name = c.copied.ensures ∙ c.get.ensures.value
    ∙ ap (get_by_text c.args.self.now.module_places) c.as_str.ensures.text ∙ c.requires.module_places name in
    let found : module_named parts name ≡ slice_get (modules_of parts) c.in_ok-place.place =
    find_standing (λ (m : ModuleNode Name). m.name) (modules_of parts) name
    ∙ ap (standing (modules_of parts)) (sym placed ∙ c.in_ok-place.was) in
    copied_standing c.args.self.now.modules.items (modules_of parts) c.in_ok-place.place c.copied-2.result
    c.requires.modules (c.copied-2.ensures ∙ c.at.ensures
    ∙ ap (λ xs. slice_get xs c.in_ok-place.place) c.as_slice.ensures.value) ∙ sym found
