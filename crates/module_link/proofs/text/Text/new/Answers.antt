use Rattle.std.proofs.Common.{◌≡◌, map, Bor, ap, ◌∙◌}
use Rattle.module_tree.specs.declared.source.ModuleNode.{ModuleNode}
use Rattle.module_tree.specs.Callables.{Signature, modules_of, signatures_of}
use Rattle.link_faults.specs.Named.{Name, place_of}
use Rattle.module_link.proofs.TextLists.{targets, through}
use Rattle.module_link.proofs.text.Text.new.Goals as goal

pub returns-clause-tables : goal.returns-clause-tables
returns-clause-tables c =
    let parts = c.args.parts.now in
    let modules : targets c.in_ok-modules.modules.items ≡ modules_of parts = c.in_ok-modules.ensures in
    let named : targets c.as_slice-2.result.now ≡ map (λ (m : ModuleNode Name). m.name) (modules_of parts) =
    ap targets c.as_slice-2.ensures.value ∙ c.in_ok-named.ensures
    ∙ ap (map (λ (m : Bor (ModuleNode Name)). m.now.name)) c.as_slice.ensures.value
    ∙ through (λ (m : ModuleNode Name). m.name) c.in_ok-modules.modules.items (modules_of parts) modules in
    let bodies : targets c.as_slice-3.result.now ≡ map (λ (s : Signature). s.name) (signatures_of parts) =
    ap targets c.as_slice-3.ensures.value ∙ c.in_ok-bodies.ensures in
    record {
      modules = modules;
      module_places = λ n. c.in_ok-first_places.ensures n ∙ ap (λ ns. place_of ns n) named;
      body_places = λ n. c.in_ok-first_places-2.ensures n ∙ ap (λ ns. place_of ns n) bodies;
    }
