use Rattle.std.proofs.Common.{◌≡◌, Some, None, [], ◌++◌, refl, sym, ◌∙◌, ap}
use Rattle.std.specs.Prelude.{option_map}
use Rattle.std.proofs.lemmas.List.{append-nil}
use Rattle.module_tree.specs.declared.source.ModuleNode.{ModuleNode}
use Rattle.module_tree.specs.Parts.{Call}
use Rattle.link_faults.specs.Faults.{earlier}
use Rattle.link_faults.specs.Named.{Name, module_named}
use Rattle.link_faults.specs.Rows.{module_place}
use Rattle.link_faults.specs.Meanings.{meaning_of}
use Rattle.link_faults.specs.RunFaults.{first_call}
use Rattle.link_faults.specs.Walks.{cons_run}
use Rattle.link_faults.proofs.MeantLaws.{module_placed}
use Rattle.link_faults.proofs.WalkLaws.{follows_here, found_where}
use Rattle.link_faults.proofs.walk.Walker.call.Goals as goal

pub returns-in-None : goal.returns-in-None
returns-in-None c =
    let old = c.args.self.now in
    let n = c.args.callee.now in
    let bs = c.args.bindings.now in
    let text = c.args.text.now in
    let parts = text.parts.now in
    let meant = option_map (λ (m : ModuleNode Name). m.interface) (module_named parts n.name) in
    let none : module_place parts n.name ≡ None = sym (module_placed text n.name c.requires)
    ∙ sym c.place.ensures ∙ c.in-None.is in
    follows_here parts (Call n bs) old (record old { first = c.earlier-self.result }) refl refl
    (sym (append-nil old.runs) ∙ ap (λ o. old.runs ++ (cons_run n o ++ [])) (sym none))
    (λ scope s. c.earlier-self.ensures ∙ ap (earlier old.first) (c.in_ok-found.ensures
    ∙ ap (first_call (meaning_of old.names) n bs) c.interface_of-interface.ensures
    ∙ found_where (λ m args. first_call m n bs meant) scope old s))

pub returns-in_ok-push-in-Some : goal.returns-in_ok-push-in-Some
returns-in_ok-push-in-Some c =
    let old = c.args.self.now in
    let n = c.args.callee.now in
    let bs = c.args.bindings.now in
    let text = c.args.text.now in
    let parts = text.parts.now in
    let meant = option_map (λ (m : ModuleNode Name). m.interface) (module_named parts n.name) in
    let there : module_place parts n.name ≡ Some c.in-Some.place = sym (module_placed text n.name c.requires)
    ∙ sym c.place.ensures ∙ c.in-Some.is in
    follows_here parts (Call n bs) old (record old { first = c.earlier-self.result; runs = c.push.new.self })
    refl refl
    (c.in_ok-push-in-Some.ensures.ok ∙ ap (λ o. old.runs ++ (cons_run n o ++ [])) (sym there))
    (λ scope s. c.earlier-self.ensures ∙ ap (earlier old.first) (c.in_ok-found.ensures
    ∙ ap (first_call (meaning_of old.names) n bs) c.interface_of-interface.ensures
    ∙ found_where (λ m args. first_call m n bs meant) scope old s))
