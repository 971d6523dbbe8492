use Rattle.std.proofs.Common.{◌≡◌, cond, Some, None, ◌∙◌, ap}
use Rattle.std.specs.Prelude.{string_bytes}
use Rattle.std.specs.Str.{bytes_eq}
use Rattle.std.proofs.lemmas.Slice.Eq.{bytes_eq-Decides}
use Rattle.std.proofs.lemmas.Map.Text.{hash_map_updates_text}
use Rattle.indexmap.specs.IndexMap.{get_by_text}
use Rattle.link_faults.proofs.ScopeLemmas.{scope_left}
use Rattle.link_faults.proofs.scope.Scope.leave.Goals as goal

pub returns-in_ok-insert-in-Some-hidden-clause-scope : goal.returns-in_ok-insert-in-Some-hidden-clause-scope
returns-in_ok-insert-in-Some-hidden-clause-scope c =
    let step = hash_map_updates_text (string_bytes c.in-Some.field-0.name) c.args.self.now.places
    c.insert.new.self (Some c.in-Some-hidden.place) c.in_ok-insert-in-Some-hidden.ensures.updates in
    let outer : Some c.in-Some-hidden.place ≡ c.in-Some.field-0.hidden = cc in
    scope_left c.args.self.now (record { places = c.insert.new.self; declared = c.pop.new.self })
    c.in-Some.field-0 c.requires c.in-Some.ensures
    (λ q. step q ∙ ap (λ o. cond (bytes_eq (string_bytes c.in-Some.field-0.name) q) o
    (get_by_text c.args.self.now.places q)) outer)
    (λ q same. (bytes_eq-Decides (string_bytes c.in-Some.field-0.name) q).0 same)

pub returns-in-None-clause-scope : goal.returns-in-None-clause-scope
returns-in-None-clause-scope c =
    let step = hash_map_updates_text c.as_str.result.now c.args.self.now.places c.swap_remove.new.self None
    c.swap_remove.ensures.updates in
    let text : c.as_str.result.now ≡ string_bytes c.in-Some.field-0.name = cc (c.as_str.ensures.value) in
    let outer : None ≡ c.in-Some.field-0.hidden = cc in
    scope_left c.args.self.now (record { places = c.swap_remove.new.self; declared = c.pop.new.self })
    c.in-Some.field-0 c.requires c.in-Some.ensures
    (λ q. step q ∙ ap (λ k. cond (bytes_eq k q) None (get_by_text c.args.self.now.places q)) text
    ∙ ap (λ o. cond (bytes_eq (string_bytes c.in-Some.field-0.name) q) o
    (get_by_text c.args.self.now.places q)) outer)
    (λ q same. (bytes_eq-Decides (string_bytes c.in-Some.field-0.name) q).0 same)
