use Rattle.std.proofs.Common.{cond, Some, refl, ◌∙◌, ap}
use Rattle.std.specs.Prelude.{string_bytes}
use Rattle.std.specs.Str.{bytes_eq}
use Rattle.std.proofs.lemmas.Map.Text.{hash_map_updates_text}
use Rattle.indexmap.specs.IndexMap.{get_by_text}
use Rattle.link_faults.proofs.ScopeLemmas.{scope_entered}
use Rattle.link_faults.proofs.scope.Scope.enter.Goals as goal

pub returns-clause-scope : goal.returns-clause-scope
returns-clause-scope c =
    let step = hash_map_updates_text (string_bytes c.in_ok-key.key) c.args.self.now.places
    c.insert.new.self (Some c.args.place) c.in_ok-insert.ensures.updates in
    scope_entered c.args.self.now (record { places = c.insert.new.self; declared = c.push.new.self })
    (record { name = c.in_ok-from_str.field-0; place = c.args.place; hidden = c.find-hidden.result })
    c.args.name.now c.args.place
    c.requires c.in_ok-push.ensures.ok c.in_ok-from_str.ensures.ok refl c.find-hidden.ensures
    (λ q. step q ∙ ap (λ k. cond (bytes_eq k q) (Some c.args.place) (get_by_text c.args.self.now.places q))
    c.in_ok-key.ensures.ok)
