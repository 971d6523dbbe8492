use Rattle.std.proofs.Common.{◌≡◌, cond, Some, None, ◌∙◌, ap, sym}
use Rattle.std.specs.Prelude.{string_bytes}
use Rattle.std.specs.Str.{bytes_eq}
use Rattle.std.proofs.lemmas.Map.Text.{hash_map_updates_text}
use Rattle.link_faults.specs.NameTables.{place_in_table}
use Rattle.link_faults.proofs.TableLaws.{added_new}
use Rattle.link_faults.proofs.table.Table.add.Goals as goal

pub returns-in_ok-insert-in-None-clause-found : goal.returns-in_ok-insert-in-None-clause-found
returns-in_ok-insert-in-None-clause-found c =
    let old = c.args.self.now in
    let new = record old { places = c.insert.new.self } in
    let none : place_in_table old c.args.name.now ≡ None = sym c.place.ensures ∙ c.in-None.is in
    let key : string_bytes c.in_ok-key-in-None.key ≡ c.args.name.now = c.in_ok-key-in-None.ensures.ok ∙ c.as_str.ensures.text in
    let step = hash_map_updates_text (string_bytes c.in_ok-key-in-None.key) old.places c.insert.new.self
    (Some c.args.place) c.in_ok-insert-in-None.ensures.updates in
    added_new (place_in_table old) (place_in_table new) c.args.name.now c.args.place none
    (λ q. step q ∙ ap (λ k. cond (bytes_eq k q) (Some c.args.place) (place_in_table old q)) key)
