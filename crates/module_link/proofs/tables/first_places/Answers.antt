use Rattle.std.proofs.Common.{◌≡◌, ℕ, true, false, map, take, length, Option, Some, None, refl, sym, ap, ◌∙◌}
use Rattle.std.proofs.Common.{arith, Bor, cond}
use Rattle.std.specs.Str.{bytes_eq}
use Rattle.std.specs.Option.{option_copied}
use Rattle.std.specs.Prelude.{string_bytes, is_some}
use Rattle.std.proofs.lemmas.Map.Text.{hash_map_updates_text}
use Rattle.std.proofs.lemmas.List.{length-map, length-take-le}
use Rattle.indexmap.specs.IndexMap.{get_by_text}
use Rattle.link_faults.specs.Named.{Name, place_of}
use Rattle.module_link.proofs.FirstPlaces.{place_added, place_kept, names_more}
use Rattle.module_link.proofs.tables.first_places.Goals as goal
use Rattle.module_link.proofs.tables.first_places.Goals.{then-is_none+in_ok-key+in_ok-insert, else-is_none}

not_there : (o : Option (Bor ℕ)) → is_some o ≡ false → option_copied o ≡ None
not_there None e = refl
not_there (Some a) e = absurd (wrong e)
  where
    wrong : true ≡ false → ⊥
    wrong e = cc

there : (o : Option (Bor ℕ)) → is_some o ≡ true → option_copied o ≡ None → ⊥
there None e = λ h. wrong e
  where
    wrong : false ≡ true → ⊥
    wrong e = cc
there (Some a) e = λ h. wrong h
  where
    wrong : Some a.now ≡ None → ⊥
    wrong e = cc

pub names-preserved : goal.names-preserved
names-preserved c = λ q.
    let names = c.args.names.now in
    let at = c.names.at in
    let x = c.index-names-at.result.now in
    let before = map (λ (m : Bor Name). m.now) (take at names) in
    let size : at ≡ length before = sym (length-map (take at names) (λ (m : Bor Name). m.now)
    ∙ length-take-le at names (omega (arith, c.names-test.true))) in
    let more = names_more names at c.index-names-at.result (omega (arith, c.names-test.true))
    c.index-names-at.is in
    let old = get_by_text c.names.places in
    let found : option_copied c.get.result ≡ old x = c.get.ensures.value ∙ ap old c.as_str-name.ensures.text in
    elim c.if-is_none.branch [
      | then-is_none+in_ok-key+in_ok-insert w ↦
          let step = hash_map_updates_text (string_bytes w.in_ok-key.key) c.names.places
          w.insert.new.self (Some at) w.in_ok-insert.ensures.updates in
          ap (λ m. get_by_text m q) w.places-is
          ∙ place_added before x old (get_by_text w.insert.new.self) at size c.names.invariant
          (sym found ∙ not_there c.get.result w.if-is_none.ensures)
          (λ q. step q ∙ ap (λ k. cond (bytes_eq k q) (Some at) (old q))
          (w.in_ok-key.ensures.ok ∙ c.as_str-name.ensures.text)) q
          ∙ ap (λ ns. place_of ns q) (sym more)
      | else-is_none w ↦
          ap (λ m. get_by_text m q) w.places-is
          ∙ place_kept before x old c.names.invariant
          (λ e. there c.get.result w.if-is_none.ensures (found ∙ e)) q
          ∙ ap (λ ns. place_of ns q) (sym more)
    ]
