-- One name more in a table of the names of a list.
use Rattle.std.proofs.Common.{◌≡◌, ℕ, ◌+◌, ◌||◌, Bool, true, false, cond, Option, Some, None, List, [], ◌∷◌}
use Rattle.std.proofs.Common.{◌++◌, length, map, refl, sym, ◌∙◌, ap, arith}
use Rattle.std.specs.Prelude.{is_some}
use Rattle.std.specs.Str.{bytes_eq}
use Rattle.std.proofs.Common.{append_assoc}
use Rattle.std.proofs.lemmas.Slice.Eq.{bytes_eq-Decides}
use Rattle.std.proofs.lemmas.List.{length-map, map-append}
use Rattle.module_tree.specs.declared.source.NameAt.{NameAt}
use Rattle.link_faults.specs.declared.fault.LinkKind.{LinkKind}
use Rattle.link_faults.specs.declared.table.Table.{Table}
use Rattle.link_faults.specs.Faults.{earlier}
use Rattle.link_faults.specs.Earliest.{first_at}
use Rattle.link_faults.specs.Named.{Name, place_from, place_of, is_named}
use Rattle.link_faults.specs.Rows.{repeated, repeated_behind, here_if}
use Rattle.link_faults.specs.NameTables.{IsTable, place_in_table, has_name, name_of, or_place}
use Rattle.link_faults.proofs.EarlierLaws.{first_at_joined}

place_behind : (n : ℕ) (names : List Name) (m : Name) (q : Name)
    → place_from n (names ++ m ∷ []) q ≡ or_place (place_from n names q)
    (cond (bytes_eq m q) (Some (n + length names)) None)
place_behind n [] m q = ap (λ k. cond (bytes_eq m q) (Some k) None) (omega arith)
place_behind n (k ∷ names) m q = by (bytes_eq k q)
    (place_behind (n + 1) names m q ∙ ap (λ j. or_place (place_from (n + 1) names q)
    (cond (bytes_eq m q) (Some j) None)) (omega arith))
  where
    by : (b : Bool) → place_from (n + 1) (names ++ m ∷ []) q ≡ or_place (place_from (n + 1) names q)
        (cond (bytes_eq m q) (Some (n + length (k ∷ names))) None)
        → cond b (Some n) (place_from (n + 1) (names ++ m ∷ []) q)
        ≡ or_place (cond b (Some n) (place_from (n + 1) names q))
        (cond (bytes_eq m q) (Some (n + length (k ∷ names))) None)
    by true rest = refl
    by false rest = rest

-- a name has a place where it is among the names
pub placed_if_named : (n : ℕ) (names : List Name) (q : Name)
    → is_some (place_from n names q) ≡ is_named names q
placed_if_named n [] q = refl
placed_if_named n (m ∷ names) q = by (bytes_eq m q) (placed_if_named (n + 1) names q)
  where
    by : (b : Bool) → is_some (place_from (n + 1) names q) ≡ is_named names q
        → is_some (cond b (Some n) (place_from (n + 1) names q)) ≡ (b || is_named names q)
    by true e = refl
    by false e = e

or_turned : (a b c : Bool) → ((a || b) || c) ≡ (b || (a || c))
or_turned true true c = refl
or_turned true false c = refl
or_turned false b c = refl

pub repeated_more : (before : List Name) (names : List (NameAt Name)) (n : NameAt Name)
    → repeated_behind before (names ++ n ∷ []) ≡ repeated_behind before names
    ++ here_if (is_named before n.name || is_named (map name_of names) n.name) n.pos
repeated_more before [] n = by (is_named before n.name)
  where
    by : (b : Bool) → here_if b n.pos ++ [] ≡ here_if (b || false) n.pos
    by true = refl
    by false = refl
repeated_more before (m ∷ names) n =
    ap (λ ps. here_if (is_named before m.name) m.pos ++ ps) (repeated_more (m.name ∷ before) names n
    ∙ ap (λ b. repeated_behind (m.name ∷ before) names ++ here_if b n.pos)
    (or_turned (bytes_eq m.name n.name) (is_named before n.name) (is_named (map name_of names) n.name)))
    ∙ sym (append_assoc (here_if (is_named before m.name) m.pos) (repeated_behind (m.name ∷ before) names)
    (here_if (is_named before n.name || is_named (map name_of (m ∷ names)) n.name) n.pos))

-- ---- in the table

same_bytes : (m q : Name) → bytes_eq m q ≡ true → m ≡ q
same_bytes m q e = (bytes_eq-Decides m q).0 e

pub added_known : (old : Name → Option ℕ) (name : Name) (p place : ℕ) → old name ≡ Some p → (q : Name)
    → old q ≡ or_place (old q) (cond (bytes_eq name q) (Some place) None)
added_known old name p place is q = by (bytes_eq name q) refl
  where
    none : (o : Option ℕ) → o ≡ or_place o None
    none None = refl
    none (Some a) = refl

    by : (b : Bool) → bytes_eq name q ≡ b → old q ≡ or_place (old q) (cond b (Some place) None)
    by true e =
        let at : old q ≡ Some p = ap old (sym (same_bytes name q e)) ∙ is in
        at ∙ ap (λ o. or_place o (Some place)) (sym at)
    by false e = none (old q)

pub added_new : (old new : Name → Option ℕ) (name : Name) (place : ℕ) → old name ≡ None
    → ((q : Name) → new q ≡ cond (bytes_eq name q) (Some place) (old q)) → (q : Name)
    → new q ≡ or_place (old q) (cond (bytes_eq name q) (Some place) None)
added_new old new name place none is q = is q ∙ by (bytes_eq name q) refl
  where
    stays : (o : Option ℕ) → o ≡ or_place o None
    stays None = refl
    stays (Some a) = refl

    by : (b : Bool) → bytes_eq name q ≡ b → cond b (Some place) (old q)
        ≡ or_place (old q) (cond b (Some place) None)
    by true e = ap (λ o. or_place o (Some place)) (sym (ap old (sym (same_bytes name q e)) ∙ none))
    by false e = stays (old q)

-- one name more
pub declared_one : (k : LinkKind) (names : List (NameAt Name)) (n : NameAt Name) (place : ℕ)
    (old new : Table) → IsTable k names old → place ≡ length names
    → ((q : Name) → place_in_table new q ≡ or_place (place_in_table old q)
    (cond (bytes_eq n.name q) (Some place) None))
    → new.twice ≡ old.twice
    → new.first ≡ earlier old.first (first_at old.twice (here_if (has_name old n.name) n.pos))
    → IsTable k (names ++ n ∷ []) new
declared_one k names n place old new t at found kind first = record {
  found = λ q. found q ∙ ap (λ o. or_place o (cond (bytes_eq n.name q) (Some place) None)) (t.found q)
      ∙ ap (λ j. or_place (place_of (map name_of names) q) (cond (bytes_eq n.name q) (Some j) None))
      (at ∙ sym (length-map names name_of) ∙ from_none (length (map name_of names)))
      ∙ sym (place_behind 0 (map name_of names) n.name q)
      ∙ ap (λ ns. place_of ns q) (sym (map-append name_of names (n ∷ [])));
  kind = kind ∙ t.kind;
  first = first ∙ ap (λ o. earlier o (first_at old.twice (here_if (has_name old n.name) n.pos))) t.first
      ∙ ap (λ j. earlier (first_at k (repeated names)) (first_at j (here_if (has_name old n.name) n.pos)))
      t.kind
      ∙ ap (λ b. earlier (first_at k (repeated names)) (first_at k (here_if b n.pos)))
      (ap is_some (t.found n.name) ∙ placed_if_named 0 (map name_of names) n.name)
      ∙ sym (first_at_joined k (repeated names) (here_if (is_named (map name_of names) n.name) n.pos))
      ∙ ap (first_at k) (sym (repeated_more [] names n));
}
  where
    from_none : (m : ℕ) → m ≡ 0 + m
    from_none m = omega arith

pub named_in_table : (k : LinkKind) (names : List (NameAt Name)) (t : Table) (q : Name) → IsTable k names t
    → has_name t q ≡ is_named (map name_of names) q
named_in_table k names t q table = ap is_some (table.found q) ∙ placed_if_named 0 (map name_of names) q
