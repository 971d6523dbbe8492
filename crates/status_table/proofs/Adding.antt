-- One emission more in the tallies.
use Rattle.std.proofs.Common.{◌≡◌, refl, sym, ap, ◌∙◌, subst, ℕ, ◌<◌, ◌≤◌, Bool, true, false, cond, ◌==◌}
use Rattle.std.proofs.Common.{Option, Some, List, [], ◌∷◌, ◌++◌, length, set, slice_get, arith, eqb-true}
use Rattle.std.proofs.Common.{eq-eqb, append-nil}
use Rattle.std.proofs.lemmas.Option.{slice_get_within}
use Rattle.std.proofs.Math.ListN.{length-set}
use Rattle.std.proofs.lemmas.Bool.{eqb-false}
use Rattle.hh_base.specs.declared.value.Kind.{Kind}
use Rattle.hh_base.specs.declared.value.CombineWord.{CombineWord}
use Rattle.host_expr.specs.declared.cell.Cell.{Cell}
use Rattle.hh_term.specs.MustCan.{Table, MustCan, Executed, Possible, gives, cells_of}
use Rattle.status_table.specs.declared.tally.Tally.{Tally}
use Rattle.status_table.specs.Tallies.{Adds, tally_of}
use Rattle.hh_base.specs.declared.item.Item.{Item}
use Rattle.host_expr.specs.declared.cell.Cell.TheVariants as cell
use Rattle.status_table.specs.Walking.{Tallied, index_of, first_bag}
use Rattle.status_table.proofs.Reading.{set_here, set_other, set_twice}

pub nothing_adds : (k : Kind) (w : Option CombineWord) (t : Tally) → Adds k w t t [] []
nothing_adds k w t = record {
  adds = λ m c e. e ∙ ap (λ z. tally_of k w z c) (sym (append-nil m)) ∙ ap (tally_of k w (m ++ []))
      (sym (append-nil c));
}

pub adds_same : (k : Kind) (w : Option CombineWord) (t u : Tally) (m m' c c' : List Cell) → m ≡ m' → c ≡ c' →
    Adds k w t u m c → Adds k w t u m' c'
adds_same k w t u m m' c c' e f h = subst (λ z. Adds k w t u z c') e (subst (λ z. Adds k w t u m z) f h)

-- the signal's tally is replaced by one with these emissions more
pub one_tallied : (T : Table) (s : ℕ) (a : MustCan) (before : List Tally) (t u x : Tally) → s < length before
    → slice_get before s ≡ Some t → Adds (T.kind s) (T.word s) t u (cells_of s a.must) (cells_of s a.can) →
    ((r : ℕ) → (r == s) ≡ false → (cells_of r a.must ≡ []) × (cells_of r a.can ≡ [])) → Tallied T a before
    (set (set before s x) s u)
one_tallied T s a before t u x h here adds others =
    subst (Tallied T a before) (sym (set_twice before s u x))
    (record { count = length-set before s u; adds = λ r v e. at_test r v e (r == s) refl })
  where
    at_test : (r : ℕ) (v : Tally) → slice_get before r ≡ Some v → (b : Bool) → (r == s) ≡ b → (z : Tally) ×
        (slice_get (set before s u) r ≡ Some z) × Adds (T.kind r) (T.word r) v z (cells_of r a.must)
        (cells_of r a.can)
    at_test r v e true q =
        let same : r ≡ s = eqb-true r s q in
        let tv : t ≡ v = some_same t v (sym here ∙ ap (slice_get before) (sym same) ∙ e) in (
          u,
          ap (slice_get (set before s u)) same ∙ set_here before s u h,
          subst (λ i. Adds (T.kind i) (T.word i) v u (cells_of i a.must) (cells_of i a.can)) (sym same)
              (subst (λ z. Adds (T.kind s) (T.word s) z u (cells_of s a.must) (cells_of s a.can)) tv adds),
        )
      where
        some_same : (x y : Tally) → Some x ≡ Some y → x ≡ y
        some_same x y e = cc
    at_test r v e false q = (
      v,
      set_other before s r u (eqb-false r s q) ∙ e,
      adds_same (T.kind r) (T.word r) v v []
          (cells_of r a.must) [] (cells_of r a.can) (sym (others r q).0) (sym (others r q).1)
          (nothing_adds (T.kind r) (T.word r) v),
    )

here_cells : (s : ℕ) (c : Cell) → cells_of s ((s, c) ∷ []) ≡ c ∷ []
here_cells s c = ap (λ b. cond b (c ∷ []) []) (eq-eqb s s refl)

swap_eqb : (r s : ℕ) → (r == s) ≡ false → (s == r) ≡ false
swap_eqb r s e = at_test (s == r) refl
  where
    at_test : (b : Bool) → (s == r) ≡ b → (s == r) ≡ false
    at_test false q = q
    at_test true q = let x : (r == s) ≡ true = eq-eqb r s (sym (eqb-true s r q)) in let y : true ≡ false = sym
        x ∙ e in cc

other_cells : (r s : ℕ) (c : Cell) → (r == s) ≡ false → cells_of r ((s, c) ∷ []) ≡ []
other_cells r s c e = ap (λ b. cond b (c ∷ []) []) (swap_eqb r s e)

pub executed_tallied : (T : Table) (s : ℕ) (c : Cell) (before : List Tally) (t u x : Tally) → s < length
    before → slice_get before s ≡ Some t → Adds (T.kind s) (T.word s) t u (c ∷ []) (c ∷ []) → Tallied T
    (gives ((s, c) ∷ []) 0 Executed) before (set (set before s x) s u)
executed_tallied T s c before t u x h here adds =
    one_tallied T s (gives ((s, c) ∷ []) 0 Executed) before t u x h here
    (adds_same (T.kind s) (T.word s) t u (c ∷ []) (cells_of s ((s, c) ∷ [])) (c ∷ [])
    (cells_of s ((s, c) ∷ [])) (sym (here_cells s c)) (sym (here_cells s c)) adds)
    (λ r e. (other_cells r s c e, other_cells r s c e))

pub possible_tallied : (T : Table) (s : ℕ) (c : Cell) (before : List Tally) (t u x : Tally) → s < length
    before → slice_get before s ≡ Some t → Adds (T.kind s) (T.word s) t u [] (c ∷ []) → Tallied T
    (gives ((s, c) ∷ []) 0 Possible) before (set (set before s x) s u)
possible_tallied T s c before t u x h here adds =
    one_tallied T s (gives ((s, c) ∷ []) 0 Possible) before t u x h here
    (adds_same (T.kind s) (T.word s) t u [] [] (c ∷ []) (cells_of s ((s, c) ∷ [])) refl
    (sym (here_cells s c)) adds) (λ r e. (refl, other_cells r s c e))

-- a signal past the tallies
pub past_tallied : (T : Table) (a : MustCan) (s : ℕ) (before : List Tally) → length before ≤ s →
    ((r : ℕ) → (r == s) ≡ false → (cells_of r a.must ≡ []) × (cells_of r a.can ≡ [])) → Tallied T a before
    before
past_tallied T a s before h others = record {
  count = refl;
  adds = λ r v e.
      let lt = slice_get_within before r v e in
      let ne : (r == s) ≡ false = not_eq r lt in (
        v,
        e,
        adds_same (T.kind r) (T.word r) v v [] (cells_of r a.must) [] (cells_of r a.can) (sym (others r ne).0)
            (sym (others r ne).1) (nothing_adds (T.kind r) (T.word r) v),
      );
}
  where
    not_eq : (r : ℕ) → r < length before → (r == s) ≡ false
    not_eq r lt = at_test (r == s) refl
      where
        at_test : (b : Bool) → (r == s) ≡ b → (r == s) ≡ false
        at_test false q = q
        at_test true q = let x : r ≡ s = eqb-true r s q in absurd (omega arith)

pub executed_past : (T : Table) (s : ℕ) (c : Cell) (before : List Tally) → length before ≤ s → Tallied T
    (gives ((s, c) ∷ []) 0 Executed) before before
executed_past T s c before h = past_tallied T (gives ((s, c) ∷ []) 0 Executed) s before h
    (λ r e. (other_cells r s c e, other_cells r s c e))

pub possible_past : (T : Table) (s : ℕ) (c : Cell) (before : List Tally) → length before ≤ s → Tallied T
    (gives ((s, c) ∷ []) 0 Possible) before before
possible_past T s c before h = past_tallied T (gives ((s, c) ∷ []) 0 Possible) s before h
    (λ r e. (refl, other_cells r s c e))

-- the first answer of a queue, only possible
pub possible_first : (T : Table) (s : ℕ) (o : Option ℕ) (queue : List Item) (k : ℕ) (sure : Bool)
    (before after : List Tally) → sure ≡ false → o ≡ Some s → 0 < length queue →
    ((c : Cell) → Tallied T (gives ((s, c) ∷ []) 0 Possible) before after) → Tallied T
    (gives (first_bag o queue) k (index_of sure)) before after
possible_first T s o [] k sure before after e f l h = absurd (omega arith)
possible_first T s o (a ∷ queue) k true before after e f l h = cc
possible_first T s o (a ∷ queue) k false before after e f l h =
    let x = h (cell.Known a.value) in
    subst (λ z. Tallied T (gives (first_bag z (a ∷ queue)) k Possible) before after) (sym f)
    (record { count = x.count; adds = x.adds })
