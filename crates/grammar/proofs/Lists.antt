-- Lists that are read while a test holds: without the bound on their length, and as loops read them.
use Rattle.std.proofs.Common.{◌≡◌, ℕ, zero, suc, ◌<◌, ◌≤◌, Bool, true, false, cond, ltb, List, [], ◌∷◌, ◌++◌}
use Rattle.std.proofs.Common.{length, append_assoc, Option, Some, Ok, Err, refl, sym, ap, ◌∙◌, arith}
use Rattle.std.specs.Prelude.{fold}
use Rattle.std.proofs.lemmas.Bool.{ltb-true, lt-ltb}
use Rattle.std.proofs.lemmas.List.{append-nil}
use Rattle.grammar.specs.Fault.{Refusal}
use Rattle.grammar.specs.Parser.{Unread, Parser, Parsed, Refuses, and_then, pure, turn, many_for, many, sees}
use Rattle.grammar.specs.Parser.{refusal, refuse}

guard_same : {A : Type 0} (b : Bool) (x y e : A) → (b ≡ true → x ≡ y) → cond b x e ≡ cond b y e
guard_same true x y e h = h refl
guard_same false x y e h = refl

turn_same : {K A : Type 0} (more other : Parser K (List A)) (p : Parser K A) (i : Unread K)
    → ((j : Unread K) → length j.rest < length i.rest → more j ≡ other j) → turn more p i ≡ turn other p i
turn_same more other p i h =
    elim (p i) as (λ o. and_then o (λ x j. cond (ltb (length j.rest) (length i.rest))
    (and_then (more j) (λ xs. pure (x ∷ xs))) (Err (refusal i)))
    ≡ and_then o (λ x j. cond (ltb (length j.rest) (length i.rest)) (and_then (other j) (λ xs. pure (x ∷ xs)))
    (Err (refusal i)))) [
      | Ok q ↦ guard_same (ltb (length q.1.rest) (length i.rest)) _ _ _
          (λ lt. ap (λ o. and_then o (λ xs. pure (q.0 ∷ xs))) (h q.1 (ltb-true _ _ lt)))
      | Err e ↦ refl
    ]

none_below : {X : Type 0} (a b : ℕ) → a < b → b ≤ 0 → X
none_below a b lt le = let h : ⊥ = omega arith in absurd h

module _ {K A : Type 0} (starts : K → Bool) (p : Parser K A) where
  bound_free : (n m : ℕ) (i : Unread K) → length i.rest ≤ n → length i.rest ≤ m
      → many_for n starts p i ≡ many_for m starts p i
  unfolding many_for
  bound_free zero zero i a b = refl
  bound_free zero (suc m) i a b = ap (λ t. cond (sees starts i) t (Ok ([], i)))
      (turn_same refuse (many_for m starts p) p i (λ j lt. none_below (length j.rest) (length i.rest) lt a))
  bound_free (suc n) zero i a b = ap (λ t. cond (sees starts i) t (Ok ([], i)))
      (turn_same (many_for n starts p) refuse p i (λ j lt. none_below (length j.rest) (length i.rest) lt b))
  bound_free (suc n) (suc m) i a b = ap (λ t. cond (sees starts i) t (Ok ([], i)))
      (turn_same (many_for n starts p) (many_for m starts p) p i
      (λ j lt. bound_free n m j (omega arith) (omega arith)))

  opened_by : (n : ℕ) (i : Unread K) → length i.rest ≡ n → many_for n starts p i
      ≡ cond (sees starts i) (turn (many starts p) p i) (Ok ([], i))
  unfolding many_for many
  opened_by zero i e = ap (λ t. cond (sees starts i) t (Ok ([], i)))
      (turn_same refuse (λ j. many_for (length j.rest) starts p j) p i
      (λ j lt. none_below (length j.rest) (length i.rest) lt (omega arith)))
  opened_by (suc n) i e = ap (λ t. cond (sees starts i) t (Ok ([], i)))
      (turn_same (many_for n starts p) (λ j. many_for (length j.rest) starts p j) p i
      (λ j lt. bound_free n (length j.rest) j (omega arith) (omega arith)))

  -- a list is nothing, or an item and a list
  pub many_open : (i : Unread K) → many starts p i ≡ cond (sees starts i) (turn (many starts p) p i)
      (Ok ([], i))
  unfolding many
  many_open i = opened_by (length i.rest) i refl

  -- no more items
  pub many_done : (i : Unread K) → sees starts i ≡ false → many starts p i ≡ Ok ([], i)
  many_done i e = many_open i ∙ rw e refl

  -- one more item
  pub many_more : (i : Unread K) (x : A) (j : Unread K) → sees starts i ≡ true → p i ≡ Ok (x, j)
      → length j.rest < length i.rest → many starts p i ≡ and_then (many starts p j) (λ xs. pure (x ∷ xs))
  many_more i x j s e lt = many_open i ∙ rw (s, e, lt-ltb _ _ lt) refl

  -- an item that is refused
  pub many_fails : (i : Unread K) (r : Refusal) → sees starts i ≡ true → p i ≡ Err r → many starts p i ≡ Err r
  many_fails i r s e = many_open i ∙ rw (s, e) refl

-- ---- a loop that keeps the items in a list

module _ {K A : Type 0} (starts : K → Bool) (p : Parser K A) where
  -- the whole is what was read so far, and what is still to be read: the invariant of such a loop
  abbrev pub Rest : Parsed K (List A) → List A → Unread K → Type 0
  Rest whole so_far i = whole ≡ and_then (many starts p i) (λ xs. pure (so_far ++ xs))

  joined : (o : Parsed K (List A)) → o ≡ and_then o (λ xs. pure ([] ++ xs))
  joined (Ok q) = refl
  joined (Err r) = refl

  -- before the first item
  pub list_init : (i : Unread K) → Rest (many starts p i) [] i
  list_init i = joined (many starts p i)

  -- behind the last item
  pub list_done : (whole : Parsed K (List A)) (so_far : List A) (i : Unread K) → sees starts i ≡ false
      → Rest whole so_far i → whole ≡ Ok (so_far, i)
  list_done whole so_far i s e = e ∙ ap (λ o. and_then o (λ xs. pure (so_far ++ xs))) (many_done starts p i s)
      ∙ ap (λ (xs : List A). Ok (xs, i)) (append-nil so_far)

  regroup : (o : Parsed K (List A)) (x : A) (so_far : List A)
      → and_then (and_then o (λ xs. pure (x ∷ xs))) (λ xs. pure (so_far ++ xs))
      ≡ and_then o (λ xs. pure ((so_far ++ x ∷ []) ++ xs))
  regroup (Ok q) x so_far = ap (λ (xs : List A). Ok (xs, q.1)) (sym (append_assoc so_far (x ∷ []) q.0))
  regroup (Err r) x so_far = refl

  -- behind one more item
  pub list_more : (whole : Parsed K (List A)) (so_far : List A) (i : Unread K) (x : A) (j : Unread K)
      → sees starts i ≡ true → p i ≡ Ok (x, j) → length j.rest < length i.rest → Rest whole so_far i
      → Rest whole (so_far ++ x ∷ []) j
  list_more whole so_far i x j s e lt left = left ∙ ap (λ o. and_then o (λ xs. pure (so_far ++ xs)))
      (many_more starts p i x j s e lt) ∙ regroup (many starts p j) x so_far

  -- where an item is refused. seen: what refusal an error is
  pub list_fails : {E : Type 0} (seen : E → Option Refusal) (whole : Parsed K (List A)) (so_far : List A)
      (i new : Unread K) (f : E) → sees starts i ≡ true
      → ((r : Refusal) → seen f ≡ Some r → Refuses (p i) r new) → Rest whole so_far i → (r : Refusal)
      → seen f ≡ Some r → Refuses whole r new
  list_fails seen whole so_far i new f s e left r h = let item = e r h in record {
    refused = left ∙ ap (λ o. and_then o (λ xs. pure (so_far ++ xs)))
        (many_fails starts p i r s item.refused);
    stands = item.stands;
  }

-- ---- a loop that folds the items as they come

module _ {K A B : Type 0} (starts : K → Bool) (p : Parser K A) (step : B → A → B) where
  -- the same, for what the items are folded into
  abbrev pub Left : Parsed K B → B → Unread K → Type 0
  Left whole so_far i = whole ≡ and_then (many starts p i) (λ xs. pure (fold step so_far xs))

  pub fold_done : (whole : Parsed K B) (so_far : B) (i : Unread K) → sees starts i ≡ false
      → Left whole so_far i → whole ≡ Ok (so_far, i)
  fold_done whole so_far i s e = e ∙ ap (λ o. and_then o (λ xs. pure (fold step so_far xs)))
      (many_done starts p i s)

  refold : (o : Parsed K (List A)) (x : A) (so_far : B) → and_then (and_then o (λ xs. pure (x ∷ xs)))
      (λ xs. pure (fold step so_far xs)) ≡ and_then o (λ xs. pure (fold step (step so_far x) xs))
  refold (Ok q) x so_far = refl
  refold (Err r) x so_far = refl

  pub fold_more : (whole : Parsed K B) (so_far : B) (i : Unread K) (x : A) (j : Unread K)
      → sees starts i ≡ true → p i ≡ Ok (x, j) → length j.rest < length i.rest → Left whole so_far i
      → Left whole (step so_far x) j
  fold_more whole so_far i x j s e lt left = left ∙ ap (λ o. and_then o (λ xs. pure (fold step so_far xs)))
      (many_more starts p i x j s e lt) ∙ refold (many starts p j) x so_far

  pub fold_fails : {E : Type 0} (seen : E → Option Refusal) (whole : Parsed K B) (so_far : B)
      (i new : Unread K) (f : E) → sees starts i ≡ true
      → ((r : Refusal) → seen f ≡ Some r → Refuses (p i) r new) → Left whole so_far i → (r : Refusal)
      → seen f ≡ Some r → Refuses whole r new
  fold_fails seen whole so_far i new f s e left r h = let item = e r h in record {
    refused = left ∙ ap (λ o. and_then o (λ xs. pure (fold step so_far xs)))
        (many_fails starts p i r s item.refused);
    stands = item.stands;
  }
