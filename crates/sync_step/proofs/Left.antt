-- What is said of the interface signals where they are left: each is judged by its own emissions, those that were
-- given among them.
use Rattle.std.proofs.Common.{◌≡◌, ◌≢◌, refl, sym, ap, ◌∙◌, ℕ, suc, ◌+◌, ◌<◌, Bool, true, false}
use Rattle.std.proofs.Common.{cond, ◌==◌, Option, Some, None, List, [], ◌∷◌, ◌++◌, length, map, arith, eqb-true, eq-eqb}
use Rattle.std.proofs.Common.{append_assoc}
use Rattle.std.specs.Prelude.{flat_map}
use Rattle.std.specs.List.{AllByRecursion, range_with_len}
use Rattle.std.proofs.lemmas.Bool.{eqb-false}
use Rattle.hh_base.specs.declared.value.Value.{Value}
use Rattle.host_expr.specs.declared.cell.Cell.{Cell}
use Rattle.host_expr.specs.declared.cell.Cell.TheVariants as cell
use Rattle.host_expr.specs.Combination.{counts_as}
use Rattle.hh_term.specs.MustCan.{Table, Bag, cells_of, without}
use Rattle.hh_term.specs.Reaction.{Last, Outer, outers_from, given_to, given_bag, leave_all}
use Rattle.hh_term.specs.Step.{Stepped, doubled_by, overflow_by, values_of}
use Rattle.status_rounds.specs.Given.{given_all, NoneTwice}
use Rattle.status_table.specs.WholeProgram.{NotIn}
use Rattle.status_table.proofs.Meeting.{cells-append, cells-without-other}

abbrev pub outer_at : ℕ → List (ℕ × Value) → Last → Outer
outer_at k is l = record { signal = k; last = l; given = given_to is k }

differs : (s k : ℕ) → (s ≡ k → ⊥) → (s == k) ≡ false
differs s k h = at_test (s == k) refl
  where
    at_test : (b : Bool) → (s == k) ≡ b → (s == k) ≡ false
    at_test true e = absurd (h (eqb-true s k e))
    at_test false e = e

swapped : (s k : ℕ) → (s == k) ≡ false → (k == s) ≡ false
swapped s k e = differs k s (λ q. eqb-false s k e (sym q))

not_from : (k s : ℕ) (is : List (ℕ × Value)) (ls : List Last) → s < k → NotIn s (outers_from k is ls)
not_from k s is [] h = tt
not_from k s is (l ∷ ls) h =
    (differs s k (λ e. absurd (omega (arith, e, h))), not_from (suc k) s is ls (omega (arith, h)))

-- ---- a given input is the one emission that is given to its signal

abbrev given_cells : Option Value → List Cell
given_cells (Some v) = cell.Known v ∷ []
given_cells None = []

none_given : (s : ℕ) (i : ℕ × Value) (is : List (ℕ × Value)) → i.0 ≡ s → AllByRecursion (λ j. i.0 ≢ j.0) is →
    cells_of s (given_all is) ≡ []
none_given s i [] e h = refl
none_given s i (j ∷ is) e h =
    let d : (j.0 == s) ≡ false = differs j.0 s (λ q. h.0 (e ∙ sym q)) in
    ap (λ b. cond b (cell.Known j.1 ∷ cells_of s (given_all is)) (cells_of s (given_all is))) d ∙ none_given s i is e h.1

only_given : (s : ℕ) (is : List (ℕ × Value)) → NoneTwice is → cells_of s (given_all is) ≡ given_cells (given_to is s)
only_given s [] h = refl
only_given s (i ∷ is) h = at_test (only_given s is h.1) (i.0 == s) refl
  where
    at_test : cells_of s (given_all is) ≡ given_cells (given_to is s) → (b : Bool) → (i.0 == s) ≡ b → cond (i.0 == s)
        (cell.Known i.1 ∷ cells_of s (given_all is)) (cells_of s (given_all is))
        ≡ given_cells (cond (i.0 == s) (Some i.1) (given_to is s))
    at_test r true e =
        ap (λ b. cond b (cell.Known i.1 ∷ cells_of s (given_all is)) (cells_of s (given_all is))) e
        ∙ ap (λ z. cell.Known i.1 ∷ z) (none_given s i is (eqb-true i.0 s e) h.0)
        ∙ sym (ap (λ b. given_cells (cond b (Some i.1) (given_to is s))) e)
    at_test r false e =
        ap (λ b. cond b (cell.Known i.1 ∷ cells_of s (given_all is)) (cells_of s (given_all is))) e ∙ r
        ∙ sym (ap (λ b. given_cells (cond b (Some i.1) (given_to is s))) e)

bag_here : (k : ℕ) (v : Option Value) (l : Last) → cells_of k
    (given_bag (record { signal = k; last = l; given = v })) ≡ given_cells v
bag_here k (Some v) l = ap (λ b. cond b (cell.Known v ∷ []) []) (eq-eqb k k refl)
bag_here k None l = refl

bag_other : (s k : ℕ) (v : Option Value) (l : Last) → (s == k) ≡ false → cells_of s
    (given_bag (record { signal = k; last = l; given = v })) ≡ []
bag_other s k (Some v) l e = ap (λ b. cond b (cell.Known v ∷ []) []) (swapped s k e)
bag_other s k None l e = refl

-- the emissions of a signal with those that are given
pub given_too : (k : ℕ) (is : List (ℕ × Value)) (l : Last) (bag : Bag) → NoneTwice is → cells_of k
    (given_bag (outer_at k is l) ++ bag) ≡ cells_of k (given_all is ++ bag)
given_too k is l bag h =
    cells-append k (given_bag (outer_at k is l)) bag
    ∙ ap (λ z. z ++ cells_of k bag) (bag_here k (given_to is k) l ∙ sym (only_given k is h))
    ∙ sym (cells-append k (given_all is) bag)

given_other : (s : ℕ) (o : Outer) (bag : Bag) → (s == o.signal) ≡ false → cells_of s
    (without o.signal (given_bag o ++ bag)) ≡ cells_of s bag
given_other s o bag e =
    cells-without-other s o.signal (given_bag o ++ bag) e ∙ cells-append s (given_bag o) bag
    ∙ ap (λ z. z ++ cells_of s bag) (bag_other s o.signal o.given o.last e)

-- ---- what is left

module _ (T : Table) (is : List (ℕ × Value)) (twice : NoneTwice is) (a : Stepped) where
  abbrev pub values_at : ℕ → List Value
  values_at s = values_of T s (given_all is ++ a.bag)

  cells_left : (s : ℕ) (os : List Outer) → NotIn s os → cells_of s (leave_all T os a).bag ≡ cells_of s a.bag
  cells_left s [] h = refl
  cells_left s (o ∷ os) h = given_other s o (leave_all T os a).bag h.0 ∙ cells_left s os h.1

  values_left : (k : ℕ) (l : Last) (ls : List Last) → values_of T k
      (given_bag (outer_at k is l) ++ (leave_all T (outers_from (suc k) is ls) a).bag) ≡ values_at k
  values_left k l ls =
      let b : Bag = (leave_all T (outers_from (suc k) is ls) a).bag in
      ap (map (counts_as (T.kind k)))
      (given_too k is l b twice ∙ cells-append k (given_all is) b
      ∙ ap (λ z. cells_of k (given_all is) ++ z)
      (cells_left k (outers_from (suc k) is ls) (not_from (suc k) k is ls (omega arith)))
      ∙ sym (cells-append k (given_all is) a.bag))

  range_more : {A : Type 0} (f : ℕ → List A) (k n : ℕ) (rest xs : List A) →
      xs ≡ flat_map f (range_with_len (suc k) n) ++ rest →
      f k ++ xs ≡ flat_map f (range_with_len k (suc n)) ++ rest
  range_more f k n rest xs e =
      let more : suc k ≡ k + 1 = omega arith in
      ap (λ z. f k ++ z) (e ∙ ap (λ m. flat_map f (range_with_len m n) ++ rest) more)
      ∙ sym (append_assoc (f k) (flat_map f (range_with_len (k + 1) n)) rest)

  pub faults_left : (k : ℕ) (ls : List Last) → (leave_all T (outers_from k is ls) a).faults
      ≡ flat_map (λ s. overflow_by T s (values_at s)) (range_with_len k (length ls)) ++ a.faults
  faults_left k [] = refl
  faults_left k (l ∷ ls) =
      ap (λ vs. overflow_by T k vs ++ (leave_all T (outers_from (suc k) is ls) a).faults) (values_left k l ls)
      ∙ range_more (λ s. overflow_by T s (values_at s)) k (length ls) a.faults
      (leave_all T (outers_from (suc k) is ls) a).faults (faults_left (suc k) ls)

  pub doubled_left : (k : ℕ) (ls : List Last) → (leave_all T (outers_from k is ls) a).doubled
      ≡ flat_map (λ s. doubled_by T s (values_at s)) (range_with_len k (length ls)) ++ a.doubled
  doubled_left k [] = refl
  doubled_left k (l ∷ ls) =
      ap (λ vs. doubled_by T k vs ++ (leave_all T (outers_from (suc k) is ls) a).doubled) (values_left k l ls)
      ∙ range_more (λ s. doubled_by T s (values_at s)) k (length ls) a.doubled
      (leave_all T (outers_from (suc k) is ls) a).doubled (doubled_left (suc k) ls)
