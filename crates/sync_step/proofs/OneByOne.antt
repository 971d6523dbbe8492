-- The interface signals are judged one after the other, and the given inputs noted.
use Rattle.std.proofs.Common.{◌≡◌, refl, sym, ap, ◌∙◌, subst, ℕ, zero, suc, ◌+◌, ◌<◌, ◌≤◌, Some, List, []}
use Rattle.std.proofs.Common.{◌∷◌, ◌++◌, length, map, slice_get, take, get_or, arith, append_assoc, append-nil}
use Rattle.std.specs.Prelude.{flat_map}
use Rattle.std.specs.List.{range_with_len}
use Rattle.std.proofs.lemmas.List.{map-append, take_more, take_all}
use Rattle.hh_base.specs.declared.value.Value.{Value}
use Rattle.host_expr.specs.declared.cell.Cell.TheVariants as cell
use Rattle.hh_term.specs.MustCan.{Table, Bag}
use Rattle.hh_term.specs.Step.{doubled_by, overflow_by}
use Rattle.last_walk.specs.declared.last_pass.Emitted.{Emitted}
use Rattle.last_walk.specs.declared.last_pass.LastPass.{LastPass}
use Rattle.last_walk.specs.LastWalk.{least, fault_place, place_of_fault, signal_place, place_of_signal, Counts, Judged, Noted}
use Rattle.last_walk.proofs.Noting.{least_both, noted_both}
use Rattle.status_rounds.specs.Given.{given_all}
use Rattle.sync_step.specs.Reacting.{Counted, JudgedAll, doubles, overflows}

flat_append : {X A : Type 0} (f : X → List A) (xs ys : List X) → flat_map f (xs ++ ys) ≡ flat_map f xs ++ flat_map f ys
flat_append f [] ys = refl
flat_append f (x ∷ xs) ys =
    ap (λ z. f x ++ z) (flat_append f xs ys) ∙ sym (append_assoc (f x) (flat_map f xs) (flat_map f ys))

range_end : (a n : ℕ) → range_with_len a (suc n) ≡ range_with_len a n ++ (a + n) ∷ []
range_end a zero = ap (λ m. m ∷ []) (let e : a ≡ a + 0 = omega arith in e)
range_end a (suc n) =
    ap (λ z. a ∷ z)
    (range_end (a + 1) n
    ∙ ap (λ m. range_with_len (a + 1) n ++ m ∷ []) (let e : (a + 1) + n ≡ a + suc n = omega arith in e))

flat_more : {A : Type 0} (f : ℕ → List A) (n : ℕ) → flat_map f (range_with_len 0 (n + 1))
    ≡ flat_map f (range_with_len 0 n) ++ f n
flat_more f n =
    ap (λ m. flat_map f (range_with_len 0 m)) (let e : n + 1 ≡ suc n = omega arith in e)
    ∙ ap (flat_map f) (range_end 0 n)
    ∙ flat_append f (range_with_len 0 n) ((0 + n) ∷ [])
    ∙ ap (λ z. flat_map f (range_with_len 0 n) ++ z)
    (append-nil (f (0 + n)) ∙ ap f (let e : 0 + n ≡ n = omega arith in e))

some_same : {A : Type 0} (x y : A) → Some x ≡ Some y → x ≡ y
some_same x y e = cc

counts_here : (em : List Emitted) (n : ℕ) (e : Emitted) (vs : List Value) → slice_get em n ≡ Some e → Counted em n vs →
    Counts e vs
counts_here em n e vs here c = subst (λ x. Counts x vs) (some_same c.emissions e (sym c.here ∙ here)) c.counts

pub none_judged : (T : Table) (em : List Emitted) (b : LastPass) → JudgedAll T 0 em b b
none_judged T em b = record { fault = λ values all. refl; doubled = λ values all. refl }

pub one_judged : (T : Table) (n : ℕ) (em : List Emitted) (e : Emitted) (b0 b1 b2 : LastPass) → slice_get em n ≡ Some e →
    JudgedAll T n em b0 b1 → Judged T n e b1 b2 → JudgedAll T (n + 1) em b0 b2
one_judged T n em e b0 b1 b2 here all one = record {
  fault = λ values counted.
      least_both fault_place (place_of_fault b0.fault) (place_of_fault b1.fault) (place_of_fault b2.fault)
      (overflows T values n) (overflow_by T n (values n))
      (all.fault values (λ s lt. counted s (omega (arith, lt))))
      (one.fault (values n) (counts_here em n e (values n) here (counted n (omega arith))))
      ∙ ap (λ z. least (place_of_fault b0.fault) (map fault_place z))
      (sym (flat_more (λ s. overflow_by T s (values s)) n));
  doubled = λ values counted.
      least_both (signal_place T) (place_of_signal T b0.doubled) (place_of_signal T b1.doubled)
      (place_of_signal T b2.doubled) (doubles T values n) (doubled_by T n (values n))
      (all.doubled values (λ s lt. counted s (omega (arith, lt))))
      (one.doubled (values n) (counts_here em n e (values n) here (counted n (omega arith))))
      ∙ ap (λ z. least (place_of_signal T b0.doubled) (map (signal_place T) z))
      (sym (flat_more (λ s. doubled_by T s (values s)) n));
}

-- ---- the given inputs

pub one_given : (T : Table) (is : List (ℕ × Value)) (k : ℕ) (i : ℕ × Value) (b0 b1 b2 : LastPass) → k < length is →
    i ≡ get_or is k i → Noted T (given_all (take k is)) [] [] [] b0 b1 →
    Noted T ((i.0, cell.Known i.1) ∷ []) [] [] [] b1 b2 → Noted T (given_all (take (k + 1) is)) [] [] [] b0 b2
one_given T is k i b0 b1 b2 lt e h g =
    let bag : Bag = given_all (take k is) in
    let one : Bag = (i.0, cell.Known i.1) ∷ [] in
    let is_more : given_all (take (k + 1) is) ≡ bag ++ one =
    ap given_all (take_more is k i lt) ∙ ap (λ x. given_all (take k is ++ x ∷ [])) (sym e)
    ∙ map-append (λ i. (i.0, cell.Known i.1)) (take k is) (i ∷ []) in
    subst (λ b. Noted T b [] [] [] b0 b2) (sym is_more) (noted_both T bag one [] [] [] [] [] [] b0 b1 b2 h g)

pub all_given : (T : Table) (is : List (ℕ × Value)) (k : ℕ) (b0 b1 : LastPass) → length is ≤ k →
    Noted T (given_all (take k is)) [] [] [] b0 b1 → Noted T (given_all is) [] [] [] b0 b1
all_given T is k b0 b1 h g = subst (λ l. Noted T (given_all l) [] [] [] b0 b1) (take_all k is h) g
