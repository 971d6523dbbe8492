-- The interface of a program: its signals are numbered from 0, so that each is concluded by its own cells.
use Rattle.std.proofs.Common.{◌≡◌, ◌≢◌, refl, sym, ap, ◌∙◌, ℕ, zero, suc, ◌+◌, ◌<◌, ◌≤◌, Bool, true, false}
use Rattle.std.proofs.Common.{cond, ◌==◌, Option, Some, None, List, [], ◌∷◌, ◌++◌, inl, inr, length, map}
use Rattle.std.proofs.Common.{eqb-true, eq-eqb, arith}
use Rattle.std.proofs.lemmas.Bool.{eqb-false}
use Rattle.hh_base.specs.declared.value.Value.{Value}
use Rattle.host_expr.specs.declared.cell.Cell.{Cell}
use Rattle.host_expr.specs.declared.cell.Cell.TheVariants as cell
use Rattle.host_expr.specs.declared.cell.SigCell.{SigCell}
use Rattle.host_expr.specs.Environment.{Env, env_of, unsolved}
use Rattle.hh_term.specs.MustCan.{Table, MustCan, Bag, raised, cells_of, without, status_by, value_by}
use Rattle.std.specs.List.{AllByRecursion}
use Rattle.hh_term.specs.Reaction.{Last, Outer, outers_from, given_to, given_bag, with_given}
use Rattle.status_table.specs.WholeProgram.{Contains, scopes, NotIn, Different, StandsAll, MovesAll, opened}
use Rattle.status_table.proofs.Meeting.{cells-append, cells-without-other}
use Rattle.status_rounds.specs.Given.{given_all, NoneTwice, with_inputs}

pub differs : (s k : ℕ) → (s ≡ k → ⊥) → (s == k) ≡ false
differs s k h = at_test (s == k) refl
  where
    at_test : (b : Bool) → (s == k) ≡ b → (s == k) ≡ false
    at_test true e = absurd (h (eqb-true s k e))
    at_test false e = e

pub swapped : (s k : ℕ) → (s == k) ≡ false → (k == s) ≡ false
swapped s k e = differs k s (λ q. eqb-false s k e (sym q))

-- ---- the interface signals, by their numbers

not_from : (k s : ℕ) (is : List (ℕ × Value)) (ls : List Last) → s < k → NotIn s (outers_from k is ls)
not_from k s is [] h = tt
not_from k s is (l ∷ ls) h =
    (differs s k (λ e. absurd (omega (arith, e, h))), not_from (suc k) s is ls (omega (arith, h)))

pub differ_from : (k : ℕ) (is : List (ℕ × Value)) (ls : List Last) → Different (outers_from k is ls)
differ_from k is [] = tt
differ_from k is (l ∷ ls) = (not_from (suc k) k is ls (omega arith), differ_from (suc k) is ls)

pub outside_from : (k s : ℕ) (is : List (ℕ × Value)) (ls : List Last) → NotIn s (outers_from k is ls) → k ≤ s
    → s
    < k + length ls → ⊥
outside_from k s is [] n a b = omega (arith, a, b)
outside_from k s is (l ∷ ls) n a b =
    let d = eqb-false s k n.0 in
    outside_from (suc k) s is ls n.1 (omega (arith, a, d)) (omega (arith, b))

-- ---- what is known at first

abbrev pub opened_of : Last → SigCell
opened_of l = unsolved l.status l.val

pub opened_from : (k i : ℕ) (is : List (ℕ × Value)) (ls : List Last) → env_of (map opened_of ls) i ≡ opened
    (outers_from k is ls) (k + i)
opened_from k i is [] = refl
opened_from k zero is (l ∷ ls) =
    let e : (k + 0 == k) ≡ true = eq-eqb (k + 0) k (omega arith) in
    sym (ap (λ b. cond b (unsolved l.status l.val) (opened (outers_from (suc k) is ls) (k + 0))) e)
opened_from k (suc i) is (l ∷ ls) =
    let e : (k + suc i == k) ≡ false = differs (k + suc i) k (λ q. absurd (omega (arith, q))) in
    let same : suc k + i ≡ k + suc i = omega arith in
    opened_from (suc k) i is ls ∙ ap (opened (outers_from (suc k) is ls)) same ∙ sym
    (ap (λ b. cond b (unsolved l.status l.val) (opened (outers_from (suc k) is ls) (k + suc i))) e)

-- ---- the given inputs

abbrev first_given : Option Value → List Cell
first_given (Some v) = cell.Known v ∷ []
first_given None = []

none_given : (s : ℕ) (i : ℕ × Value) (is : List (ℕ × Value)) → i.0 ≡ s → AllByRecursion (λ j. i.0 ≢ j.0) is →
    cells_of
    s (given_all is) ≡ []
none_given s i [] e h = refl
none_given s i (j ∷ is) e h =
    let d : (j.0 == s) ≡ false = differs j.0 s (λ q. h.0 (e ∙ sym q)) in
    ap (λ b. cond b (cell.Known j.1 ∷ cells_of s (given_all is)) (cells_of s (given_all is))) d ∙ none_given s
    i
    is e h.1

only_given : (s : ℕ) (is : List (ℕ × Value)) → NoneTwice is → cells_of s (given_all is) ≡ first_given
    (given_to is s)
only_given s [] h = refl
only_given s (i ∷ is) h = at_test (only_given s is h.1) (i.0 == s) refl
  where
    at_test : cells_of s (given_all is) ≡ first_given (given_to is s) → (b : Bool) → (i.0 == s) ≡ b → cond
        (i.0 == s) (cell.Known i.1 ∷ cells_of s (given_all is))
        (cells_of s (given_all is)) ≡ first_given (cond (i.0 == s) (Some i.1) (given_to is s))
    at_test r true e =
        ap (λ b. cond b (cell.Known i.1 ∷ cells_of s (given_all is)) (cells_of s (given_all is))) e
        ∙ ap (λ z. cell.Known i.1 ∷ z) (none_given s i is (eqb-true i.0 s e) h.0)
        ∙ sym (ap (λ b. first_given (cond b (Some i.1) (given_to is s))) e)
    at_test r false e =
        ap (λ b. cond b (cell.Known i.1 ∷ cells_of s (given_all is)) (cells_of s (given_all is))) e
        ∙ r
        ∙ sym (ap (λ b. first_given (cond b (Some i.1) (given_to is s))) e)

abbrev pub outer_at : ℕ → List (ℕ × Value) → Last → Outer
outer_at k is l = record { signal = k; last = l; given = given_to is k }

bag_here : (k : ℕ) (v : Option Value) (l : Last) → cells_of k
    (given_bag (record { signal = k; last = l; given = v })) ≡ first_given v
bag_here k (Some v) l = ap (λ b. cond b (cell.Known v ∷ []) []) (eq-eqb k k refl)
bag_here k None l = refl

bag_other : (s k : ℕ) (v : Option Value) (l : Last) → (s == k) ≡ false → cells_of s
    (given_bag (record { signal = k; last = l; given = v })) ≡ []
bag_other s k (Some v) l e = ap (λ b. cond b (cell.Known v ∷ []) []) (swapped s k e)
bag_other s k None l e = refl

-- ---- each signal is concluded by its own cells

given_other : (s : ℕ) (o : Outer) (bag : Bag) → (s == o.signal) ≡ false → cells_of s
    (without o.signal (given_bag o ++ bag)) ≡ cells_of s bag
given_other s o bag e =
    cells-without-other s o.signal (given_bag o ++ bag) e ∙ cells-append s (given_bag o) bag ∙ ap
    (λ z. z ++ cells_of s bag) (bag_other s o.signal o.given o.last e)

must_scoped : (s : ℕ) (os : List Outer) (a : MustCan) → NotIn s os → cells_of s (scopes os a).must ≡ cells_of
    s
    a.must
must_scoped s [] a h = refl
must_scoped s (o ∷ os) a h = given_other s o (scopes os a).must h.0 ∙ must_scoped s os a h.1

can_scoped : (s : ℕ) (os : List Outer) (a : MustCan) → NotIn s os → cells_of s (scopes os a).can ≡ cells_of s
    a.can
can_scoped s [] a h = refl
can_scoped s (o ∷ os) a h = given_other s o (scopes os a).can h.0 ∙ can_scoped s os a h.1

raised_same : (T : Table) (s : ℕ) (c : SigCell) (a b : MustCan) → cells_of s a.must ≡ cells_of s b.must →
    cells_of s a.can ≡ cells_of s b.can → raised T s c a ≡ raised T s c b
raised_same T s c a b e f =
    ap (λ m. made m (cells_of s a.can)) e ∙ ap (λ d. made (cells_of s b.must) d) f
  where
    made : List Cell → List Cell → SigCell
    made m d = record {
      status = status_by m d;
      value = value_by (T.kind s) (T.word s) c.preval m d;
      pre = c.pre;
      preval = c.preval;
    }

pub concluded_as : (T : Table) (k : ℕ) (is : List (ℕ × Value)) (l : Last) (ls : List Last) (a : MustCan)
    (c : SigCell) → NoneTwice is → raised T k c
    (with_given (outer_at k is l) (scopes (outers_from (suc k) is ls) a)) ≡ raised T k c (with_inputs is a)
concluded_as T k is l ls a c h =
    let o : Outer = outer_at k is l in
    let os : List Outer = outers_from (suc k) is ls in
    let out : NotIn k os = not_from (suc k) k is ls (omega arith) in
    let here : cells_of k (given_bag o) ≡ cells_of k (given_all is) = bag_here k (given_to is k) l ∙ sym
    (only_given k is h) in
    raised_same T k c (with_given o (scopes os a)) (with_inputs is a)
    (cells-append k (given_bag o) (scopes os a).must ∙ ap (λ z. z ++ cells_of k (scopes os a).must) here ∙ ap
    (λ z. cells_of k (given_all is) ++ z) (must_scoped k os a out) ∙ sym
    (cells-append k (given_all is) a.must))
    (cells-append k (given_bag o) (scopes os a).can ∙ ap (λ z. z ++ cells_of k (scopes os a).can) here ∙ ap
    (λ z. cells_of k (given_all is) ++ z) (can_scoped k os a out) ∙ sym (cells-append k (given_all is) a.can))

pub moves_from : (T : Table) (k : ℕ) (is : List (ℕ × Value)) (ls : List Last) (a : MustCan) (F F' : Env) →
    NoneTwice is → ((s : ℕ) → s < k + length ls → F' s ≡ raised T s (F s) (with_inputs is a)) → MovesAll T
    (outers_from k is ls) a F F'
moves_from T k is [] a F F' h g = tt
moves_from T k is (l ∷ ls) a F F' h g = (
  inr (g k (omega arith) ∙ sym (concluded_as T k is l ls a (F k) h)),
  moves_from T (suc k) is ls a F F' h (λ s lt. g s (omega (arith, lt))),
)

pub stands_from : (T : Table) (k : ℕ) (is : List (ℕ × Value)) (ls : List Last) (a : MustCan) (F : Env) →
    NoneTwice is → ((s : ℕ) → s < k + length ls → raised T s (F s) (with_inputs is a) ≡ F s) →
    ((o : Outer) → Contains o (outers_from k is ls) → ((F o.signal).pre ≡ o.last.status) ×
    ((F o.signal).preval ≡
    o.last.val)) → StandsAll T (outers_from k is ls) a F
stands_from T k is [] a F h g last = tt
stands_from T k is (l ∷ ls) a F h g last =
    let o : Outer = outer_at k is l in
    let kept = last o (inl refl) in (
      kept.0,
      kept.1,
      concluded_as T k is l ls a (F k) h ∙ g k (omega arith),
      stands_from T (suc k) is ls a F h (λ s lt. g s (omega (arith, lt))) (λ u c. last u (inr c)),
    )
