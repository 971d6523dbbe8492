-- Where a statement must complete with a code, that is the only code with which it can complete.
use Rattle.std.proofs.Common.{◌≡◌, refl, sym, ap, ◌∙◌, ℕ, zero, suc, ◌+◌, ◌≤◌, Bool, true, false, cond, ◌||◌, ◌&&◌, max, Option, Some, None, List, [], ◌∷◌, ◌⊎◌, inl, inr, ⊎_elim, arith, eq-eqb, eqb-true}
use Rattle.std.proofs.lemmas.Bool.{cases_lt}
use Rattle.std.proofs.Math.Dec.{eqb-suc-zero, eqb-zero-suc, eqb-suc-suc}
use Rattle.hh_base.specs.declared.item.Item.{Item}
use Rattle.host_expr.specs.declared.cell.Cell.{Cell}
use Rattle.host_expr.specs.declared.cell.Cell.TheVariants as cell
use Rattle.host_expr.specs.Environment.{Env, put, unsolved}
use Rattle.host_expr.specs.Evaluation.{eval_of, truth}
use Rattle.hh_term.specs.Codes.{CodeSet, only, without_end, in_turn, up_to, greater_of, lowered}
use Rattle.hh_term.specs.Statement.{Statement, Nothing, Pause, Emit, If, Suspend, Seq, Par, Loop, Trap, Exit, Local, Async}
use Rattle.hh_term.specs.Selection.{AtAsync, First, Second, Both, Inside, Scope, Task, Start, Resume}
use Rattle.hh_term.specs.MustCan.{Table, MustCan, Bag, Index, Executed, Possible, must_can, gives, one_of, emitted, solve, hide, chosen, held, sequence, is_end, go_on, greater, parallel, lower, lower_code, trapped, answered, answer_bag, answer_code}
use Rattle.hh_term.specs.Knows.{IsOnlyCode}
use Rattle.hh_term.specs.Lawful.{MustCodeIsTheOnlyCode}
use Rattle.hh_term.proofs.FlagSets.{greater_cong}

without_cong : (K L : CodeSet) → ((c : ℕ) → K c ≡ L c) → (c : ℕ) → without_end K c ≡ without_end L c
without_cong K L h zero = refl
without_cong K L h (suc c) = h (suc c)

pub in_turn_cong : (K K' L L' : CodeSet) → ((c : ℕ) → K c ≡ K' c) → ((c : ℕ) → L c ≡ L' c) → (c : ℕ) → in_turn K L c ≡ in_turn K' L' c
in_turn_cong K K' L L' h g c =
    ap (λ x. x || (K 0 && L c)) (without_cong K K' h c) ∙ ap (λ x. without_end K' c || (x && L c)) (h 0) ∙ ap (λ x. without_end K' c || (K' 0 && x)) (g c)

pub lowered_cong : (K K' : CodeSet) → ((c : ℕ) → K c ≡ K' c) → (c : ℕ) → lowered K c ≡ lowered K' c
lowered_cong K K' h zero = ap (λ x. x || K 2) (h 0) ∙ ap (λ x. K' 0 || x) (h 2)
lowered_cong K K' h (suc zero) = h 1
lowered_cong K K' h (suc (suc c)) = h (suc (suc (suc c)))

two_ways : (a b : Bool) → (a ≡ true → b ≡ true) → (b ≡ true → a ≡ true) → a ≡ b
two_ways true true f g = refl
two_ways true false f g = sym (f refl)
two_ways false true f g = g refl
two_ways false false f g = refl

only_gives : (b : Bag) (k : ℕ) (i : Index) → IsOnlyCode (gives b k i)
only_gives b k Executed = record { is = λ d e c. let same : k ≡ d = cc in ap (λ z. only z c) same }
only_gives b k Possible = record { is = λ d e c. cc }

-- ---- sequence

only_zero_suc : (c : ℕ) → only 0 (suc c) ≡ false
only_zero_suc c = eqb-suc-zero c

turn_from_end : (L : CodeSet) (c : ℕ) → in_turn (only 0) L c ≡ L c
turn_from_end L zero = refl
turn_from_end L (suc c) = ap (λ x. x || L (suc c)) (only_zero_suc c)

or_false_right : (a : Bool) → (a || false) ≡ a
or_false_right true = refl
or_false_right false = refl

turn_from_other : (k : ℕ) (L : CodeSet) (c : ℕ) → in_turn (only (suc k)) L c ≡ only (suc k) c
turn_from_other k L zero = ap (λ x. false || (x && L 0)) (eqb-zero-suc k) ∙ sym (eqb-zero-suc k)
turn_from_other k L (suc c) = ap (λ x. only (suc k) (suc c) || (x && L (suc c))) (eqb-zero-suc k) ∙ or_false_right (only (suc k) (suc c))

-- the same set for both arguments
set_same : (L : CodeSet) (c : ℕ) → L c ≡ L c
set_same L c = refl

sequence_is : (m n : Option ℕ) (K L : CodeSet) → ((d : ℕ) → m ≡ Some d → (c : ℕ) → K c ≡ only d c) → ((d : ℕ) → n ≡ Some d → (c : ℕ) → L c ≡ only d c) → (d : ℕ) → go_on m n ≡ Some d → (c : ℕ) → in_turn K L c ≡ only d c
sequence_is None n K L h g d e c = cc
sequence_is (Some zero) n K L h g d e c = in_turn_cong K (only 0) L L (h 0 refl) (set_same L) c ∙ turn_from_end L c ∙ g d e c
sequence_is (Some (suc k)) n K L h g d e c =
    let same : suc k ≡ d = cc in
    in_turn_cong K (only (suc k)) L L (h (suc k) refl) (set_same L) c ∙ turn_from_other k L c ∙ ap (λ z. only z c) same

pub only_sequence : (a : MustCan) (f : Index → MustCan) → IsOnlyCode a → IsOnlyCode (f (is_end a.code)) → IsOnlyCode (sequence a f)
only_sequence a f h g = record { is = sequence_is a.code (f (is_end a.code)).code a.codes (f (is_end a.code)).codes h.is g.is }

-- ---- parallel

up_to_only : (d c : ℕ) → up_to (only d) c ≡ true → d ≤ c
up_to_only d zero e = let same : 0 ≡ d = eqb-true 0 d e in omega arith
up_to_only d (suc c) e = at_test (only d (suc c)) refl e (up_to_only d c)
  where
    at_test : (b : Bool) → only d (suc c) ≡ b → (b || up_to (only d) c) ≡ true → (up_to (only d) c ≡ true → d ≤ c) → d ≤ suc c
    at_test true t e ih = let same = eqb-true (suc c) d t in omega arith
    at_test false t e ih = let le = ih e in omega arith

up_to_only_from : (d c : ℕ) → d ≤ c → up_to (only d) c ≡ true
up_to_only_from d zero h = let same : 0 ≡ d = omega arith in eq-eqb 0 d same
up_to_only_from d (suc c) h =
    ⊎_elim
    (λ lt. or_right' (only d (suc c)) (up_to (only d) c) (up_to_only_from d c (omega arith)))
    (λ le. let same : suc c ≡ d = omega arith in ap (λ x. x || up_to (only d) c) (eq-eqb (suc c) d same))
    (cases_lt d (suc c))
  where
    or_right' : (a b : Bool) → b ≡ true → (a || b) ≡ true
    or_right' true b h = refl
    or_right' false b h = h

and_split : (a b : Bool) → (a && b) ≡ true → (a ≡ true) × (b ≡ true)
and_split true b h = (refl, h)
and_split false b h = cc

or_split : (a b : Bool) → (a || b) ≡ true → (a ≡ true) ⊎ (b ≡ true)
or_split true b h = inl refl
or_split false b h = inr h

greater_only : (m n c : ℕ) → greater_of (only m) (only n) c ≡ only (max m n) c
greater_only m n c = two_ways (greater_of (only m) (only n) c) (only (max m n) c) there back
  where
    there : greater_of (only m) (only n) c ≡ true → only (max m n) c ≡ true
    there h = ⊎_elim
        (λ l. let p = and_split (only m c) (up_to (only n) c) l in
        let e = eqb-true c m p.0 in
        let le = up_to_only n c p.1 in
        let same : c ≡ max m n = omega arith in eq-eqb c (max m n) same)
        (λ r. let p = and_split (up_to (only m) c) (only n c) r in
        let e = eqb-true c n p.1 in
        let le = up_to_only m c p.0 in
        let same : c ≡ max m n = omega arith in eq-eqb c (max m n) same)
        (or_split (only m c && up_to (only n) c) (up_to (only m) c && only n c) h)

    back : only (max m n) c ≡ true → greater_of (only m) (only n) c ≡ true
    back h =
        let e = eqb-true c (max m n) h in
        ⊎_elim
        (λ lt. let same : c ≡ n = omega arith in
        let x : up_to (only m) c ≡ true = up_to_only_from m c (omega arith) in
        let y : only n c ≡ true = eq-eqb c n same in
        right_true (only m c && up_to (only n) c) (up_to (only m) c) (only n c) x y)
        (λ le. let same : c ≡ m = omega arith in
        let x : only m c ≡ true = eq-eqb c m same in
        let y : up_to (only n) c ≡ true = up_to_only_from n c (omega arith) in
        left_true (only m c) (up_to (only n) c) (up_to (only m) c && only n c) x y)
        (cases_lt m n)
      where
        right_true : (z x y : Bool) → x ≡ true → y ≡ true → (z || (x && y)) ≡ true
        right_true true x y h g = refl
        right_true false x y h g = ap (λ w. w && y) h ∙ g

        left_true : (x y z : Bool) → x ≡ true → y ≡ true → ((x && y) || z) ≡ true
        left_true x y z h g = ap (λ w. (w && y) || z) h ∙ ap (λ w. w || z) g

parallel_is : (m n : Option ℕ) (K L : CodeSet) → ((d : ℕ) → m ≡ Some d → (c : ℕ) → K c ≡ only d c) → ((d : ℕ) → n ≡ Some d → (c : ℕ) → L c ≡ only d c) → (d : ℕ) → greater m n ≡ Some d → (c : ℕ) → greater_of K L c ≡ only d c
parallel_is None n K L h g d e c = cc
parallel_is (Some m) None K L h g d e c = cc
parallel_is (Some m) (Some n) K L h g d e c =
    let same : max m n ≡ d = cc in
    greater_cong K (only m) L (only n) (h m refl) (g n refl) c ∙ greater_only m n c ∙ ap (λ z. only z c) same

only_parallel : (a b : MustCan) → IsOnlyCode a → IsOnlyCode b → IsOnlyCode (parallel a b)
only_parallel a b h g = record { is = parallel_is a.code b.code a.codes b.codes h.is g.is }

-- ---- trap, and the rest

pub lowered_only : (d c : ℕ) → lowered (only d) c ≡ only (lower d) c
lowered_only zero zero = refl
lowered_only zero (suc zero) = refl
lowered_only zero (suc (suc c)) = eqb-suc-zero (suc (suc c)) ∙ sym (eqb-suc-zero (suc c))
lowered_only (suc zero) zero = refl
lowered_only (suc zero) (suc zero) = refl
lowered_only (suc zero) (suc (suc c)) = eqb-suc-suc (suc (suc c)) 0 ∙ eqb-suc-zero (suc c) ∙ sym (eqb-suc-suc (suc c) 0 ∙ eqb-suc-zero c)
lowered_only (suc (suc zero)) zero = refl
lowered_only (suc (suc zero)) (suc zero) = refl
lowered_only (suc (suc zero)) (suc (suc c)) = eqb-suc-suc (suc (suc c)) 1 ∙ eqb-suc-suc (suc c) 0 ∙ eqb-suc-zero c ∙ sym (eqb-suc-zero (suc c))
lowered_only (suc (suc (suc d))) zero = ap (λ x. x || only (suc (suc (suc d))) 2) (eqb-zero-suc (suc (suc d))) ∙ (eqb-suc-suc 1 (suc (suc d)) ∙ eqb-suc-suc 0 (suc d) ∙ eqb-zero-suc d) ∙ sym (eqb-zero-suc (suc d))
lowered_only (suc (suc (suc d))) (suc zero) = (eqb-suc-suc 0 (suc (suc d)) ∙ eqb-zero-suc (suc d)) ∙ sym (eqb-suc-suc 0 (suc d) ∙ eqb-zero-suc d)
lowered_only (suc (suc (suc d))) (suc (suc c)) = eqb-suc-suc (suc (suc c)) (suc (suc d))

lowered_is : (m : Option ℕ) (K : CodeSet) → ((d : ℕ) → m ≡ Some d → (c : ℕ) → K c ≡ only d c) → (d : ℕ) → lower_code m ≡ Some d → (c : ℕ) → lowered K c ≡ only d c
lowered_is None K h d e c = cc
lowered_is (Some m) K h d e c = let same : lower m ≡ d = cc in lowered_cong K (only m) (h m refl) c ∙ lowered_only m c ∙ ap (λ z. only z c) same

only_trapped : (a : MustCan) → IsOnlyCode a → IsOnlyCode (trapped a)
only_trapped a h = record { is = lowered_is a.code a.codes h.is }

only_one_of : (a b : MustCan) → IsOnlyCode (one_of a b)
only_one_of a b = record { is = λ d e c. cc }

cond_only : (b : Bool) (x y : MustCan) → IsOnlyCode x → IsOnlyCode y → IsOnlyCode (cond b x y)
cond_only true x y h g = h
cond_only false x y h g = g

chosen_only : (c : Cell) (i : Index) (p q : Index → MustCan) → ((j : Index) → IsOnlyCode (p j)) → ((j : Index) → IsOnlyCode (q j)) → IsOnlyCode (chosen c i p q)
chosen_only cell.Unknown i p q h g = only_one_of (p Possible) (q Possible)
chosen_only (cell.Known v) i p q h g = cond_only (truth v) (p i) (q i) (h i) (g i)
chosen_only (cell.Faulted o k) i p q h g = g i

held_only : (c : Cell) (i : Index) (p : Index → MustCan) → ((j : Index) → IsOnlyCode (p j)) → IsOnlyCode (held c i p)
held_only cell.Unknown i p h = only_one_of (p Possible) (gives [] 1 Possible)
held_only (cell.Known v) i p h = cond_only (truth v) (gives [] 1 i) (p i) (only_gives [] 1 i) (h i)
held_only (cell.Faulted o k) i p h = h i

hide_only : (s : ℕ) (a : MustCan) → IsOnlyCode a → IsOnlyCode (hide s a)
hide_only s a h = record { is = h.is }

answered_only : (s : Option ℕ) (queue : List Item) (i : Index) → IsOnlyCode (answered s queue i)
answered_only s (a ∷ queue) i = only_gives (answer_bag s a.value) (answer_code a.last) i
answered_only s [] i = only_gives [] 1 i

pub must_can_only : (T : Table) (p : Statement) (t : Task) (i : Index) (E : Env) → IsOnlyCode (must_can T p t i E)
must_can_only T Nothing t i E = only_gives [] 0 i
must_can_only T Pause Start i E = only_gives [] 1 i
must_can_only T Pause (Resume m) i E = only_gives [] 0 i
must_can_only T (Emit s e) t i E = only_gives ((s, emitted e E) ∷ []) 0 i
must_can_only T (If e p q) Start i E = chosen_only (eval_of e E []) i (λ j. must_can T p Start j E) (λ j. must_can T q Start j E) (λ j. must_can_only T p Start j E) (λ j. must_can_only T q Start j E)
must_can_only T (If e p q) (Resume (First m)) i E = (must_can_only T p (Resume m) i E)
must_can_only T (If e p q) (Resume (Second m)) i E = (must_can_only T q (Resume m) i E)
must_can_only T (If e p q) (Resume _) i E = only_gives [] 0 i
must_can_only T (Suspend e p) Start i E = (must_can_only T p Start i E)
must_can_only T (Suspend e p) (Resume (Inside m)) i E = held_only (eval_of e E []) i (λ j. must_can T p (Resume m) j E) (λ j. must_can_only T p (Resume m) j E)
must_can_only T (Suspend e p) (Resume _) i E = only_gives [] 0 i
must_can_only T (Seq p q) Start i E = only_sequence (must_can T p Start i E) (λ j. must_can T q Start j E) (must_can_only T p Start i E) (must_can_only T q Start (is_end (must_can T p Start i E).code) E)
must_can_only T (Seq p q) (Resume (First m)) i E = only_sequence (must_can T p (Resume m) i E) (λ j. must_can T q Start j E) (must_can_only T p (Resume m) i E) (must_can_only T q Start (is_end (must_can T p (Resume m) i E).code) E)
must_can_only T (Seq p q) (Resume (Second m)) i E = (must_can_only T q (Resume m) i E)
must_can_only T (Seq p q) (Resume _) i E = only_gives [] 0 i
must_can_only T (Par p q) Start i E = only_parallel (must_can T p Start i E) (must_can T q Start i E) (must_can_only T p Start i E) (must_can_only T q Start i E)
must_can_only T (Par p q) (Resume (First m)) i E = only_parallel (must_can T p (Resume m) i E) (gives [] 0 i) (must_can_only T p (Resume m) i E) (only_gives [] 0 i)
must_can_only T (Par p q) (Resume (Second m)) i E = only_parallel (gives [] 0 i) (must_can T q (Resume m) i E) (only_gives [] 0 i) (must_can_only T q (Resume m) i E)
must_can_only T (Par p q) (Resume (Both m n)) i E = only_parallel (must_can T p (Resume m) i E) (must_can T q (Resume n) i E) (must_can_only T p (Resume m) i E) (must_can_only T q (Resume n) i E)
must_can_only T (Par p q) (Resume _) i E = only_gives [] 0 i
must_can_only T (Loop p) Start i E = (must_can_only T p Start i E)
must_can_only T (Loop p) (Resume (Inside m)) i E = only_sequence (must_can T p (Resume m) i E) (λ j. must_can T p Start j E) (must_can_only T p (Resume m) i E) (must_can_only T p Start (is_end (must_can T p (Resume m) i E).code) E)
must_can_only T (Loop p) (Resume _) i E = only_gives [] 0 i
must_can_only T (Trap p) Start i E = only_trapped (must_can T p Start i E) (must_can_only T p Start i E)
must_can_only T (Trap p) (Resume (Inside m)) i E = only_trapped (must_can T p (Resume m) i E) (must_can_only T p (Resume m) i E)
must_can_only T (Trap p) (Resume _) i E = only_gives [] 0 i
must_can_only T (Exit k) t i E = only_gives [] (k + 2) i
must_can_only T (Local s p) Start i E = let F = put E s (solve T s (must_can T p Start i) E (unsolved false (T.first s))) in hide_only s (must_can T p Start i F) (must_can_only T p Start i F)
must_can_only T (Local s p) (Resume (Scope m b v)) i E = let F = put E s (solve T s (must_can T p (Resume m) i) E (unsolved b v)) in hide_only s (must_can T p (Resume m) i F) (must_can_only T p (Resume m) i F)
must_can_only T (Local s p) (Resume _) i E = only_gives [] 0 i
must_can_only T (Async n) Start i E = only_gives [] 1 i
must_can_only T (Async n) (Resume (AtAsync id args queue suspended)) i E = answered_only (T.target n) queue i
must_can_only T (Async n) (Resume _) i E = only_gives [] 0 i

pub must_code_is_the_only_code : MustCodeIsTheOnlyCode
must_code_is_the_only_code T p t i E d e c = (must_can_only T p t i E).is d e c
