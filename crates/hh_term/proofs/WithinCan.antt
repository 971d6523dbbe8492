-- Each construct of the table of Must and Can: what must be done can be done, and where it is only
-- possible nothing is sure.
use Rattle.std.proofs.Common.{◌≡◌, refl, sym, ap, subst, ◌∙◌, ℕ, zero, suc, Bool, true, false, cond, ◌&&◌}
use Rattle.std.proofs.Common.{max, Option, Some, None, [], ◌++◌, ⊎_elim, arith, eq-eqb}
use Rattle.std.proofs.lemmas.Bool.{cases_lt}
use Rattle.host_expr.specs.declared.cell.Cell.{Cell}
use Rattle.host_expr.specs.declared.cell.Cell.TheVariants as cell
use Rattle.host_expr.specs.Evaluation.{truth}
use Rattle.host_expr.proofs.Truths.{or_left, or_right, and_both}
use Rattle.hh_term.specs.Codes.{CodeSet, without_end, in_turn, up_to, greater_of, lowered}
use Rattle.hh_term.specs.MustCan.{MustCan, Index, Executed, Possible, Bag, gives, one_of, is_end, go_on}
use Rattle.hh_term.specs.MustCan.{sequence, greater, parallel, lower, lower_code, trapped, chosen, held}
use Rattle.hh_term.specs.MustCan.{without, hide}
use Rattle.hh_term.specs.Knows.{Embeds, ended, OnSignal, SameCell, MustWithinCan, NothingSure}
use Rattle.hh_term.proofs.Embedding.{nothing_sub, sub_append, without_sub, same_sub}
use Rattle.hh_term.proofs.CodeSets.{up_to_below}

pub gives_within : (b : Bag) (k : ℕ) (i : Index) → MustWithinCan (gives b k i)
gives_within b k Executed =
    record { must = same_sub b; code = λ c e. let same : c ≡ k = cc in eq-eqb c k same }
gives_within b k Possible = record { must = nothing_sub b; code = λ c e. cc }

pub gives_nothing : (b : Bag) (k : ℕ) → NothingSure (gives b k Possible)
gives_nothing b k = record { must = refl; code = refl }

pub one_of_within : (a b : MustCan) → MustWithinCan (one_of a b)
one_of_within a b = record { must = nothing_sub (a.can ++ b.can); code = λ c e. cc }

pub one_of_nothing : (a b : MustCan) → NothingSure (one_of a b)
one_of_nothing a b = record { must = refl; code = refl }

-- where the first part has not 0 among its codes, nothing of the second must be completes
pub end_known : (c : Option ℕ) (K : CodeSet) → ((k : ℕ) → c ≡ Some k → K k ≡ true) → K 0 ≡ false
    → is_end c ≡ Possible
end_known None K h e = refl
end_known (Some zero) K h e = let t : K 0 ≡ true = h 0 refl in cc
end_known (Some (suc k)) K h e = refl

second_must : (x : Bool) (a : MustCan) (f : Index → MustCan) → a.codes 0 ≡ x → MustWithinCan a
    → MustWithinCan (f (is_end a.code)) → NothingSure (f Possible)
    → Embeds (OnSignal SameCell) (f (is_end a.code)).must (cond x (f (is_end a.code)).can [])
second_must true a f e h g q = g.must
second_must false a f e h g q =
    let none : (f (is_end a.code)).must ≡ [] =
    ap (λ i. (f i).must) (end_known a.code a.codes h.code e) ∙ q.must in
    subst (λ z. Embeds (OnSignal SameCell) z []) (sym none) ended

sequence_code : (c d : Option ℕ) (K L : CodeSet) → ((k : ℕ) → c ≡ Some k → K k ≡ true)
    → ((k : ℕ) → d ≡ Some k → L k ≡ true) → (k : ℕ) → go_on c d ≡ Some k → in_turn K L k ≡ true
sequence_code None d K L h g k e = cc
sequence_code (Some zero) d K L h g k e =
    or_right (without_end K k) (K 0 && L k) (and_both (K 0) (L k) (h 0 refl) (g k e))
sequence_code (Some (suc c)) d K L h g k e =
    let same : suc c ≡ k = cc in
    subst (λ z. in_turn K L z ≡ true) same (or_left (K (suc c)) (K 0 && L (suc c)) (h (suc c) refl))

pub sequence_within : (a : MustCan) (f : Index → MustCan) → MustWithinCan a
    → ((i : Index) → MustWithinCan (f i)) → NothingSure (f Possible) → MustWithinCan (sequence a f)
sequence_within a f h g q =
    record {
      must = sub_append h.must (second_must (a.codes 0) a f refl h (g (is_end a.code)) q);
      code = sequence_code a.code (f (is_end a.code)).code a.codes (f (is_end a.code)).codes h.code
          (g (is_end a.code)).code;
    }

pub sequence_nothing : (a : MustCan) (f : Index → MustCan) → NothingSure a → NothingSure (f Possible)
    → NothingSure (sequence a f)
sequence_nothing a f h q =
    let e : is_end a.code ≡ Possible = ap is_end h.code in
    record {
      must = ap (λ z. z ++ (f (is_end a.code)).must) h.must ∙ ap (λ i. (f i).must) e ∙ q.must;
      code = ap (λ z. go_on z (f (is_end a.code)).code) h.code;
    }

greater_code : (c d : Option ℕ) (K L : CodeSet) → ((k : ℕ) → c ≡ Some k → K k ≡ true)
    → ((k : ℕ) → d ≡ Some k → L k ≡ true) → (k : ℕ) → greater c d ≡ Some k → greater_of K L k ≡ true
greater_code None d K L h g k e = cc
greater_code (Some c) None K L h g k e = cc
greater_code (Some c) (Some d) K L h g k e =
    let same : max c d ≡ k = cc in
    subst (λ z. greater_of K L z ≡ true) same
    (⊎_elim
    (λ lt. let z : d ≡ max c d = omega arith in
    subst (λ m. greater_of K L m ≡ true) z
    (or_right (K d && up_to L d) (up_to K d && L d)
    (and_both (up_to K d) (L d) (up_to_below K c d (h c refl) (omega arith)) (g d refl))))
    (λ le. let z : c ≡ max c d = omega arith in
    subst (λ m. greater_of K L m ≡ true) z
    (or_left (K c && up_to L c) (up_to K c && L c)
    (and_both (K c) (up_to L c) (h c refl) (up_to_below L d c (g d refl) le))))
    (cases_lt c d))

pub parallel_within : (a b : MustCan) → MustWithinCan a → MustWithinCan b → MustWithinCan (parallel a b)
parallel_within a b h g =
    record {
      must = sub_append h.must g.must;
      code = greater_code a.code b.code a.codes b.codes h.code g.code;
    }

pub parallel_nothing : (a b : MustCan) → NothingSure a → NothingSure b → NothingSure (parallel a b)
parallel_nothing a b h g =
    record { must = ap (λ z. z ++ b.must) h.must ∙ g.must; code = ap (λ z. greater z b.code) h.code }

lower_in : (K : CodeSet) (c : ℕ) → K c ≡ true → lowered K (lower c) ≡ true
lower_in K zero e = or_left (K 0) (K 2) e
lower_in K (suc zero) e = e
lower_in K (suc (suc zero)) e = or_right (K 0) (K 2) e
lower_in K (suc (suc (suc c))) e = e

lowered_code : (c : Option ℕ) (K : CodeSet) → ((k : ℕ) → c ≡ Some k → K k ≡ true) → (k : ℕ)
    → lower_code c ≡ Some k → lowered K k ≡ true
lowered_code None K h k e = cc
lowered_code (Some c) K h k e = let same : lower c ≡ k = cc in
    subst (λ z. lowered K z ≡ true) same (lower_in K c (h c refl))

pub trapped_within : (a : MustCan) → MustWithinCan a → MustWithinCan (trapped a)
trapped_within a h = record { must = h.must; code = lowered_code a.code a.codes h.code }

pub trapped_nothing : (a : MustCan) → NothingSure a → NothingSure (trapped a)
trapped_nothing a h = record { must = h.must; code = ap lower_code h.code }

pub hide_within : (s : ℕ) (a : MustCan) → MustWithinCan a → MustWithinCan (hide s a)
hide_within s a h = record { must = without_sub SameCell s h.must; code = h.code }

pub hide_nothing : (s : ℕ) (a : MustCan) → NothingSure a → NothingSure (hide s a)
hide_nothing s a h = record { must = ap (without s) h.must; code = h.code }

cond_within : (b : Bool) (x y : MustCan) → MustWithinCan x → MustWithinCan y → MustWithinCan (cond b x y)
cond_within true x y h g = h
cond_within false x y h g = g

cond_nothing : (b : Bool) (x y : MustCan) → NothingSure x → NothingSure y → NothingSure (cond b x y)
cond_nothing true x y h g = h
cond_nothing false x y h g = g

pub chosen_within : (c : Cell) (i : Index) (p q : Index → MustCan) → MustWithinCan (p i)
    → MustWithinCan (q i) → MustWithinCan (chosen c i p q)
chosen_within cell.Unknown i p q h g = one_of_within (p Possible) (q Possible)
chosen_within (cell.Known v) i p q h g = cond_within (truth v) (p i) (q i) h g
chosen_within (cell.Faulted o k) i p q h g = g

pub chosen_nothing : (c : Cell) (p q : Index → MustCan) → NothingSure (p Possible)
    → NothingSure (q Possible) → NothingSure (chosen c Possible p q)
chosen_nothing cell.Unknown p q h g = one_of_nothing (p Possible) (q Possible)
chosen_nothing (cell.Known v) p q h g = cond_nothing (truth v) (p Possible) (q Possible) h g
chosen_nothing (cell.Faulted o k) p q h g = g

pub held_within : (c : Cell) (i : Index) (p : Index → MustCan) → MustWithinCan (p i)
    → MustWithinCan (held c i p)
held_within cell.Unknown i p h = one_of_within (p Possible) (gives [] 1 Possible)
held_within (cell.Known v) i p h = cond_within (truth v) (gives [] 1 i) (p i) (gives_within [] 1 i) h
held_within (cell.Faulted o k) i p h = h

pub held_nothing : (c : Cell) (p : Index → MustCan) → NothingSure (p Possible)
    → NothingSure (held c Possible p)
held_nothing cell.Unknown p h = one_of_nothing (p Possible) (gives [] 1 Possible)
held_nothing (cell.Known v) p h =
    cond_nothing (truth v) (gives [] 1 Possible) (p Possible) (gives_nothing [] 1) h
held_nothing (cell.Faulted o k) p h = h
