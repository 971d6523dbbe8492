-- Inputs of which each two are of different signals, by a table of the signals of one block that were met.
use Rattle.std.proofs.lemmas.Bool.{cases_lt, cases_eq}
use Rattle.std.proofs.lemmas.List.{length-set, length-replicate, drop_more}
use Rattle.std.proofs.lemmas.Option.{slice_get-get_or}
use Rattle.std.proofs.Math.ListN.{drop_of_length-le}
use Rattle.std.proofs.Common.{inl, inr, ◌≡◌, ◌≢◌, ℕ, zero, suc, ◌+◌, ◌-◌, ◌<◌, ◌≤◌, Bool, true, false, Some, List, [], ◌∷◌, length, drop, get_or, refl, sym, ◌∙◌, ap, subst, arith}
use Rattle.std.specs.Prelude.{◌⊎◌, slice_get, slice_set, replicate}
use Rattle.std.specs.List.{AllByRecursion}
use Rattle.hh_term.specs.Pairs.{EachPair}
use Rattle.reaction_run.specs.declared.event.Input.{Input}
use Rattle.reaction_run.specs.Apart.{AreApart}

abbrev pub Differ : List Input → Type 0
Differ inputs = EachPair (λ i j. i.signal ≢ j.signal) inputs

all_of : (P Q R : Input → Type 0) → ((i : Input) → P i → Q i → R i) → (is : List Input) → AllByRecursion P is → AllByRecursion Q is → AllByRecursion R is
all_of P Q R f [] p q = tt
all_of P Q R f (i ∷ is) p q = (f i p.0 q.0, all_of P Q R f is p.1 q.1)

pairs_of : (G : Input → Type 0) (R S T : Input → Input → Type 0) → ((i j : Input) → G i → R i j → S i j → T i j) → (is : List Input) → AllByRecursion G is → EachPair R is → EachPair S is → EachPair T is
pairs_of G R S T f [] g r s = tt
pairs_of G R S T f (i ∷ is) g r s = (all_of (R i) (S i) (T i) (λ j. f i j g.0) is r.0 s.0, pairs_of G R S T f is g.1 r.1 s.1)

all_trivial : (is : List Input) → AllByRecursion (λ i. Unit {0}) is
all_trivial [] = tt
all_trivial (i ∷ is) = (tt, all_trivial is)

pairs_trivial : (is : List Input) → EachPair (λ i j. Unit {0}) is
pairs_trivial [] = tt
pairs_trivial (i ∷ is) = (all_trivial is, pairs_trivial is)

-- blocks

pub none_apart : (inputs : List Input) → AreApart 0 0 inputs
none_apart is = pairs_of (λ i. Unit {0}) (λ i j. Unit {0}) (λ i j. Unit {0}) (λ i j. 0 ≤ i.signal → i.signal < 0 → i.signal ≢ j.signal) (λ i j g r s h k. absurd (omega arith)) is (all_trivial is) (pairs_trivial is) (pairs_trivial is)

pub next_block : (from to : ℕ) (inputs : List Input) → AreApart 0 from inputs → AreApart from to inputs → AreApart 0 to inputs
next_block from to is a b =
    pairs_of (λ i. Unit {0}) (λ i j. 0 ≤ i.signal → i.signal < from → i.signal ≢ j.signal) (λ i j. from ≤ i.signal → i.signal < to → i.signal ≢ j.signal) (λ i j. 0 ≤ i.signal → i.signal < to → i.signal ≢ j.signal)
    (λ i j g r s h k. elim (either i.signal from) [ inl before ↦ r h before | inr behind ↦ s behind k ]) is (all_trivial is) a b
  where
    either : (n m : ℕ) → (n < m) ⊎ (m ≤ n)
    either n m = cases_lt n m

pub all_apart : (signals to : ℕ) (inputs : List Input) → AllByRecursion (λ i. i.signal < signals) inputs → signals ≤ to → AreApart 0 to inputs → Differ inputs
all_apart signals to is within h a =
    pairs_of (λ i. i.signal < signals) (λ i j. 0 ≤ i.signal → i.signal < to → i.signal ≢ j.signal) (λ i j. Unit {0}) (λ i j. i.signal ≢ j.signal)
    (λ i j g r s. r (omega arith) (omega arith)) is within a (pairs_trivial is)

pub apart_within : (from to : ℕ) (inputs : List Input) → Differ inputs → AreApart from to inputs
apart_within from to is d =
    pairs_of (λ i. Unit {0}) (λ i j. i.signal ≢ j.signal) (λ i j. Unit {0}) (λ i j. from ≤ i.signal → i.signal < to → i.signal ≢ j.signal) (λ i j g r s h k. r) is (all_trivial is) d (pairs_trivial is)

-- tables

get_same : (xs : List Bool) (k : ℕ) (b : Bool) → k < length xs → slice_get (slice_set xs k b) k ≡ Some b
get_same [] k b h = absurd (omega arith)
get_same (x ∷ xs) zero b h = refl
get_same (x ∷ xs) (suc k) b h = get_same xs k b (omega arith)

get_other : (xs : List Bool) (k j : ℕ) (b : Bool) → j ≢ k → slice_get (slice_set xs k b) j ≡ slice_get xs j
get_other [] k j b h = refl
get_other (x ∷ xs) zero zero b h = absurd (h refl)
get_other (x ∷ xs) zero (suc j) b h = refl
get_other (x ∷ xs) (suc k) zero b h = refl
get_other (x ∷ xs) (suc k) (suc j) b h = get_other xs k j b (λ e. h (ap suc e))

-- no input of this signal was met, where the table holds those that were met of a block
abbrev pub Unmet : (from to : ℕ) → List Bool → Input → Type 0
Unmet from to seen i = from ≤ i.signal → i.signal < to → slice_get seen (i.signal - from) ≡ Some false

-- what is left of the inputs is apart from what was met
pub record Rest (from to : ℕ) (seen : List Bool) (rest : List Input) : Type 0 where
  pub unmet : AllByRecursion (Unmet from to seen) rest
  pub apart : AreApart from to rest

-- as many as the block has, and the rest decides
pub record Decides (from to width : ℕ) (seen : List Bool) (rest inputs : List Input) : Type 0 where
  pub len : length seen ≡ width
  pub ends : from + width ≡ to
  pub forth : Rest from to seen rest → AreApart from to inputs
  pub back : AreApart from to inputs → Rest from to seen rest

none_seen : (n k : ℕ) → k < n → slice_get (replicate n false) k ≡ Some false
none_seen zero k h = absurd (omega arith)
none_seen (suc n) zero h = refl
none_seen (suc n) (suc k) h = none_seen n k (omega arith)

all_unmet : (from to n : ℕ) (is : List Input) → from + n ≡ to → AllByRecursion (Unmet from to (replicate n false)) is
all_unmet from to n [] e = tt
all_unmet from to n (i ∷ is) e = ((λ h k. none_seen n (i.signal - from) (omega arith)), all_unmet from to n is e)

-- one input, where the table has its place, or it is of another block

unmet_before : (from to : ℕ) (seen : List Bool) (i j : Input) → from ≤ i.signal → i.signal < to → slice_get seen (i.signal - from) ≡ Some false → i.signal - from < length seen → Unmet from to (slice_set seen (i.signal - from) true) j → Unmet from to seen j × (from ≤ i.signal → i.signal < to → i.signal ≢ j.signal)
unmet_before from to seen i j low high free within unmet = ((λ h k. at h k (cases_eq (j.signal - from) (i.signal - from))), λ h k e. clash e)
  where
    clash : i.signal ≡ j.signal → ⊥
    clash e = let here : slice_get (slice_set seen (i.signal - from) true) (j.signal - from) ≡ Some false = unmet (omega arith) (omega arith) in let same : j.signal - from ≡ i.signal - from = omega arith in let there : Some true ≡ Some false = sym (get_same seen (i.signal - from) true within) ∙ sym (ap (slice_get (slice_set seen (i.signal - from) true)) same) ∙ here in cc

    at : from ≤ j.signal → j.signal < to → ((j.signal - from ≡ i.signal - from) ⊎ (j.signal - from ≢ i.signal - from)) → slice_get seen (j.signal - from) ≡ Some false
    at h k (inl e) = ap (slice_get seen) e ∙ free
    at h k (inr apart) = sym (get_other seen (i.signal - from) (j.signal - from) true apart) ∙ unmet h k

unmet_after : (from to : ℕ) (seen : List Bool) (i j : Input) → from ≤ i.signal → i.signal < to → Unmet from to seen j → (from ≤ i.signal → i.signal < to → i.signal ≢ j.signal) → Unmet from to (slice_set seen (i.signal - from) true) j
unmet_after from to seen i j low high unmet apart h k = get_other seen (i.signal - from) (j.signal - from) true (λ e. apart low high (omega arith)) ∙ unmet h k

pub met_one : (from to width : ℕ) (seen : List Bool) (i : Input) (is inputs : List Input) → from ≤ i.signal → i.signal < to → slice_get seen (i.signal - from) ≡ Some false → Decides from to width seen (i ∷ is) inputs → Decides from to width (slice_set seen (i.signal - from) true) is inputs
met_one from to width seen i is inputs low high free d =
    record {
      len = length-set seen (i.signal - from) true ∙ d.len;
      ends = d.ends;
      forth = λ r. d.forth (before r);
      back = λ a. after (d.back a);
    }
  where
    within : i.signal - from < length seen
    within = let e = d.len in let f = d.ends in omega arith

    split : (js : List Input) → AllByRecursion (Unmet from to (slice_set seen (i.signal - from) true)) js → AllByRecursion (Unmet from to seen) js × AllByRecursion (λ j. from ≤ i.signal → i.signal < to → i.signal ≢ j.signal) js
    split [] u = (tt, tt)
    split (j ∷ js) u = let p = unmet_before from to seen i j low high free within u.0 in let q = split js u.1 in ((p.0, q.0), (p.1, q.1))

    before : Rest from to (slice_set seen (i.signal - from) true) is → Rest from to seen (i ∷ is)
    before r = let p = split is r.unmet in record { unmet = ((λ h k. free), p.0); apart = (p.1, r.apart) }

    after : Rest from to seen (i ∷ is) → Rest from to (slice_set seen (i.signal - from) true) is
    after r = record { unmet = all_of (Unmet from to seen) (λ j. from ≤ i.signal → i.signal < to → i.signal ≢ j.signal) (Unmet from to (slice_set seen (i.signal - from) true)) (λ j. unmet_after from to seen i j low high) is r.unmet.1 r.apart.0; apart = r.apart.1 }

pub met_other : (from to width : ℕ) (seen : List Bool) (i : Input) (is inputs : List Input) → (from ≤ i.signal → i.signal < to → ⊥) → Decides from to width seen (i ∷ is) inputs → Decides from to width seen is inputs
met_other from to width seen i is inputs out d =
    record {
      len = d.len;
      ends = d.ends;
      forth = λ r. d.forth (record { unmet = ((λ h k. absurd (out h k)), r.unmet); apart = (vacuous is, r.apart) });
      back = λ a. let r = d.back a in record { unmet = r.unmet.1; apart = r.apart.1 };
    }
  where
    vacuous : (js : List Input) → AllByRecursion (λ j. from ≤ i.signal → i.signal < to → i.signal ≢ j.signal) js
    vacuous [] = tt
    vacuous (j ∷ js) = ((λ h k. absurd (out h k)), vacuous js)

pub met_twice : (from to width : ℕ) (seen : List Bool) (i : Input) (is inputs : List Input) → from ≤ i.signal → i.signal < to → slice_get seen (i.signal - from) ≡ Some true → Decides from to width seen (i ∷ is) inputs → AreApart from to inputs → ⊥
met_twice from to width seen i is inputs low high met d a = let r = d.back a in let free = r.unmet.0 low high in let e : Some true ≡ Some false = sym met ∙ free in cc

pub none_met : (from width : ℕ) (inputs : List Input) → Decides from (from + width) width (replicate width false) inputs inputs
none_met from width inputs = record { len = length-replicate width false; ends = refl; forth = λ r. r.apart; back = λ a. record { unmet = all_unmet from (from + width) width inputs refl; apart = a } }

pub all_met : (from to width : ℕ) (seen : List Bool) (inputs : List Input) → Decides from to width seen [] inputs → AreApart from to inputs
all_met from to width seen inputs d = d.forth (record { unmet = tt; apart = tt })

-- along the inputs

at_place : (inputs : List Input) (n : ℕ) (i : Input) → n < length inputs → i ≡ get_or inputs n i → drop n inputs ≡ i ∷ drop (n + 1) inputs
at_place inputs n i h is = drop_more inputs n i h ∙ ap (λ (x : Input). x ∷ drop (n + 1) inputs) (sym is)

nothing_left : (inputs : List Input) (n : ℕ) → length inputs ≤ n → drop n inputs ≡ []
nothing_left inputs n h = drop_of_length-le inputs h

read_at : (seen : List Bool) (k width : ℕ) (b : Bool) → length seen ≡ width → k < width → get_or seen k false ≡ b → slice_get seen k ≡ Some b
read_at seen k width b e h is = slice_get-get_or seen k false (omega (arith, h, e)) ∙ ap (λ (x : Bool). Some x) is

pub goes_on : (from to width : ℕ) (seen : List Bool) (i : Input) (n : ℕ) (inputs : List Input) → n < length inputs → i ≡ get_or inputs n i → from ≤ i.signal → i.signal - from < width → get_or seen (i.signal - from) false ≡ false → Decides from to width seen (drop n inputs) inputs
    → Decides from to width (slice_set seen (i.signal - from) true) (drop (n + 1) inputs) inputs
goes_on from to width seen i n inputs h is low within free d =
    met_one from to width seen i (drop (n + 1) inputs) inputs low (let e = d.ends in omega arith) (read_at seen (i.signal - from) width false d.len within free) (subst (λ (rest : List Input). Decides from to width seen rest inputs) (at_place inputs n i h is) d)

pub passes : (from to width : ℕ) (seen : List Bool) (i : Input) (n : ℕ) (inputs : List Input) → n < length inputs → i ≡ get_or inputs n i → (from ≤ i.signal → i.signal - from < width → ⊥) → Decides from to width seen (drop n inputs) inputs → Decides from to width seen (drop (n + 1) inputs) inputs
passes from to width seen i n inputs h is out d =
    met_other from to width seen i (drop (n + 1) inputs) inputs (λ low high. out low (let e = d.ends in omega arith)) (subst (λ (rest : List Input). Decides from to width seen rest inputs) (at_place inputs n i h is) d)

pub stops : (from to width : ℕ) (seen : List Bool) (i : Input) (n : ℕ) (inputs : List Input) → n < length inputs → i ≡ get_or inputs n i → from ≤ i.signal → i.signal - from < width → get_or seen (i.signal - from) false ≡ true → Decides from to width seen (drop n inputs) inputs → AreApart from to inputs → ⊥
stops from to width seen i n inputs h is low within met d a =
    met_twice from to width seen i (drop (n + 1) inputs) inputs low (let e = d.ends in omega arith) (read_at seen (i.signal - from) width true d.len within met) (subst (λ (rest : List Input). Decides from to width seen rest inputs) (at_place inputs n i h is) d) a

pub through : (from to width : ℕ) (seen : List Bool) (n : ℕ) (inputs : List Input) → length inputs ≤ n → Decides from to width seen (drop n inputs) inputs → AreApart from to inputs
through from to width seen n inputs h d = all_met from to width seen inputs (subst (λ (rest : List Input). Decides from to width seen rest inputs) (nothing_left inputs n h) d)
