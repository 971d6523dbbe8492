-- Sets of codes as flags.
use Rattle.std.proofs.Common.{◌≡◌, ◌≢◌, refl, sym, ap, subst, ◌∙◌, ℕ, zero, suc, ◌+◌, ◌≤◌, ◌<◌, Bool}
use Rattle.std.proofs.Common.{true, false, ◌||◌, ◌&&◌, eqb, List, length, replicate, set, get_or, arith}
use Rattle.std.proofs.Common.{add-one, ⊎_elim, get_or-set_same, get_or-set_other, eqb-true}
use Rattle.std.proofs.lemmas.List.{get_or_past, get_or-replicate}
use Rattle.std.proofs.Math.ListN.{length-replicate, length-set}
use Rattle.std.proofs.lemmas.Bool.{cases_lt, eqb-false}
use Rattle.hh_term.specs.Codes.{CodeSet, up_to, greater_of}
use Rattle.hh_term.specs.Flags.{codes_in, Agrees}

-- the first n flags are those of K now, and the rest are as before
pub record Overwritten (before : List Bool) (K : CodeSet) (n : ℕ) (flags : List Bool) : Type 0 where
  pub len : length flags ≡ 258
  pub done : (k : ℕ) → k < n → get_or flags k false ≡ K k
  pub rest : (k : ℕ) → n ≤ k → get_or flags k false ≡ get_or before k false

-- one flag more
pub overwrite : (before : List Bool) (K : CodeSet) (n : ℕ) (flags : List Bool) (b : Bool)
    → Overwritten before K n flags → n < 258 → b ≡ K n → Overwritten before K (n + 1) (set flags n b)
overwrite before K n flags b o l e = record { len = length-set flags n b ∙ o.len; done = done; rest = rest }
  where
    done : (k : ℕ) → k < n + 1 → get_or (set flags n b) k false ≡ K k
    done k h = at_test (eqb k n) refl
      where
        at_test : (t : Bool) → eqb k n ≡ t → get_or (set flags n b) k false ≡ K k
        at_test true t =
            let same : k ≡ n = eqb-true k n t in
            subst (λ m. get_or (set flags n b) m false ≡ K m) (sym same)
            (get_or-set_same flags n b false (omega (arith, o.len)) ∙ e)
        at_test false t = let ne = eqb-false k n t in
            get_or-set_other flags n k b false ne ∙ o.done k (omega arith)

    rest : (k : ℕ) → n + 1 ≤ k → get_or (set flags n b) k false ≡ get_or before k false
    rest k h = let ne : k ≢ n = omega arith in get_or-set_other flags n k b false ne ∙ o.rest k (omega arith)

pub past : (flags : List Bool) → length flags ≡ 258 → (c : ℕ) → 258 ≤ c → codes_in flags c ≡ false
past flags len c le = get_or_past flags c false (omega arith)

-- all flags are those of a set that has no code past them
pub finish : (before : List Bool) (K : CodeSet) (flags : List Bool) → Overwritten before K 258 flags
    → ((c : ℕ) → 258 ≤ c → K c ≡ false) → Agrees flags K
finish before K flags o g c =
    ⊎_elim (λ lt. o.done c lt) (λ le. past flags o.len c le ∙ sym (g c le)) (cases_lt c 258)

or_false : (a b : Bool) → a ≡ false → b ≡ false → (a || b) ≡ false
or_false a b h g = ap (λ x. x || b) h ∙ g

and_false : (a b : Bool) → b ≡ false → (a && b) ≡ false
and_false true b h = h
and_false false b h = refl

pub greater_past : (K L : CodeSet) (c : ℕ) → K c ≡ false → L c ≡ false → greater_of K L c ≡ false
greater_past K L c h g =
    or_false (K c && up_to L c) (up_to K c && L c) (ap (λ x. x && up_to L c) h)
    (and_false (up_to K c) (L c) g)

pub only_set : (n k : ℕ) → k < n → (c : ℕ) → get_or (set (replicate n false) k true) c false ≡ eqb c k
only_set n k h c = at_test (eqb c k) refl
  where
    off_everywhere : get_or (replicate n false) c false ≡ false
    off_everywhere =
        ⊎_elim (λ lt. get_or-replicate n c false false lt)
        (λ le. get_or_past (replicate n false) c false (omega (arith, length-replicate n false)))
        (cases_lt c n)

    at_test : (b : Bool) → eqb c k ≡ b → get_or (set (replicate n false) k true) c false ≡ b
    at_test true e =
        let same : c ≡ k = eqb-true c k e in
        ap (λ i. get_or (set (replicate n false) k true) i false) same
        ∙ get_or-set_same (replicate n false) k true false (omega (arith, length-replicate n false))
    at_test false e = get_or-set_other (replicate n false) k c true false (eqb-false c k e) ∙ off_everywhere

up_to_cong : (K K' : CodeSet) → ((c : ℕ) → K c ≡ K' c) → (c : ℕ) → up_to K c ≡ up_to K' c
up_to_cong K K' h zero = h 0
up_to_cong K K' h (suc c) =
    ap (λ x. x || up_to K c) (h (suc c)) ∙ ap (λ x. K' (suc c) || x) (up_to_cong K K' h c)

pub greater_cong : (K K' L L' : CodeSet) → ((c : ℕ) → K c ≡ K' c) → ((c : ℕ) → L c ≡ L' c) → (c : ℕ)
    → greater_of K L c ≡ greater_of K' L' c
greater_cong K K' L L' h g c =
    ap (λ x. (x && up_to L c) || (up_to K c && L c)) (h c)
    ∙ ap (λ x. (K' c && x) || (up_to K c && L c)) (up_to_cong L L' g c)
    ∙ ap (λ x. (K' c && up_to L' c) || (x && L c)) (up_to_cong K K' h c)
    ∙ ap (λ x. (K' c && up_to L' c) || (up_to K' c && x)) (g c)

-- some code of the set is below c
abbrev pub below : CodeSet → ℕ → Bool
below K zero = false
below K (suc c) = up_to K c

below_more_codes : (K : CodeSet) (c : ℕ) → up_to K c ≡ (below K c || K c)
below_more_codes K zero = refl
below_more_codes K (suc c) = swap_or (K (suc c)) (up_to K c)
  where
    swap_or : (a b : Bool) → (a || b) ≡ (b || a)
    swap_or true true = refl
    swap_or true false = refl
    swap_or false true = refl
    swap_or false false = refl

pub below_next : (K : CodeSet) (n : ℕ) (b c : Bool) → b ≡ below K n → c ≡ K n → (b || c) ≡ up_to K n
below_next K n b c h e = ap (λ x. x || c) h ∙ ap (λ x. below K n || x) e ∙ sym (below_more_codes K n)

pub below_one : (K : CodeSet) (n : ℕ) (b : Bool) → b ≡ up_to K n → b ≡ below K (n + 1)
below_one K n b h = rw add-one h
