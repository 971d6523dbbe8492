-- Sets of codes: more codes in, more codes out.
use Rattle.std.proofs.Common.{◌≡◌, subst, ℕ, zero, suc, ◌+◌, ◌-◌, ◌≤◌, true, ◌&&◌, arith}
use Rattle.host_expr.proofs.Truths.{or_mono, and_mono, or_left, or_right}
use Rattle.hh_term.specs.Codes.{CodeSet, without_end, in_turn, up_to, greater_of, lowered}

up_to_mono : (K L : CodeSet) → ((c : ℕ) → K c ≡ true → L c ≡ true) → (c : ℕ) → up_to K c ≡ true
    → up_to L c ≡ true
up_to_mono K L h zero = h zero
up_to_mono K L h (suc c) =
    or_mono (K (suc c)) (up_to K c) (L (suc c)) (up_to L c) (h (suc c)) (up_to_mono K L h c)

without_mono : (K L : CodeSet) → ((c : ℕ) → K c ≡ true → L c ≡ true) → (c : ℕ) → without_end K c ≡ true
    → without_end L c ≡ true
without_mono K L h zero e = e
without_mono K L h (suc c) e = h (suc c) e

pub in_turn_mono : (K L K' L' : CodeSet) → ((c : ℕ) → K c ≡ true → K' c ≡ true)
    → ((c : ℕ) → L c ≡ true → L' c ≡ true) → (c : ℕ) → in_turn K L c ≡ true → in_turn K' L' c ≡ true
in_turn_mono K L K' L' h g c =
    or_mono (without_end K c) (K 0 && L c) (without_end K' c) (K' 0 && L' c) (without_mono K K' h c)
    (and_mono (K 0) (L c) (K' 0) (L' c) (h 0) (g c))

pub greater_mono : (K L K' L' : CodeSet) → ((c : ℕ) → K c ≡ true → K' c ≡ true)
    → ((c : ℕ) → L c ≡ true → L' c ≡ true) → (c : ℕ) → greater_of K L c ≡ true → greater_of K' L' c ≡ true
greater_mono K L K' L' h g c =
    or_mono (K c && up_to L c) (up_to K c && L c) (K' c && up_to L' c) (up_to K' c && L' c)
    (and_mono (K c) (up_to L c) (K' c) (up_to L' c) (h c) (up_to_mono L L' g c))
    (and_mono (up_to K c) (L c) (up_to K' c) (L' c) (up_to_mono K K' h c) (g c))

pub lowered_mono : (K L : CodeSet) → ((c : ℕ) → K c ≡ true → L c ≡ true) → (c : ℕ) → lowered K c ≡ true
    → lowered L c ≡ true
lowered_mono K L h zero = or_mono (K 0) (K 2) (L 0) (L 2) (h 0) (h 2)
lowered_mono K L h (suc zero) = h 1
lowered_mono K L h (suc (suc c)) = h (suc (suc (suc c)))

up_to_here : (K : CodeSet) (c : ℕ) → K c ≡ true → up_to K c ≡ true
up_to_here K zero e = e
up_to_here K (suc c) e = or_left (K (suc c)) (up_to K c) e

up_to_from : (K : CodeSet) (c n : ℕ) → K c ≡ true → up_to K (n + c) ≡ true
up_to_from K c zero e = let z : c ≡ 0 + c = omega arith in subst (λ m. up_to K m ≡ true) z (up_to_here K c e)
up_to_from K c (suc n) e =
    let z : suc (n + c) ≡ suc n + c = omega arith in
    subst (λ m. up_to K m ≡ true) z (or_right (K (suc (n + c))) (up_to K (n + c)) (up_to_from K c n e))

pub up_to_below : (K : CodeSet) (c d : ℕ) → K c ≡ true → c ≤ d → up_to K d ≡ true
up_to_below K c d e l = let z : d - c + c ≡ d = omega arith in
    subst (λ m. up_to K m ≡ true) z (up_to_from K c (d - c) e)
