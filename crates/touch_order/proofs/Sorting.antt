-- Of the lists in rising site one alone has the same touches at each site in the same order.
use Rattle.std.proofs.Common.{◌≡◌, refl, sym, ap, ◌∙◌, ℕ, ◌<◌, ◌≤◌, Bool, true, false, cond, subst}
use Rattle.std.proofs.Common.{◌==◌, List, [], ◌∷◌, arith, eqb-true, eq-eqb}
use Rattle.std.specs.Prelude.{nat_le}
use Rattle.std.specs.List.{AllByRecursion}
use Rattle.std.proofs.lemmas.Bool.{leb-true, leb-false}
use Rattle.hh_term.specs.Touches.{Touch, in_place, by_site}

abbrev pub at_site : ℕ → List Touch → List Touch
at_site n [] = []
at_site n (t ∷ ts) = cond (t.site == n) (t ∷ at_site n ts) (at_site n ts)

abbrev pub AllFrom : ℕ → List Touch → Type 0
AllFrom n = AllByRecursion (λ t. n ≤ t.site)

abbrev pub Rises : List Touch → Type 0
Rises [] = Unit {0}
Rises (t ∷ ts) = AllFrom t.site ts × Rises ts

here : (n : ℕ) (t : Touch) (ts : List Touch) → t.site ≡ n → at_site n (t ∷ ts) ≡ t ∷ at_site n ts
here n t ts e = ap (λ b. cond b (t ∷ at_site n ts) (at_site n ts)) (eq-eqb t.site n e)

elsewhere : (n : ℕ) (t : Touch) (ts : List Touch) → (t.site == n) ≡ false → at_site n (t ∷ ts) ≡ at_site n ts
elsewhere n t ts e = ap (λ b. cond b (t ∷ at_site n ts) (at_site n ts)) e

-- ---- by_site rises, and keeps the order at each site

from_less : (m n : ℕ) (ts : List Touch) → m ≤ n → AllFrom n ts → AllFrom m ts
from_less m n [] h all = tt
from_less m n (t ∷ ts) h all = (omega (arith, h, all.0), from_less m n ts h all.1)

placed_from : (n : ℕ) (t : Touch) (us : List Touch) → n ≤ t.site → AllFrom n us → AllFrom n (in_place t us)
placed_from n t [] h all = (h, tt)
placed_from n t (u ∷ us) h all = at_test (placed_from n t us h all.1) (nat_le t.site u.site)
  where
    at_test : AllFrom n (in_place t us) → (b : Bool) → AllFrom n (cond b (t ∷ u ∷ us) (u ∷ in_place t us))
    at_test later true = (h, all)
    at_test later false = (all.0, later)

placed_rises : (t : Touch) (us : List Touch) → Rises us → Rises (in_place t us)
placed_rises t [] r = (tt, tt)
placed_rises t (u ∷ us) r = at_test (placed_rises t us r.1) (nat_le t.site u.site) refl
  where
    at_test : Rises (in_place t us) → (b : Bool) → nat_le t.site u.site ≡ b → Rises
        (cond b (t ∷ u ∷ us) (u ∷ in_place t us))
    at_test later true e =
        let le : t.site ≤ u.site = leb-true t.site u.site e in
        ((le, from_less t.site u.site us le r.0), r)
    at_test later false e =
        let lt : u.site < t.site = leb-false t.site u.site e in
        (placed_from u.site t us (omega (arith, lt)) r.0, later)

pub by_site_rises : (ts : List Touch) → Rises (by_site ts)
by_site_rises [] = tt
by_site_rises (t ∷ ts) = placed_rises t (by_site ts) (by_site_rises ts)

apart : (n : ℕ) (t u : Touch) → u.site < t.site → (u.site == n) ≡ true → (t.site == n) ≡ false
apart n t u lt e = at_test (t.site == n) refl
  where
    at_test : (b : Bool) → (t.site == n) ≡ b → (t.site == n) ≡ false
    at_test true q = absurd (omega (arith, lt, eqb-true u.site n e, eqb-true t.site n q))
    at_test false q = q

placed_at : (n : ℕ) (t : Touch) (us : List Touch) → at_site n (in_place t us) ≡ at_site n (t ∷ us)
placed_at n t [] = refl
placed_at n t (u ∷ us) = at_test (placed_at n t us) (nat_le t.site u.site) refl
  where
    later : at_site n (in_place t us) ≡ at_site n (t ∷ us) → (u.site < t.site) → (b : Bool) → (u.site == n) ≡ b →
        at_site n (u ∷ in_place t us) ≡ at_site n (t ∷ u ∷ us)
    later inner lt true e =
        let away : (t.site == n) ≡ false = apart n t u lt e in
        here n u (in_place t us) (eqb-true u.site n e) ∙ ap (λ zs. u ∷ zs)
        (inner ∙ elsewhere n t us away)
        ∙ sym (here n u us (eqb-true u.site n e)) ∙ sym (elsewhere n t (u ∷ us) away)
    later inner lt false e =
        elsewhere n u (in_place t us) e ∙ inner
        ∙ ap (λ zs. cond (t.site == n) (t ∷ zs) zs) (sym (elsewhere n u us e))

    at_test : at_site n (in_place t us) ≡ at_site n (t ∷ us) → (b : Bool) → nat_le t.site u.site ≡ b →
        at_site n (cond b (t ∷ u ∷ us) (u ∷ in_place t us)) ≡ at_site n (t ∷ u ∷ us)
    at_test inner true e = refl
    at_test inner false e = later inner (leb-false t.site u.site e) (u.site == n) refl

pub by_site_at : (n : ℕ) (ts : List Touch) → at_site n (by_site ts) ≡ at_site n ts
by_site_at n [] = refl
by_site_at n (t ∷ ts) =
    placed_at n t (by_site ts) ∙ ap (λ zs. cond (t.site == n) (t ∷ zs) zs) (by_site_at n ts)

-- ---- there is no other

none_below : (n : ℕ) (ts : List Touch) → ((t : Touch) → n < t.site → (t.site == n) ≡ false) → (m : ℕ) → n < m →
    AllFrom m ts → at_site n ts ≡ []
none_below n [] f m lt all = refl
none_below n (t ∷ ts) f m lt all =
    elsewhere n t ts (f t (omega (arith, lt, all.0))) ∙ none_below n ts f m lt all.1

above : (n : ℕ) (t : Touch) → n < t.site → (t.site == n) ≡ false
above n t lt = at_test (t.site == n) refl
  where
    at_test : (b : Bool) → (t.site == n) ≡ b → (t.site == n) ≡ false
    at_test true q = absurd (omega (arith, lt, eqb-true t.site n q))
    at_test false q = q

no_touch : (t : Touch) (ts : List Touch) → t ∷ ts ≡ [] → ⊥
no_touch t ts e = cc

first_same : (t u : Touch) (ts us : List Touch) → t ∷ ts ≡ u ∷ us → t ≡ u
first_same t u ts us e = cc

rest_same : (t u : Touch) (ts us : List Touch) → t ∷ ts ≡ u ∷ us → ts ≡ us
rest_same t u ts us e = cc

-- the first of one list is not before that of the other
not_before : (t u : Touch) (ts us : List Touch) → Rises (u ∷ us) → at_site t.site (t ∷ ts) ≡ at_site t.site (u ∷ us)
    → t.site < u.site → ⊥
not_before t u ts us r e lt =
    no_touch t (at_site t.site ts)
    (sym (here t.site t ts refl) ∙ e ∙ none_below t.site (u ∷ us) (above t.site) u.site lt (omega arith, r.0))

pub only_one : (ts us : List Touch) → Rises ts → Rises us → ((n : ℕ) → at_site n ts ≡ at_site n us) → ts ≡ us
only_one [] [] r s same = refl
only_one [] (u ∷ us) r s same =
    absurd (no_touch u (at_site u.site us) (sym (here u.site u us refl) ∙ sym (same u.site)))
only_one (t ∷ ts) [] r s same =
    absurd (no_touch t (at_site t.site ts) (sym (here t.site t ts refl) ∙ same t.site))
only_one (t ∷ ts) (u ∷ us) r s same =
    let a = not_before t u ts us s (same t.site) in
    let b = not_before u t us ts r (sym (same u.site)) in
    let site : t.site ≡ u.site = equal t.site u.site a b in
    let both : (t ∷ at_site t.site ts) ≡ (u ∷ at_site t.site us) =
    sym (here t.site t ts refl) ∙ same t.site ∙ here t.site u us (sym site) in
    let one : t ≡ u = first_same t u (at_site t.site ts) (at_site t.site us) both in
    ap (λ x. x ∷ ts) one ∙ ap (λ xs. u ∷ xs) (only_one ts us r.1 s.1 (rest site both))
  where
    equal : (m n : ℕ) → (m < n → ⊥) → (n < m → ⊥) → m ≡ n
    equal m n f g = omega (arith, f, g)

    rest : (t.site ≡ u.site) → (t ∷ at_site t.site ts) ≡ (u ∷ at_site t.site us) → (n : ℕ) → at_site n ts ≡ at_site n us
    rest site both n = at_test (t.site == n) refl
      where
        at_test : (b : Bool) → (t.site == n) ≡ b → at_site n ts ≡ at_site n us
        at_test true q =
            let e : t.site ≡ n = eqb-true t.site n q in
            subst (λ m. at_site m ts ≡ at_site m us) e (rest_same t u (at_site t.site ts) (at_site t.site us) both)
        at_test false q =
            sym (elsewhere n t ts q) ∙ same n ∙ elsewhere n u us (ap (λ m. m == n) (sym site) ∙ q)
