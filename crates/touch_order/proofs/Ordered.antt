-- What a stable sort by sites makes of touches.
use Rattle.std.proofs.Common.{◌≡◌, refl, sym, ap, ◌∙◌, ℕ, suc, ◌<◌, ◌≤◌, Bool, true, false, cond}
use Rattle.std.proofs.Common.{not, ◌&&◌, ◌==◌, None, List, [], ◌∷◌, length, map, get_or, arith, eqb-true}
use Rattle.std.specs.Prelude.{nat_lt}
use Rattle.std.specs.List.{filter}
use Rattle.std.specs.List.Sorted.{IsNonDecreasingBy, IsStableByKey}
use Rattle.std.specs.Ordering.{is_lt, nat_cmp}
use Rattle.std.specs.declared.cmp.Ordering.TheVariants.{Less, Equal, Greater}
use Rattle.std.proofs.lemmas.Bool.{ltb-true, ltb-false, eq-eqb}
use Rattle.hh_term.specs.Touches.{by_site}
use Rattle.last_walk.specs.declared.touch.Touch.{Touch as ATouch}
use Rattle.last_walk.specs.LastWalk.{touch_of}
use Rattle.touch_order.proofs.Sorting.{at_site, AllFrom, Rises, by_site_rises, by_site_at, only_one}

-- ---- what the sort keeps

lt_is : (p q : Bool) → is_lt (cond p Less (cond q Equal Greater)) ≡ p
lt_is true q = refl
lt_is false true = refl
lt_is false false = refl

unequal : (a b : ℕ) → (a ≡ b → ⊥) → (a == b) ≡ false
unequal a b h = at_test (a == b) refl
  where
    at_test : (x : Bool) → (a == b) ≡ x → (a == b) ≡ false
    at_test true e = absurd (h (eqb-true a b e))
    at_test false e = e

neither : (a b : ℕ) (p q : Bool) → nat_lt a b ≡ p → nat_lt b a ≡ q → not p && not q ≡ (b == a)
neither a b true q e f = sym (unequal b a (λ s. absurd (omega (arith, ltb-true a b e, s))))
neither a b false true e f = sym (unequal b a (λ s. absurd (omega (arith, ltb-true b a f, s))))
neither a b false false e f =
    let same : b ≡ a = omega (arith, ltb-false a b e, ltb-false b a f) in
    sym (eq-eqb b a same)

tie_is : (a b : ℕ) → not (is_lt (nat_cmp a b)) && not (is_lt (nat_cmp b a)) ≡ (b == a)
tie_is a b =
    ap (λ x. not x && not (is_lt (nat_cmp b a))) (lt_is (nat_lt a b) (a == b))
    ∙ ap (λ x. not (nat_lt a b) && not x) (lt_is (nat_lt b a) (b == a))
    ∙ neither a b (nat_lt a b) (nat_lt b a) refl refl

abbrev site_of : ATouch → ℕ
site_of t = t.site

abbrev tied : ATouch → ATouch → Bool
tied x y = not (is_lt (nat_cmp x.site y.site)) && not (is_lt (nat_cmp y.site x.site))

kept : (x : ATouch) (ts : List ATouch) → map touch_of (filter (tied x) ts) ≡ at_site x.site (map touch_of ts)
kept x [] = refl
kept x (t ∷ ts) = at_test (tied x t) (kept x ts) ∙ ap
    (λ b. cond b (touch_of t ∷ at_site x.site (map touch_of ts)) (at_site x.site (map touch_of ts)))
    (tie_is x.site t.site)
  where
    at_test : (b : Bool) → map touch_of (filter (tied x) ts) ≡ at_site x.site (map touch_of ts) → map touch_of
        (cond b (t ∷ filter (tied x) ts) (filter (tied x) ts))
        ≡ cond b (touch_of t ∷ at_site x.site (map touch_of ts)) (at_site x.site (map touch_of ts))
    at_test true e = ap (λ z. touch_of t ∷ z) e
    at_test false e = e

abbrev at_number : ℕ → ATouch
at_number n =
    record {
      site = n;
      id = 0;
      started = None;
      used = false;
      ended = false;
      held = false;
      resumed = false;
      runs_after = false;
    }

-- ---- what it puts in order

all_from : (n : ℕ) (ts : List ATouch) → ((j : ℕ) (d : ATouch) → j < length ts → n ≤ site_of (get_or ts j d)) → AllFrom n
    (map touch_of ts)
all_from n [] h = tt
all_from n (t ∷ ts) h = (h 0 t (omega arith), all_from n ts (λ j d lt. h (suc j) d (omega (arith, lt))))

rises : (ts : List ATouch) → IsNonDecreasingBy (λ (t : ATouch). t.site) ts → Rises (map touch_of ts)
rises [] h = tt
rises (t ∷ ts) h = (
  all_from t.site ts (λ j d lt. h 0 (suc j) d (omega arith) (omega (arith, lt))),
  rises ts (λ i j d le lt. h (suc i) (suc j) d (omega (arith, le)) (omega (arith, lt))),
)

pub sorted_is : (ts us : List ATouch) → IsNonDecreasingBy (λ (t : ATouch). t.site) us → IsStableByKey (λ (t : ATouch). t.site)
    nat_cmp ts us → map touch_of us ≡ by_site (map touch_of ts)
sorted_is ts us up stable =
    only_one (map touch_of us) (by_site (map touch_of ts)) (rises us up) (by_site_rises (map touch_of ts))
    (λ n. sym (kept (at_number n) us) ∙ ap (map touch_of) (stable (at_number n)) ∙ kept (at_number n) ts
    ∙ sym (by_site_at n (map touch_of ts)))
