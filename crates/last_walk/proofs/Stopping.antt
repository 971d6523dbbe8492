-- Touches from a place on, stopped one after the other.
use Rattle.std.proofs.Common.{◌≡◌, refl, ap, ◌∙◌, ℕ, zero, suc, ◌+◌, ◌<◌, ◌≤◌, ◌-◌, false, List, [], ◌∷◌, subst}
use Rattle.std.proofs.Common.{length, map, set, get_or, arith}
use Rattle.hh_term.specs.Touches.{stopped}
use Rattle.last_walk.specs.declared.touch.Touch.{Touch as ATouch}
use Rattle.last_walk.specs.LastWalk.{touch_of, stopped_from}

abbrev stop : ATouch → ATouch
stop t = record t { runs_after = false }

-- n of them are stopped, from the place f on
abbrev pub halted : ℕ → ℕ → List ATouch → List ATouch
halted zero zero ts = ts
halted zero (suc n) [] = []
halted zero (suc n) (t ∷ ts) = stop t ∷ halted zero n ts
halted (suc f) n [] = []
halted (suc f) n (t ∷ ts) = t ∷ halted f n ts

pub none_halted : (f : ℕ) (ts : List ATouch) → halted f 0 ts ≡ ts
none_halted zero ts = refl
none_halted (suc f) [] = refl
none_halted (suc f) (t ∷ ts) = ap (λ z. t ∷ z) (none_halted f ts)

pub same_many : (f n : ℕ) (ts : List ATouch) → length (halted f n ts) ≡ length ts
same_many zero zero ts = refl
same_many zero (suc n) [] = refl
same_many zero (suc n) (t ∷ ts) = ap suc (same_many zero n ts)
same_many (suc f) n [] = refl
same_many (suc f) n (t ∷ ts) = ap suc (same_many f n ts)

pub one_more : (f n i : ℕ) (ts : List ATouch) (u : ATouch) → i ≡ f + n → i < length ts → set (halted f n ts) i
    (stop (get_or (halted f n ts) i u)) ≡ halted f (suc n) ts
one_more zero zero zero [] u e h = absurd (omega arith)
one_more zero zero zero (t ∷ ts) u e h = refl
one_more zero zero (suc i) ts u e h = absurd (omega arith)
one_more zero (suc n) zero ts u e h = absurd (omega arith)
one_more zero (suc n) (suc i) [] u e h = absurd (omega arith)
one_more zero (suc n) (suc i) (t ∷ ts) u e h = ap (λ z. stop t ∷ z)
    (one_more zero n i ts u (omega arith) (omega arith))
one_more (suc f) n zero ts u e h = absurd (omega arith)
one_more (suc f) n (suc i) [] u e h = absurd (omega arith)
one_more (suc f) n (suc i) (t ∷ ts) u e h = ap (λ z. t ∷ z) (one_more f n i ts u (omega arith) (omega arith))

pub all_halted : (f n : ℕ) (ts : List ATouch) → length ts ≤ f + n → map touch_of (halted f n ts) ≡ stopped_from f
    (map touch_of ts)
all_halted zero zero [] h = refl
all_halted zero zero (t ∷ ts) h = absurd (omega arith)
all_halted zero (suc n) [] h = refl
all_halted zero (suc n) (t ∷ ts) h = ap (λ z. stopped (touch_of t) ∷ z) (all_halted zero n ts (omega arith))
all_halted (suc f) n [] h = refl
all_halted (suc f) n (t ∷ ts) h = ap (λ z. touch_of t ∷ z) (all_halted f n ts (omega arith))

pub step : (f i : ℕ) (us ts : List ATouch) (x : ATouch) → f ≤ i → i < length ts → ts ≡ halted f (i - f) us → x ≡ get_or
    ts i x → set ts i (stop x) ≡ halted f (i + 1 - f) us
step f i us ts x o lt e g =
    let inside : i < length us = subst (λ n. i < n) (ap length e ∙ same_many f (i - f) us) lt in
    ap (λ z. set ts i (stop z)) g ∙ ap (λ l. set l i (stop (get_or l i x))) e ∙ one_more f (i - f) i us x (omega arith)
    inside ∙ ap (λ n. halted f n us) (omega arith)
