-- Touches are numbered one after the other.
use Rattle.std.proofs.Common.{◌≡◌, refl, sym, ap, ◌∙◌, ℕ, zero, suc, ◌+◌, ◌<◌, ◌≤◌, List, [], ◌∷◌, ◌++◌}
use Rattle.std.proofs.Common.{length, map, set, get_or, take, drop, arith}
use Rattle.hh_term.specs.Touches.{Touch, numbered}
use Rattle.last_walk.specs.declared.touch.Touch.{Touch as ATouch}
use Rattle.last_walk.specs.LastWalk.{touch_of}

-- those before this place have their ids, and those from it on get them after this last one
abbrev pub so_far : ℕ → ℕ → List ATouch → List Touch
so_far i last v = map touch_of (take i v) ++ numbered last (map touch_of (drop i v))

abbrev Numbers : ℕ → ℕ → ATouch → ATouch → Type 0
Numbers last next x y = (ts : List Touch) → numbered last (touch_of x ∷ ts) ≡ touch_of y ∷ numbered next ts

one : (i last next : ℕ) (v : List ATouch) (x y : ATouch) → i < length v → x ≡ get_or v i x → Numbers last next x y →
    so_far i last v ≡ so_far (suc i) next (set v i y)
one i last next [] x y lt e h = absurd (omega arith)
one zero last next (t ∷ ts) x y lt e h =
    ap (λ u. numbered last (touch_of u ∷ map touch_of ts)) (sym e) ∙ h (map touch_of ts)
one (suc i) last next (t ∷ ts) x y lt e h = ap (λ z. touch_of t ∷ z) (one i last next ts x y (omega arith) e h)

pub one_numbered : (all : List Touch) (i last next : ℕ) (v : List ATouch) (x y : ATouch) → i < length v → x ≡ get_or v i x →
    ((ts : List Touch) → numbered last (touch_of x ∷ ts) ≡ touch_of y ∷ numbered next ts) → all ≡ so_far i last v →
    all ≡ so_far (i + 1) next (set v i y)
one_numbered all i last next v x y lt e h all_so =
    let more : suc i ≡ i + 1 = omega arith in
    all_so ∙ one i last next v x y lt e h ∙ ap (λ n. so_far n next (set v i y)) more

pub all_numbered : (i last : ℕ) (v : List ATouch) → length v ≤ i → so_far i last v ≡ map touch_of v
all_numbered zero last [] h = refl
all_numbered (suc i) last [] h = refl
all_numbered zero last (t ∷ ts) h = absurd (omega arith)
all_numbered (suc i) last (t ∷ ts) h = ap (λ z. touch_of t ∷ z) (all_numbered i last ts (omega arith))
