-- Where the last walk begins.
use Rattle.std.proofs.Common.{◌≡◌, ap, ◌∙◌, subst, ℕ, zero, suc, ◌+◌, Some, List, [], ◌∷◌, ◌++◌, slice_get}
use Rattle.std.proofs.Common.{length-append}
use Rattle.last_walk.specs.declared.last_pass.Emitted.{Emitted}
use Rattle.last_walk.specs.LastWalk.{Counts}
use Rattle.last_walk.specs.Whole.{NoEmissions}

same_some : (x y : Emitted) → Some x ≡ Some y → x ≡ y
same_some x y e = cc

still_none : (es : List Emitted) (x : Emitted) → ((s : ℕ) (y : Emitted) → slice_get es s ≡ Some y → Counts y []) →
    Counts x [] → (s : ℕ) (y : Emitted) → slice_get (es ++ x ∷ []) s ≡ Some y → Counts y []
still_none [] x h g zero y e = subst (λ z. Counts z []) (same_some x y e) g
still_none [] x h g (suc s) y e = cc
still_none (z ∷ es) x h g zero y e = h zero y e
still_none (z ∷ es) x h g (suc s) y e = still_none es x (λ r v f. h (suc r) v f) g s y e

pub none_more : (n : ℕ) (es : List Emitted) (x : Emitted) → NoEmissions n es → Counts x [] →
    NoEmissions (n + 1) (es ++ x ∷ [])
none_more n es x h g = record {
  len = length-append es (x ∷ []) ∙ ap (λ k. k + 1) h.len;
  none = still_none es x h.none g;
}
