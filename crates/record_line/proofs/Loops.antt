-- A loop reads so many, one after the other.
use Rattle.std.proofs.Common.{◌≡◌, ℕ, ◌<◌, ◌-◌, List, [], ◌∷◌, ◌++◌, Some}
use Rattle.net_line.specs.Reading.{Read, Reader, times, behind}
use Rattle.net_line.proofs.Loops.{one_more as one_more_read}

pub one_more : {A : Type 0} (r : Reader A) (whole : Read (List A)) (xs : List A) (left : ℕ) (l : List ℕ) (a : A)
    (m : List ℕ) → whole ≡ behind xs (times left r l) → 0 < left → r l ≡ Some (a, m)
    → whole ≡ behind (xs ++ a ∷ []) (times (left - 1) r m)
one_more = one_more_read
