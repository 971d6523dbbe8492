-- A loop reads so many, one after the other.
use Rattle.std.proofs.Common.{◌≡◌, ℕ, zero, suc, ◌<◌, ◌-◌, List, [], ◌∷◌, ◌++◌, Option, Some, None, refl}
use Rattle.std.proofs.Common.{sym, ap, ◌∙◌, arith, append_assoc}
use Rattle.net_line.specs.Reading.{Read, Reader, and_then, ◌>>=◌, pure, times, behind}

moved : {A : Type 0} (xs : List A) (a : A) (o : Read (List A))
    → behind xs (and_then o (λ rest. pure (a ∷ rest))) ≡ behind (xs ++ a ∷ []) o
moved xs a None = refl
moved xs a (Some p) = ap (λ l. Some (l, p.1)) (sym (append_assoc xs (a ∷ []) p.0))

pub one_more : {A : Type 0} (r : Reader A) (whole : Read (List A)) (xs : List A) (left : ℕ) (l : List ℕ) (a
    : A)
    (m : List ℕ) → whole ≡ behind xs (times left r l) → 0 < left → r l ≡ Some (a, m)
    → whole ≡ behind (xs ++ a ∷ []) (times (left - 1) r m)
one_more r whole xs zero l a m e some read = absurd (let no : ⊥ = omega (arith, some) in no)
one_more r whole xs (suc n) l a m e some read =
    let less : suc n - 1 ≡ n = omega arith in
    e ∙ ap (λ o. behind xs (and_then o (λ x. times n r >>= λ rest. pure (x ∷ rest)))) read
    ∙ moved xs a (times n r m) ∙ ap (λ k. behind (xs ++ a ∷ []) (times k r m)) (sym less)
