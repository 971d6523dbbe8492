-- The value of a quoted text is UTF-8, as the text is.
use Rattle.std.proofs.Common.{◌≡◌, ◌≢◌, ℕ, ◌+◌, ◌<◌, ◌⊎◌, inl, inr, List, [], ◌∷◌, ◌++◌, length, get_or, refl}
use Rattle.std.proofs.Common.{sym, ap, subst, ◌∙◌, ⊎_elim, arith, append_assoc, append-nil, length-append}
use Rattle.std.specs.List.{flat_map}
use Rattle.std.specs.Str.{IsUtf8}
use Rattle.std.proofs.Math.Seq.{drop-append-add}
use Rattle.std.proofs.lemmas.Bool.{cases_eq}
use Rattle.std.proofs.lemmas.Bool.Decides.{nat_tests}
use Rattle.std.proofs.lemmas.Str.{IsUtf8-append, IsUtf8-take, IsUtf8-drop, IsUtf8-from_ascii}
use Rattle.std.proofs.lemmas.Str.{IsCharBoundary-before_ascii, IsCharBoundary-after_ascii}
use Rattle.std.proofs.lemmas.Str.Ascii.{IsAscii-nil, IsAscii-cons}
use Rattle.hh_base.specs.Literal.{escaped}
use Rattle.module_token.proofs.Basics.{take_seam}

seam_at : (xs ys : List ℕ) (b : ℕ) → get_or (xs ++ b ∷ ys) (length xs) 0 ≡ b
seam_at [] ys b = refl
seam_at (x ∷ xs) ys b = seam_at xs ys b

seam_within : (xs ys : List ℕ) (b : ℕ) → length xs < length (xs ++ b ∷ ys)
seam_within xs ys b = omega (arith, length-append xs (b ∷ ys))

pub before_ascii : (xs ys : List ℕ) (b : ℕ) → b < 128 → IsUtf8 (xs ++ b ∷ ys) → IsUtf8 xs
before_ascii xs ys b low u =
    subst IsUtf8 (take_seam xs (b ∷ ys)) (IsUtf8-take (xs ++ b ∷ ys) (length xs) u
    (IsCharBoundary-before_ascii (xs ++ b ∷ ys) (length xs) (seam_within xs ys b)
    (omega (arith, low, seam_at xs ys b))))

pub after_ascii : (xs ys : List ℕ) (b : ℕ) → b < 128 → IsUtf8 (xs ++ b ∷ ys) → IsUtf8 ys
after_ascii xs ys b low u =
    subst IsUtf8 (drop-append-add xs (b ∷ ys) 1) (IsUtf8-drop (xs ++ b ∷ ys) (length xs + 1) u
    (IsCharBoundary-after_ascii (xs ++ b ∷ ys) (length xs) u (seam_within xs ys b)
    (omega (arith, low, seam_at xs ys b))))

-- a byte stands as it is, or is ASCII and stands as a backslash and another ASCII byte
abbrev Escape : ℕ → Type 0
Escape b = (escaped b ≡ b ∷ []) ⊎ ((m : ℕ) × (escaped b ≡ 92 ∷ m ∷ []) × (m < 128) × (b < 128))

plain : (b : ℕ) → b ≢ 34 → b ≢ 92 → b ≢ 10 → b ≢ 9 → escaped b ≡ b ∷ []
plain b p q r s = grind (arith, nat_tests)

escape : (b : ℕ) → Escape b
escape b =
    ⊎_elim (λ e. subst Escape (sym e) (inr (34, refl, omega arith, omega arith)))
    (λ p. ⊎_elim (λ e. subst Escape (sym e) (inr (92, refl, omega arith, omega arith)))
    (λ q. ⊎_elim (λ e. subst Escape (sym e) (inr (110, refl, omega arith, omega arith)))
    (λ r. ⊎_elim (λ e. subst Escape (sym e) (inr (116, refl, omega arith, omega arith)))
    (λ s. inl (plain b p q r s)) (cases_eq b 9)) (cases_eq b 10)) (cases_eq b 92)) (cases_eq b 34)

-- one byte more of the value, given that what follows it is UTF-8
module _ (before : List ℕ) (b : ℕ) (value rest : List ℕ) (again : (front : List ℕ)
    → IsUtf8 (front ++ (flat_map escaped value ++ 34 ∷ rest)) → IsUtf8 (front ++ value))
    (u : IsUtf8 (before ++ (flat_map escaped (b ∷ value) ++ 34 ∷ rest))) where
  abbrev tail : List ℕ
  tail = flat_map escaped value ++ 34 ∷ rest

  whole : (front : List ℕ) → escaped b ≡ front → before
      ++ (flat_map escaped (b ∷ value) ++ 34 ∷ rest) ≡ before ++ (front ++ tail)
  whole front e = ap (λ l. before ++ l) (append_assoc (escaped b) (flat_map escaped value) (34 ∷ rest)
      ∙ ap (λ l. l ++ tail) e)

  as_it_is : escaped b ≡ b ∷ [] → IsUtf8 (before ++ b ∷ value)
  as_it_is e = subst IsUtf8 (append_assoc before (b ∷ []) value)
      (again (before ++ b ∷ []) (subst IsUtf8 (whole (b ∷ []) e ∙ sym (append_assoc before (b ∷ []) tail)) u))

  by_escape : (m : ℕ) × (escaped b ≡ 92 ∷ m ∷ []) × (m < 128) × (b < 128) → IsUtf8 (before ++ b ∷ value)
  by_escape (m, e, low, ascii) =
      let text = subst IsUtf8 (whole (92 ∷ m ∷ []) e) u in
      let more = after_ascii [] tail m low (after_ascii before (m ∷ tail) 92 (omega arith) text) in
      IsUtf8-append before (b ∷ value) (before_ascii before (m ∷ tail) 92 (omega arith) text)
      (IsUtf8-append (b ∷ []) value (IsUtf8-from_ascii (b ∷ []) (IsAscii-cons b [] ascii IsAscii-nil))
      (again [] more))

  utf8_step : IsUtf8 (before ++ b ∷ value)
  utf8_step = ⊎_elim as_it_is by_escape (escape b)

-- the bytes before, and those of the value that follow
pub utf8_behind : (before value rest : List ℕ) → IsUtf8 (before ++ (flat_map escaped value ++ 34 ∷ rest))
    → IsUtf8 (before ++ value)
utf8_behind before [] rest u = subst IsUtf8 (sym (append-nil before))
    (before_ascii before rest 34 (omega arith) u)
utf8_behind before (b ∷ value) rest u = utf8_step before b value rest
    (λ front. utf8_behind front value rest) u
