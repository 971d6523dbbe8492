-- Laws of the test for UTF-8, and of the bytes of text values.
use Rattle.std.proofs.Common.{◌≡◌, ℕ, ◌+◌, ◌≤◌, Bool, true, false, List, [], ◌∷◌, ◌++◌, length, refl}
use Rattle.std.proofs.Common.{arith, length-append, ◌&&◌}
use Rattle.std.specs.List.{list_all}
use Rattle.std.specs.Str.{is_utf8, IsUtf8}
use Rattle.std.proofs.lemmas.Str.{IsUtf8-append, IsUtf8-from_is_utf8, is_utf8-from_IsUtf8, IsUtf8-nil}
use Rattle.hh_base.specs.declared.text.TheConstants.{TEXT_LIMIT}
use Rattle.hh_base.specs.Text.{text_byte, IsText}

pub not_utf8 : (bs : List ℕ) → (IsUtf8 bs → ⊥) → is_utf8 bs ≡ false
not_utf8 bs h =
    elim (is_utf8 bs) as (λ b. is_utf8 bs ≡ b
    → b ≡ false) [ true ↦ λ e. absurd (h (IsUtf8-from_is_utf8 bs e)) | false ↦ λ _. refl ] refl

pub list_all-append : (p : ℕ → Bool) (xs ys : List ℕ) → list_all p xs ≡ true → list_all p ys ≡ true
    → list_all p (xs ++ ys) ≡ true
list_all-append p [] ys a b = b
list_all-append p (x ∷ xs) ys a b =
    elim (p x) as (λ t. (t && list_all p xs) ≡ true
    → (t && list_all p (xs ++ ys))
    ≡ true) [ true ↦ λ h. list_all-append p xs ys h b | false ↦ λ h. h ] a

-- two texts, one after the other, are a text where they are short enough
pub IsText-append : (xs ys : List ℕ) → IsText xs → IsText ys → length xs + length ys ≤ TEXT_LIMIT
    → IsText (xs ++ ys)
IsText-append xs ys a b short =
    record {
      utf8 = is_utf8-from_IsUtf8 _
          (IsUtf8-append _ _ (IsUtf8-from_is_utf8 _ a.utf8) (IsUtf8-from_is_utf8 _ b.utf8));
      bytes = list_all-append text_byte xs ys a.bytes b.bytes;
      short = omega (arith, length-append xs ys);
    }

pub IsText-nil : IsText []
IsText-nil = record { utf8 = is_utf8-from_IsUtf8 [] IsUtf8-nil; bytes = refl; short = omega arith }

pub utf8_from : (bs : List ℕ) → IsUtf8 bs → is_utf8 bs ≡ true
utf8_from bs h = is_utf8-from_IsUtf8 bs h
