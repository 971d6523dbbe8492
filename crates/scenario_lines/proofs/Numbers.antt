-- The ids that `parse` reads, and the test for UTF-8.
use Rattle.std.proofs.Common.{◌≡◌, ◌≢◌, ℕ, ◌<◌, ◌^◌, true, false, List, get_or, Result, Ok, refl, sym, ap, ◌∙◌}
use Rattle.std.proofs.Common.{subst, arith, [], ◌∷◌, Bool}
use Rattle.std.specs.Prelude.{◌&&◌}
use Rattle.std.specs.Char.{is_ascii_digit}
use Rattle.std.specs.Str.{all_ascii_digits, is_utf8, IsAscii, IsUtf8}
use Rattle.std.specs.Str.Parse.{digits_value, ParsesUnsigned}
use Rattle.std.proofs.lemmas.Result.{OkIff-at_ok}
use Rattle.std.proofs.lemmas.Str.{IsUtf8-from_ascii, IsUtf8-from_is_utf8, is_utf8-from_IsUtf8}
use Rattle.std.proofs.lemmas.Bool.Decides.{nat_tests}
use Rattle.std.proofs.lemmas.Str.Ascii.{IsAscii-cons, IsAscii-nil}
use Rattle.std.proofs.lemmas.Str.Parse.{IsNumeralModel, numerals_by_value, tells_all_ascii_digits}
use Rattle.std.proofs.lemmas.Str.Parse.{parse_plain, parse_gives}
use Rattle.scenario_lines.specs.Literals.{IsId}

pub not_utf8 : (bs : List ℕ) → (IsUtf8 bs → ⊥) → is_utf8 bs ≡ false
not_utf8 bs h =
    elim (is_utf8 bs) as (λ b. is_utf8 bs ≡ b
    → b ≡ false) [ true ↦ λ e. absurd (h (IsUtf8-from_is_utf8 bs e)) | false ↦ λ _. refl ] refl

pub utf8_from : (bs : List ℕ) → IsUtf8 bs → is_utf8 bs ≡ true
utf8_from bs h = is_utf8-from_IsUtf8 bs h

own : IsNumeralModel (λ ds. all_ascii_digits ds ≡ true) (digits_value 10)
own = numerals_by_value _ tells_all_ascii_digits

pub id_found : {E : Type 0} (bs : List ℕ) (r : Result ℕ E) → ParsesUnsigned 64 10 bs r → get_or bs 0 0 ≢ 43
    → (n : ℕ) → r ≡ Ok n → IsId bs n
id_found bs r parses no_plus n e =
    let p = OkIff-at_ok r _ _ n (parse_plain own 64 bs r parses no_plus) e in
    record {
      number = record { some = p.0.1; digits = p.0.0; value = sym p.1 };
      small = subst (λ k. k < 2 ^ 64) (sym p.1) p.0.2;
    }

pub id_only : {E : Type 0} (bs : List ℕ) (r : Result ℕ E) → ParsesUnsigned 64 10 bs r → (n : ℕ) → IsId bs n
    → r ≡ Ok n
id_only bs r parses n id =
    parse_gives own 64 bs r parses id.number.digits id.number.some
    (subst (λ k. k < 2 ^ 64) (sym id.number.value) id.small) ∙ ap Ok id.number.value

digit_ascii : (b : ℕ) → is_ascii_digit b ≡ true → b < 128
digit_ascii b h = grind (arith, nat_tests)

both : (a b : Bool) → (a && b) ≡ true → (a ≡ true) × (b ≡ true)
both true b e = (refl, e)
both false b e = absurd cc

digits_ascii : (bs : List ℕ) → all_ascii_digits bs ≡ true → IsAscii bs
digits_ascii [] h = IsAscii-nil
digits_ascii (b ∷ bs) h =
    let parts = both (is_ascii_digit b) (all_ascii_digits bs) h in
    IsAscii-cons b bs (digit_ascii b parts.0) (digits_ascii bs parts.1)

-- what is no UTF-8 is no id
pub no_id : (bs : List ℕ) (n : ℕ) → is_utf8 bs ≡ false → IsId bs n → ⊥
no_id bs n h id =
    let utf8 = is_utf8-from_IsUtf8 bs (IsUtf8-from_ascii bs (digits_ascii bs id.number.digits)) in
    let no : true ≡ false = sym utf8 ∙ h in
    cc
