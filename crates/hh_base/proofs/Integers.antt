-- The integers that `parse` reads are the literals, but for a plus in front.
use Rattle.std.proofs.Common.{◌≡◌, ◌≢◌, ℕ, ◌<◌, ◌≤◌, ◌^◌, true, List, [], ◌∷◌, length, get_or, drop}
use Rattle.std.proofs.Common.{Result, Ok, refl, sym, ap, ◌∙◌, inl, inr, ⊎_elim, arith, subst}
use Rattle.std.specs.Prelude.{ℤ, pos, negsuc, neg_ℤ, suc}
use Rattle.std.specs.Fmt.{decimal, signed_decimal}
use Rattle.std.proofs.lemmas.Fmt.{decimal_nonempty, digits_decimal, digits_value-decimal}
use lib.Signed.{mag}
use Rattle.std.specs.Str.{all_ascii_digits}
use Rattle.std.specs.Str.Parse.{digits_value, ParsesSigned}
use Rattle.std.proofs.lemmas.Bool.{cases_eq}
use Rattle.std.proofs.lemmas.Result.{OkIff-at_ok, Ok-from_Ok_iff}
use Rattle.std.proofs.lemmas.Str.Parse.{IsNumeralModel, numerals_by_value, tells_all_ascii_digits}
use Rattle.std.proofs.lemmas.Str.Parse.{parse_signed_plain, parse_signed_minus, parse_signed_digits}
use Rattle.std.proofs.lemmas.Int.{to_z-of_z}
use mir.Syntax.{w64}
use mir.Val.{to_z, of_z, SFits}
use Rattle.hh_base.specs.Literal.{IsNumber, IsInteger}

own : IsNumeralModel (λ ds. all_ascii_digits ds ≡ true) (digits_value 10)
own = numerals_by_value _ tells_all_ascii_digits

minus_first : (bs : List ℕ) → get_or bs 0 0 ≡ 45 → bs ≡ 45 ∷ drop 1 bs
minus_first [] e = cc
minus_first (b ∷ bs) e = ap (λ c. c ∷ bs) e

found_minus : {E : Type 0} (bs : List ℕ) (r : Result ℤ E) → ParsesSigned w64 10 bs r → get_or bs 0 0 ≡ 45
    → (n : ℤ) → r ≡ Ok n → IsInteger bs n
found_minus bs r parses minus n e =
    let p = OkIff-at_ok r _ _ n (parse_signed_minus own w64 bs r parses minus) e in
    inr (
      drop 1 bs,
      digits_value 10 (drop 1 bs),
      minus_first bs minus,
      record { some = p.0.1; digits = p.0.0; value = refl },
      p.0.2,
      p.1,
    )

found_plain : {E : Type 0} (bs : List ℕ) (r : Result ℤ E) → ParsesSigned w64 10 bs r → get_or bs 0 0 ≢ 43
    → get_or bs 0 0 ≢ 45 → (n : ℤ) → r ≡ Ok n → IsInteger bs n
found_plain bs r parses no_plus no_minus n e =
    let p = OkIff-at_ok r _ _ n (parse_signed_plain own w64 bs r parses no_plus no_minus) e in
    inl (digits_value 10 bs, record { some = p.0.1; digits = p.0.0; value = refl }, p.0.2, p.1)

pub integer-found : {E : Type 0} (bs : List ℕ) (r : Result ℤ E) → ParsesSigned w64 10 bs r
    → get_or bs 0 0 ≢ 43 → (n : ℤ) → r ≡ Ok n → IsInteger bs n
integer-found bs r parses no_plus n e =
    ⊎_elim (λ minus. found_minus bs r parses minus n e)
    (λ no_minus. found_plain bs r parses no_plus no_minus n e) (cases_eq (get_or bs 0 0) 45)

pub integer-only : {E : Type 0} (bs : List ℕ) (r : Result ℤ E) → ParsesSigned w64 10 bs r → (n : ℤ)
    → IsInteger bs n → r ≡ Ok n
integer-only bs r parses n (inl (m, number, small, is)) =
    Ok-from_Ok_iff r _ _ (parse_signed_digits own w64 bs r parses number.digits)
    (number.some, subst (λ k. k < 2 ^ 63) (sym number.value) small)
    ∙ ap Ok (ap pos number.value ∙ sym is)
integer-only bs r parses n (inr (ds, m, text, number, small, is)) =
    let rest : drop 1 bs ≡ ds = ap (drop 1) text in
    let minus : get_or bs 0 0 ≡ 45 = ap (λ xs. get_or xs 0 0) text in
    let value : digits_value 10 (drop 1 bs) ≡ m = ap (digits_value 10) rest ∙ number.value in
    let digits : all_ascii_digits (drop 1 bs) ≡ true = ap all_ascii_digits rest ∙ number.digits in
    Ok-from_Ok_iff r _ _ (parse_signed_minus own w64 bs r parses minus) (
      digits,
      subst (λ xs. 0 < length xs) (sym rest) number.some,
      subst (λ k. k ≤ 2 ^ 63) (sym value) small,
    ) ∙ ap Ok (ap (λ k. neg_ℤ (pos k)) value ∙ sym is)

-- the same of the number as it is kept in 64 bits
pub integer-kept : {E : Type 0} (bs : List ℕ) (r : Result ℤ E) → ParsesSigned w64 10 bs r
    → get_or bs 0 0 ≢ 43 → (n : ℤ) → r ≡ Ok n → IsInteger bs (to_z w64 (of_z w64 n))
integer-kept bs r parses no_plus n e =
    let p = OkIff-at_ok r _ _ n parses e in
    let fits : SFits w64 n = subst (SFits w64) (sym p.1) p.0.1 in
    subst (IsInteger bs) (sym (to_z-of_z w64 n fits)) (integer-found bs r parses no_plus n e)

number-decimal : (n : ℕ) → n < 2 ^ 64 → IsNumber (decimal n) n
number-decimal n h =
    record {
      some = decimal_nonempty n h;
      digits = digits_decimal own n h;
      value = digits_value-decimal own n h;
    }

-- what is written of a number of 64 bits is a literal of it
pub integer-signed_decimal : (n : ℤ) → mag n < 2 ^ 63 → IsInteger (signed_decimal n) n
integer-signed_decimal (pos n) h = inl (n, number-decimal n (omega arith), h, refl)
integer-signed_decimal (negsuc n) h =
    inr (decimal (suc n), suc n, refl, number-decimal (suc n) (omega arith), omega arith, refl)
