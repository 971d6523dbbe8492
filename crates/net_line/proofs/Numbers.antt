-- A number is read as what is written for it, and as nothing else.
use Rattle.std.proofs.Common.{◌≡◌, ◌≢◌, ℕ, ◌<◌, ◌≤◌, ◌^◌, ◌-◌, Bool, true, false, List, Option, Some, None}
use Rattle.std.proofs.Common.{Result}
use Rattle.std.proofs.Common.{Ok, Err, refl, sym, ap, ◌∙◌, subst, arith}
use Rattle.std.specs.Prelude.{◌&&◌, if◌then◌else◌, nat_le, decimal}
use Rattle.std.specs.Str.{bytes_eq, is_utf8, IsUtf8}
use Rattle.std.specs.Str.Parse.{digits_value, ParsesUnsigned}
use Rattle.std.proofs.lemmas.Fmt.{decimal_is_IsNumeral, parse-decimal, IsAscii-decimal, decimal_injective}
use Rattle.std.proofs.lemmas.Slice.Eq.{bytes_eq-Decides}
use Rattle.std.proofs.lemmas.Bool.Decides.{nat_tests}
use Rattle.std.proofs.lemmas.Str.{IsUtf8-from_ascii, IsUtf8-from_is_utf8, is_utf8-from_IsUtf8}
use Rattle.net_list.specs.Form.{GREATEST}
use Rattle.net_line.specs.Decoding.{number_of}

pub same_bytes : (xs ys : List ℕ) → xs ≡ ys → bytes_eq xs ys ≡ true
same_bytes xs ys e = grind (arith, bytes_eq-Decides xs ys)

pub are_same : (xs ys : List ℕ) → bytes_eq xs ys ≡ true → xs ≡ ys
are_same xs ys e = grind (arith, bytes_eq-Decides xs ys)

at_most : (n : ℕ) → n ≤ GREATEST → nat_le n GREATEST ≡ true
at_most n h = grind (arith, nat_tests)

is_at_most : (n : ℕ) → nat_le n GREATEST ≡ true → n ≤ GREATEST
is_at_most n h = grind (arith, nat_tests)

both : (a b : Bool) → a ≡ true → b ≡ true → (a && b) ≡ true
both true true e f = refl
both true false e f = f
both false b e f = e

each : (a b : Bool) → (a && b) ≡ true → (a ≡ true) × (b ≡ true)
each true b e = (refl, e)
each false b e = absurd cc

taken : {A : Type 0} (b : Bool) (a : A) → b ≡ true → (if b then Some a else None) ≡ Some a
taken true a e = refl
taken false a e = absurd cc

given : {A : Type 0} (b : Bool) (a c : A) → (if b then Some a else None) ≡ Some c → (b ≡ true) × (a ≡ c)
given true a c e = (refl, let same : a ≡ c = cc in same)
given false a c e = absurd cc

pub number_is : (w : List ℕ) (n : ℕ) → n ≤ GREATEST → w ≡ decimal n → number_of w ≡ Some n
number_is w n h e =
    let value : digits_value 10 w ≡ n = ap (digits_value 10) e ∙ (decimal_is_IsNumeral n (omega (
      arith,
      h,
    ))).1 in
    let same = same_bytes (decimal (digits_value 10 w)) w (ap decimal value ∙ sym e) in
    let small = at_most (digits_value 10 w) (subst (λ m. m ≤ GREATEST) (sym value) h) in
    taken (bytes_eq (decimal (digits_value 10 w)) w && nat_le (digits_value 10 w) GREATEST) (digits_value
    10 w)
    (both (bytes_eq (decimal (digits_value 10 w)) w) (nat_le (digits_value 10 w) GREATEST) same small)
    ∙ ap Some value

pub number_only : (w : List ℕ) (n : ℕ) → number_of w ≡ Some n → (w ≡ decimal n) × (n ≤ GREATEST)
number_only w n e =
    let g = given (bytes_eq (decimal (digits_value 10 w)) w && nat_le (digits_value 10 w) GREATEST)
    (digits_value 10 w) n e in
    let p = each (bytes_eq (decimal (digits_value 10 w)) w) (nat_le (digits_value 10 w) GREATEST) g.0 in (
      sym (are_same (decimal (digits_value 10 w)) w p.0) ∙ ap decimal g.1,
      subst (λ m. m ≤ GREATEST) g.1 (is_at_most (digits_value 10 w) p.1),
    )

pub number_none : (w : List ℕ) → ((n : ℕ) → n ≤ GREATEST → w ≡ decimal n → ⊥) → number_of w ≡ None
number_none w h =
    elim (number_of w) as (λ o. number_of w ≡ o → o ≡ None) [
      | None ↦ λ _. refl
      | Some n ↦ λ e. let p = number_only w n e in absurd (h n p.1 p.0)
    ] refl

pub not_text : (w : List ℕ) → (IsUtf8 w → ⊥) → number_of w ≡ None
not_text w h =
    number_none w (λ n l e. h (subst IsUtf8 (sym e) (IsUtf8-from_ascii (decimal n) (IsAscii-decimal n
    (omega (arith, l))))))

pub not_parsed : {E : Type 0} (w : List ℕ) (r : Result ℕ E) (e : E) → ParsesUnsigned 32 10 w r → r ≡ Err e
    → number_of w ≡ None
not_parsed w r e parses is =
    number_none w (λ n l same. let ok = parse-decimal 32 n w r (omega (arith, l)) (omega (arith, l)) same
    parses in
    let no : ⊥ = cc in no)

pub otherwise_written : {E : Type 0} (w : List ℕ) (r : Result ℕ E) (m : ℕ) → ParsesUnsigned 32 10 w r → r ≡
    Ok m
    → (w ≡ decimal m → ⊥) → number_of w ≡ None
otherwise_written w r m parses is other =
    number_none w (λ n l same. let ok = parse-decimal 32 n w r (omega (arith, l)) (omega (arith, l)) same
    parses in
    let one : m ≡ n = cc in other (same ∙ ap decimal (sym one)))
