-- The digits at the front of a text.
use Rattle.std.proofs.Common.{◌≡◌, ℕ, zero, suc, ◌+◌, ◌-◌, ◌<◌, ◌^◌, true, false, cond, List, [], ◌∷◌, length}
use Rattle.std.proofs.Common.{take, get_or, Err, refl, ap, subst, ◌∙◌, ⊎_elim, arith}
use Rattle.std.specs.Prelude.{◌&&◌, nat_le, if◌then◌else◌}
use Rattle.std.specs.Char.{is_ascii_digit}
use Rattle.std.specs.List.{prefix_len}
use Rattle.std.specs.Str.{IsUtf8, IsCharBoundary, all_ascii_digits}
use Rattle.std.specs.Str.Parse.{digits_value, ParsesUnsigned}
use Rattle.std.proofs.lemmas.Bool.{cases_lt}
use Rattle.std.proofs.lemmas.Bool.Decides.{nat_tests}
use Rattle.std.proofs.lemmas.Str.{IsCharBoundary-after_ascii}
use Rattle.std.proofs.lemmas.List.Sums.{prefix_len-le-length}
use Rattle.std.proofs.lemmas.Str.Parse.{IsNumeralModel, numerals_by_value, tells_all_ascii_digits}
use Rattle.std.proofs.lemmas.Str.Parse.{parse_digits}
use Rattle.module_token.specs.Cut.{IsCut, CutsAt}
use Rattle.module_token.specs.Front.{number_cut}
use Rattle.module_token.specs.declared.fault.TokenFaultKind.TheVariants as fault
use Rattle.module_token.specs.declared.front.Front.TheVariants as front
use Rattle.module_token.specs.declared.token.TokenKind.TheVariants as token

pub own : IsNumeralModel (λ ds. all_ascii_digits ds ≡ true) (digits_value 10)
own = numerals_by_value _ tells_all_ascii_digits

pub digit_ascii : (b : ℕ) → is_ascii_digit b ≡ true → b < 128
digit_ascii b h = grind (arith, nat_tests)

abbrev pub run : List ℕ → ℕ
run text = prefix_len is_ascii_digit text

-- each byte of the run is a digit
run_digit : (text : List ℕ) (i : ℕ) → i < run text → is_ascii_digit (get_or text i 0) ≡ true
run_digit [] i l = absurd (let no : ⊥ = omega arith in no)
run_digit (b ∷ bs) zero l =
    elim (is_ascii_digit b) as (λ t. 0 < cond t (1 + run bs) 0 → t ≡ true) [
      | true ↦ λ k. refl
      | false ↦
          λ k. absurd (let no : ⊥ = omega arith in no)
    ] l
run_digit (b ∷ bs) (suc i) l =
    run_digit bs i (elim (is_ascii_digit b) as (λ t. suc i < cond t (1 + run bs) 0 → i < run bs)
    [ true ↦ λ k. omega arith | false ↦ λ k. absurd (let no : ⊥ = omega arith in no) ] l)

pub run_all : (text : List ℕ) → all_ascii_digits (take (run text) text) ≡ true
run_all [] = refl
run_all (b ∷ bs) = elim (is_ascii_digit b) as (λ t. is_ascii_digit b ≡ t
    → all_ascii_digits (take (cond t (1 + run bs) 0) (b ∷ bs)) ≡ true) [
      | true ↦ λ e. let n : 1 + run bs ≡ suc (run bs) = omega arith in
          ap (λ k. all_ascii_digits (take k (b ∷ bs))) n ∙ ap (λ t. t && all_ascii_digits (take (run bs) bs)) e
          ∙ run_all bs
      | false ↦ λ e. refl
    ] refl

run_some : (text : List ℕ) → is_ascii_digit (get_or text 0 0) ≡ true → 0 < run text
run_some [] h = cc
run_some (b ∷ bs) h = rw h (omega arith)

pub digits_all : (text : List ℕ) → is_ascii_digit (get_or text 0 0) ≡ true
    → all_ascii_digits (take (run text) text) ≡ true
digits_all text h = run_all text

pub digits_cut : (text : List ℕ) → IsUtf8 text → is_ascii_digit (get_or text 0 0) ≡ true
    → IsCut text (run text)
digits_cut text u h =
    let some = run_some text h in
    let within = prefix_len-le-length is_ascii_digit text in
    let last = run_digit text (run text - 1) (omega (arith, some)) in
    let back : run text - 1 + 1 ≡ run text = omega (arith, some) in (
      some,
      subst (IsCharBoundary text) back (IsCharBoundary-after_ascii text (run text - 1) u
          (omega (arith, some, within)) (digit_ascii _ last)),
    )

pub number_cuts : (text : List ℕ) (v : ℕ) → IsUtf8 text → is_ascii_digit (get_or text 0 0) ≡ true
    → CutsAt text (number_cut (run text) v)
number_cuts text v u h =
    let cut = digits_cut text u h in
    elim (nat_le v (2 ^ 63)) as (λ t. CutsAt text (if t then front.Lexeme (run text) (token.Number v)
    else front.Wrong 0 fault.NumberLarge)) [ true ↦ cut | false ↦ omega (arith, cut.0, cut.1.0) ]

large : (n v : ℕ) → 2 ^ 63 < v → front.Wrong 0 fault.NumberLarge ≡ number_cut n v
large n v h = grind (arith, nat_tests)

-- the clause of `parse`, where it refuses
pub number_large : {E : Type 0} (ds : List ℕ) (n : ℕ) (e : E) → ParsesUnsigned 64 10 ds (Err e)
    → all_ascii_digits ds ≡ true → 0 < length ds → front.Wrong 0 fault.NumberLarge ≡ number_cut n
    (digits_value 10 ds)
number_large ds n e h p l =
    let no = parse_digits own 64 ds (Err e) h p in
    ⊎_elim (λ low. absurd (no (l, omega (arith, low))))
    (λ high. large n (digits_value 10 ds) (omega (arith, high))) (cases_lt (digits_value 10 ds) (2 ^ 64))
