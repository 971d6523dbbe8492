-- Literals, texts and names are read as they are written, and nothing else is.
use Rattle.std.proofs.Common.{◌≡◌, ◌≢◌, ℕ, zero, suc, ◌+◌, ◌<◌, ◌≤◌, ◌^◌, Bool, true, false, List, [], ◌∷◌}
use Rattle.std.proofs.Common.{◌++◌, Option, Some, None}
use Rattle.std.proofs.Common.{refl, sym, ap, ◌∙◌, subst, arith, length, codes, append_assoc, inl, inr}
use Rattle.std.proofs.Common.{⊎_elim, ◌⊎◌}
use Rattle.std.specs.Prelude.{◌&&◌, ◌||◌, ◌==◌, not, if◌then◌else◌, nat_le, nat_lt, decimal, ℤ, pos, negsuc}
use Rattle.std.specs.Prelude.{neg_ℤ}
use Rattle.std.specs.Char.{is_ascii_digit}
use Rattle.std.specs.Fmt.{signed_decimal}
use Rattle.std.specs.List.{flat_map}
use Rattle.std.specs.Str.{all_ascii_digits, bytes_eq, is_utf8, IsAscii, IsUtf8}
use Rattle.std.proofs.lemmas.Str.Ascii.{IsAscii-cons, IsAscii-nil}
use Rattle.std.specs.Str.Parse.{digits_value}
use Rattle.std.proofs.lemmas.Bool.Decides.{nat_tests}
use Rattle.std.proofs.lemmas.Fmt.{decimal_is_IsNumeral, decimal_nonempty, digits_decimal, IsAscii-signed}
use Rattle.std.proofs.lemmas.Str.{IsUtf8-from_ascii, IsUtf8-from_is_utf8, is_utf8-from_IsUtf8}
use Rattle.std.proofs.lemmas.Str.Parse.{IsNumeralModel, numerals_by_value, tells_all_ascii_digits}
use Rattle.hh_base.specs.Bytes.{quote, backslash, line_feed, tab, minus}
use Rattle.hh_base.specs.Literal.{escaped, quoted, printed, IsInteger, IsLiteral}
use Rattle.hh_base.specs.Text.{has_text_bytes, IsText}
use Rattle.hh_base.specs.declared.text.TheConstants.{TEXT_LIMIT}
use Rattle.hh_base.specs.declared.value.Value.{Value}
use Rattle.hh_base.specs.declared.value.Value.TheVariants as value
use Rattle.net_line.specs.Literals.{unescaped_letter, unescaped, behind_first, is_text, text_of}
use Rattle.net_line.specs.Literals.{signed_value, fits_64}
use Rattle.net_line.specs.Literals.{integer_of, as_text_value, as_integer_value, bool_of, starts_number}
use Rattle.net_line.specs.Literals.{spelled, literal_of}
use Rattle.net_line.specs.Formed.{IsLiteralForm}
use Rattle.hh_base.proofs.Integers.{integer-signed_decimal}
use lib.Signed.{mag}
use Rattle.net_line.proofs.Numbers.{same_bytes, are_same}
use Rattle.net_line.proofs.Parts.{DecodesAll}

tested : {A : Type 0} (b : Bool) (a c : A) → (if b then Some a else None) ≡ Some c → (b ≡ true) × (a ≡ c)
tested true a c e = (refl, let same : a ≡ c = cc in same)
tested false a c e = absurd cc

passes : {A : Type 0} (b : Bool) (a : A) → b ≡ true → (if b then Some a else None) ≡ Some a
passes true a e = refl
passes false a e = absurd cc

pub both : (a b : Bool) → (a && b) ≡ true → (a ≡ true) × (b ≡ true)
both true b e = (refl, e)
both false b e = absurd cc

put : (a b : Bool) → a ≡ true → b ≡ true → (a && b) ≡ true
put true b e f = f
put false b e f = absurd cc

pub taken_true : {A : Type 0} (b : Bool) (x y : A) → b ≡ true → (if b then x else y) ≡ x
taken_true true x y e = refl
taken_true false x y e = absurd cc

pub taken_false : {A : Type 0} (b : Bool) (x y : A) → b ≡ false → (if b then x else y) ≡ y
taken_false false x y e = refl
taken_false true x y e = absurd cc

-- ---- texts

is_byte : (b n : ℕ) → (b == n) ≡ true → b ≡ n
is_byte b n e = grind (arith, nat_tests)

one_escaped : (b : ℕ) (q k l t : Bool) (r : ℕ) (rs : List ℕ) → (b == quote) ≡ q → (b == backslash) ≡ k
    → (b == line_feed) ≡ l → (b == tab) ≡ t
    → unescaped ((if q then codes "\\\"" else if k then codes "\\\\" else if l then codes "\\n"
    else if t then codes "\\t" else b ∷ []) ++ (r ∷ rs)) ≡ b ∷ unescaped (r ∷ rs)
one_escaped b true k l t r rs eq ek el et = ap (λ x. x ∷ unescaped (r ∷ rs)) (sym (is_byte b quote eq))
one_escaped b false true l t r rs eq ek el et = ap (λ x. x ∷ unescaped (r ∷ rs)) (sym (is_byte b backslash
    ek))
one_escaped b false false true t r rs eq ek el et = ap (λ x. x ∷ unescaped (r ∷ rs)) (sym (is_byte b
    line_feed el))
one_escaped b false false false true r rs eq ek el et = ap (λ x. x ∷ unescaped (r ∷ rs)) (sym (is_byte b
    tab et))
one_escaped b false false false false r rs eq ek el et =
    taken_false (b == backslash) (unescaped_letter r ∷ unescaped rs) (b ∷ unescaped (r ∷ rs)) ek

after_one : (b : ℕ) (rest : List ℕ) → rest ≢ [] → unescaped (escaped b ++ rest) ≡ b ∷ unescaped rest
after_one b [] some = absurd (some refl)
after_one b (r ∷ rs) some =
    one_escaped b (b == quote) (b == backslash) (b == line_feed) (b == tab) r rs refl refl refl refl

not_empty : (xs : List ℕ) (y : ℕ) → xs ++ y ∷ [] ≡ [] → ⊥
not_empty [] y e = cc
not_empty (x ∷ xs) y e = cc

unescapes : (t : List ℕ) → unescaped (flat_map escaped t ++ quote ∷ []) ≡ t
unescapes [] = refl
unescapes (b ∷ t) =
    ap unescaped (append_assoc (escaped b) (flat_map escaped t) (quote ∷ []))
    ∙ after_one b (flat_map escaped t ++ quote ∷ []) (not_empty (flat_map escaped t) quote)
    ∙ ap (λ x. b ∷ x) (unescapes t)

short_text : (n : ℕ) → n ≤ TEXT_LIMIT → nat_le n TEXT_LIMIT ≡ true
short_text n h = grind (arith, nat_tests)

is_short : (n : ℕ) → nat_le n TEXT_LIMIT ≡ true → n ≤ TEXT_LIMIT
is_short n h = grind (arith, nat_tests)

text_tested : (t : List ℕ) → IsText t → is_text t ≡ true
text_tested t h =
    put (is_utf8 t && has_text_bytes t) (nat_le (length t) TEXT_LIMIT)
    (put (is_utf8 t) (has_text_bytes t) h.utf8 h.bytes) (short_text (length t) h.short)

text_shown : (t : List ℕ) → is_text t ≡ true → IsText t
text_shown t e =
    let p = both (is_utf8 t && has_text_bytes t) (nat_le (length t) TEXT_LIMIT) e in
    let q = both (is_utf8 t) (has_text_bytes t) p.0 in
    record { utf8 = q.0; bytes = q.1; short = is_short (length t) p.1 }

pub texts : DecodesAll text_of quoted IsText
texts = record {
  complete = λ t h.
      let u = behind_first (quoted t) in
      let is : unescaped u ≡ t = unescapes t in
      passes (bytes_eq (quoted (unescaped u)) (quoted t) && is_text (unescaped u)) (unescaped u)
      (put (bytes_eq (quoted (unescaped u)) (quoted t)) (is_text (unescaped u))
      (same_bytes (quoted (unescaped u)) (quoted t) (ap quoted is)) (subst (λ x. is_text x ≡ true) (sym is)
      (text_tested t h)))
      ∙ ap Some is;
  sound = λ w t e.
      let u = unescaped (behind_first w) in
      let p = tested (bytes_eq (quoted u) w && is_text u) u t e in
      let q = both (bytes_eq (quoted u) w) (is_text u) p.0 in
      (sym (are_same (quoted u) w q.0) ∙ ap quoted p.1, subst IsText p.1 (text_shown u q.1));
}

-- ---- integers

pub own : IsNumeralModel (λ ds. all_ascii_digits ds ≡ true) (digits_value 10)
own = numerals_by_value _ tells_all_ascii_digits

no_minus : (b : ℕ) → is_ascii_digit b ≡ true → (b == minus) ≡ false
no_minus b h = grind (arith, nat_tests)

value_of_digits : (ds : List ℕ) → 0 < length ds → all_ascii_digits ds ≡ true → signed_value ds ≡ pos
    (digits_value 10 ds)
value_of_digits [] some h = absurd (let no : ⊥ = omega (arith, some) in no)
value_of_digits (b ∷ ds) some h =
    taken_false (b == minus) (neg_ℤ (pos (digits_value 10 ds))) (pos (digits_value 10 (b ∷ ds)))
    (no_minus b (both (is_ascii_digit b) (all_ascii_digits ds) h).0)

pub below : (n : ℕ) → nat_lt n (2 ^ 63) ≡ true → n < 2 ^ 63
below n e = grind (arith, nat_tests)

value_of_integer : (z : ℤ) → fits_64 z ≡ true → signed_value (signed_decimal z) ≡ z
value_of_integer (pos n) h =
    let l : n < 2 ^ 64 = omega (arith, below n h) in
    value_of_digits (decimal n) (decimal_nonempty n l) (digits_decimal own n l) ∙ ap pos
    (decimal_is_IsNumeral n l).1
value_of_integer (negsuc n) h =
    let l : suc n < 2 ^ 64 = omega (arith, below n h) in
    ap (λ m. neg_ℤ (pos m)) (decimal_is_IsNumeral (suc n) l).1

pub integers : DecodesAll integer_of signed_decimal (λ z. fits_64 z ≡ true)
integers = record {
  complete = λ z h.
      let v = signed_value (signed_decimal z) in
      let is : v ≡ z = value_of_integer z h in
      passes (bytes_eq (signed_decimal v) (signed_decimal z) && fits_64 v) v
      (put (bytes_eq (signed_decimal v) (signed_decimal z)) (fits_64 v)
      (same_bytes (signed_decimal v) (signed_decimal z) (ap signed_decimal is)) (subst (λ x. fits_64 x ≡
      true) (sym is) h))
      ∙ ap Some is;
  sound = λ w z e.
      let v = signed_value w in
      let p = tested (bytes_eq (signed_decimal v) w && fits_64 v) v z e in
      let q = both (bytes_eq (signed_decimal v) w) (fits_64 v) p.0 in (
        sym (are_same (signed_decimal v) w q.0) ∙ ap signed_decimal p.1,
        subst (λ x. fits_64 x ≡ true) p.1
            q.1,
      );
}

-- ---- literals

starts : List ℕ → Bool
starts [] = false
starts (b ∷ bs) = starts_number b

unquoted_start : (b : ℕ) → starts_number b ≡ true → (b == quote) ≡ false
unquoted_start b h = grind (arith, nat_tests)

as_number : (w : List ℕ) → starts w ≡ true → spelled w ≡ as_integer_value (integer_of w)
unfolding starts
as_number [] h = absurd cc
as_number (b ∷ bs) h =
    taken_false (b == quote) (as_text_value (text_of (b ∷ bs)))
    (if starts_number b then as_integer_value (integer_of (b ∷ bs)) else bool_of (b ∷ bs)) (unquoted_start
    b h)
    ∙ taken_true (starts_number b) (as_integer_value (integer_of (b ∷ bs))) (bool_of (b ∷ bs)) h

digit_starts : (b : ℕ) → is_ascii_digit b ≡ true → starts_number b ≡ true
digit_starts b h = grind (arith, nat_tests)

digits_start : (ds : List ℕ) → 0 < length ds → all_ascii_digits ds ≡ true → starts ds ≡ true
unfolding starts
digits_start [] some h = absurd (let no : ⊥ = omega (arith, some) in no)
digits_start (b ∷ ds) some h = digit_starts b (both (is_ascii_digit b) (all_ascii_digits ds) h).0

integer_starts : (z : ℤ) → fits_64 z ≡ true → starts (signed_decimal z) ≡ true
unfolding starts
integer_starts (pos n) h =
    let l : n < 2 ^ 64 = omega (arith, below n h) in
    digits_start (decimal n) (decimal_nonempty n l) (digits_decimal own n l)
integer_starts (negsuc n) h = refl

small_mag : (z : ℤ) → fits_64 z ≡ true → mag z < 2 ^ 63
small_mag (pos n) h = below n h
small_mag (negsuc n) h = below n h

is_spelled : (v : Value) → IsLiteralForm v → spelled (printed v) ≡ Some v
is_spelled value.Unit f = absurd f
is_spelled (value.Int z) f =
    as_number (signed_decimal z) (integer_starts z f) ∙ ap as_integer_value (integers.complete z f)
is_spelled (value.Bool true) f = refl
is_spelled (value.Bool false) f = refl
is_spelled (value.Text t) f = ap as_text_value (texts.complete t f.0)

ascii_utf8 : (bs : List ℕ) → IsAscii bs → is_utf8 bs ≡ true
ascii_utf8 bs h = is_utf8-from_IsUtf8 bs (IsUtf8-from_ascii bs h)

printed_utf8 : (v : Value) → IsLiteralForm v → is_utf8 (printed v) ≡ true
printed_utf8 value.Unit f = absurd f
printed_utf8 (value.Int z) f =
    is_utf8-from_IsUtf8 (signed_decimal z) (IsUtf8-from_ascii (signed_decimal z) (IsAscii-signed z
    (small_mag z f)))
printed_utf8 (value.Bool true) f =
    ascii_utf8 (codes "true") (IsAscii-cons 116 (114 ∷ 117 ∷ 101 ∷ []) (omega arith) (IsAscii-cons 114 (117
    ∷ 101 ∷ [])
    (omega arith) (IsAscii-cons 117 (101 ∷ []) (omega arith) (IsAscii-cons 101 [] (omega arith)
    IsAscii-nil))))
printed_utf8 (value.Bool false) f =
    ascii_utf8 (codes "false") (IsAscii-cons 102 (97 ∷ 108 ∷ 115 ∷ 101 ∷ []) (omega arith)
    (IsAscii-cons 97 (108 ∷ 115 ∷ 101 ∷ []) (omega arith) (IsAscii-cons 108 (115 ∷ 101 ∷ []) (omega arith)
    (IsAscii-cons 115 (101 ∷ []) (omega arith) (IsAscii-cons 101 [] (omega arith) IsAscii-nil)))))
printed_utf8 (value.Text t) f = f.1

text_only : (w : List ℕ) (o : Option (List ℕ)) (v : Value) → is_utf8 w ≡ true → text_of w ≡ o →
    as_text_value o ≡ Some v
    → (w ≡ printed v) × IsLiteralForm v
text_only w None v u is e = absurd cc
text_only w (Some t) v u is e =
    let h = texts.sound w t is in
    let same : value.Text t ≡ v = cc in
    (h.0 ∙ ap printed same, subst IsLiteralForm same (h.1, subst (λ x. is_utf8 x ≡ true) h.0 u))

integer_only : (w : List ℕ) (o : Option ℤ) (v : Value) → integer_of w ≡ o → as_integer_value o ≡ Some v
    → (w ≡ printed v) × IsLiteralForm v
integer_only w None v is e = absurd cc
integer_only w (Some z) v is e =
    let h = integers.sound w z is in
    let same : value.Int z ≡ v = cc in
    (h.0 ∙ ap printed same, subst IsLiteralForm same h.1)

bool_only : (w : List ℕ) (a b : Bool) (v : Value) → bytes_eq w (codes "true") ≡ a → bytes_eq w (codes
    "false") ≡ b
    → ◌≡◌ {A = Option Value} (if a then Some (value.Bool true) else if b then Some (value.Bool false) else
    None) (Some v)
    → (w ≡ printed v) × IsLiteralForm v
bool_only w true b v ha hb e =
    let same : value.Bool true ≡ v = cc in
    (are_same w (codes "true") ha ∙ ap printed same, subst IsLiteralForm same tt)
bool_only w false true v ha hb e =
    let same : value.Bool false ≡ v = cc in
    (are_same w (codes "false") hb ∙ ap printed same, subst IsLiteralForm same tt)
bool_only w false false v ha hb e = absurd cc

by_start : (w : List ℕ) (v : Value) (q n : Bool) → is_utf8 w ≡ true
    → (if q then as_text_value (text_of w) else if n then as_integer_value (integer_of w) else bool_of w) ≡
    Some v
    → (w ≡ printed v) × IsLiteralForm v
by_start w v true n u e = text_only w (text_of w) v u refl e
by_start w v false true u e = integer_only w (integer_of w) v refl e
by_start w v false false u e = bool_only w (bytes_eq w (codes "true")) (bytes_eq w (codes "false")) v refl
    refl e

spelled_only : (w : List ℕ) (v : Value) → is_utf8 w ≡ true → spelled w ≡ Some v → (w ≡ printed v) ×
    IsLiteralForm v
spelled_only [] v u e = absurd cc
spelled_only (b ∷ bs) v u e = by_start (b ∷ bs) v (b == quote) (starts_number b) u e

known_utf8 : (w : List ℕ) (b : Bool) (v : Value) → is_utf8 w ≡ b → (if b then spelled w else None) ≡ Some v
    → (w ≡ printed v) × IsLiteralForm v
known_utf8 w true v u e = spelled_only w v u e
known_utf8 w false v u e = absurd cc

pub literals : DecodesAll literal_of printed IsLiteralForm
literals = record {
  complete = λ v f. taken_true (is_utf8 (printed v)) (spelled (printed v)) None (printed_utf8 v f) ∙
      is_spelled v f;
  sound = λ w v e. known_utf8 w (is_utf8 w) v refl e;
}

-- ---- with what `read_literal` tells

fits_below : (n : ℕ) → n < 2 ^ 63 → nat_lt n (2 ^ 63) ≡ true
fits_below n h = grind (arith, nat_tests)

integer_fits : (w : List ℕ) (z : ℤ) → IsInteger w z → fits_64 z ≡ true
integer_fits w z (inl (m, number, small, is)) = subst (λ y. fits_64 y ≡ true) (sym is) (fits_below m small)
integer_fits w z (inr (ds, zero, text, number, small, is)) = subst (λ y. fits_64 y ≡ true) (sym is) refl
integer_fits w z (inr (ds, suc m, text, number, small, is)) =
    subst (λ y. fits_64 y ≡ true) (sym is) (fits_below m (omega (arith, small)))

form_read : (w : List ℕ) (v : Value) → is_utf8 w ≡ true → IsLiteral w v → v ≢ value.Unit → IsLiteralForm v
form_read w value.Unit u h some = absurd (some refl)
form_read w (value.Int z) u h some = integer_fits w z h
form_read w (value.Bool b) u h some = tt
form_read w (value.Text t) u h some = (h.0, subst (λ x. is_utf8 x ≡ true) h.1 u)

literal_printed : (v : Value) → IsLiteralForm v → IsLiteral (printed v) v
literal_printed value.Unit f = absurd f
literal_printed (value.Int z) f = integer-signed_decimal z (small_mag z f)
literal_printed (value.Bool true) f = refl
literal_printed (value.Bool false) f = refl
literal_printed (value.Text t) f = (f.0, refl)

not_unit : (v : Value) → IsLiteralForm v → v ≢ value.Unit
not_unit value.Unit f e = f
not_unit (value.Int z) f e = cc
not_unit (value.Bool b) f e = cc
not_unit (value.Text t) f e = cc

pub literal_is : (w : List ℕ) (v : Value) → is_utf8 w ≡ true → IsLiteral w v → printed v ≡ w → v ≢ value.Unit
    → literal_of w ≡ Some v
literal_is w v u h same some = ap literal_of (sym same) ∙ literals.complete v (form_read w v u h some)

pub not_literal : (w : List ℕ)
    → ((v : Value) → IsLiteral w v → printed v ≡ w → v ≢ value.Unit → ⊥) → literal_of w ≡ None
not_literal w refused =
    elim (literal_of w) as (λ o. literal_of w ≡ o → o ≡ None) [
      | None ↦ λ _. refl
      | Some v ↦ λ e. let h = literals.sound w v e in
          absurd (refused v (subst (λ x. IsLiteral x v) (sym h.0) (literal_printed v h.1)) (sym h.0)
          (not_unit v h.1))
    ] refl

pub not_utf8_literal : (w : List ℕ) → is_utf8 w ≡ false → literal_of w ≡ None
not_utf8_literal w u = taken_false (is_utf8 w) (spelled w) None u

pub not_utf8 : (bs : List ℕ) → (IsUtf8 bs → ⊥) → is_utf8 bs ≡ false
not_utf8 bs h =
    elim (is_utf8 bs) as (λ b. is_utf8 bs ≡ b
    → b ≡ false) [ true ↦ λ e. absurd (h (IsUtf8-from_is_utf8 bs e)) | false ↦ λ _. refl ] refl

pub utf8_from : (bs : List ℕ) → IsUtf8 bs → is_utf8 bs ≡ true
utf8_from bs h = is_utf8-from_IsUtf8 bs h
