-- Words of a signal's line are read as they are written, and nothing else is.
use Rattle.std.proofs.Common.{◌≡◌, ℕ, suc, ◌+◌, ◌<◌, ◌≤◌, ◌^◌, length, append_assoc, arith, Bool, true}
use Rattle.std.proofs.Common.{false, List, [], ◌∷◌, ◌++◌, Option, Some, None}
use Rattle.std.proofs.Common.{refl, sym, ap, ◌∙◌, subst, codes, inl, inr, ⊎_elim, ◌⊎◌}
use Rattle.std.specs.Prelude.{◌&&◌, ◌==◌, not, if◌then◌else◌, decimal, ℤ, pos, negsuc}
use Rattle.std.specs.Char.{is_ascii_digit}
use Rattle.std.specs.Fmt.{signed_decimal}
use Rattle.std.specs.List.{flat_map}
use Rattle.std.specs.Str.{bytes_eq, is_utf8, all_ascii_digits}
use Rattle.std.proofs.lemmas.Bool.Decides.{nat_tests}
use Rattle.std.proofs.lemmas.Fmt.{decimal_nonempty, digits_decimal}
use Rattle.std.proofs.lemmas.List.{length-append}
use Rattle.hh_base.specs.Literal.{escaped, quoted, printed}
use Rattle.hh_base.specs.Text.{IsText}
use Rattle.hh_base.specs.Bytes.{quote, backslash, line_feed, tab}
use Rattle.hh_base.specs.declared.value.Kind.{Kind}
use Rattle.hh_base.specs.declared.value.Kind.TheVariants as kind
use Rattle.hh_base.specs.declared.value.Dir.{Dir}
use Rattle.hh_base.specs.declared.value.Dir.TheVariants as dir
use Rattle.hh_base.specs.declared.value.CombineWord.{CombineWord}
use Rattle.hh_base.specs.declared.value.CombineWord.TheVariants as combine
use Rattle.hh_base.specs.declared.value.Value.{Value}
use Rattle.hh_base.specs.declared.value.Value.TheVariants as value
use Rattle.net_text.specs.Parts.{dir_word, kind_word, combine_word, combine_or_nothing, first_or_nothing}
use Rattle.net_text.specs.Parts.{text_or_nothing}
use Rattle.net_line.specs.Decoding.{dir_of, kind_of, combine_of}
use Rattle.net_line.specs.Literals.{is_dash, first_of, literal_of, handler_of, text_value, fits_64}
use Rattle.net_line.specs.Formed.{IsLiteralForm, IsFirstForm, IsHandlerForm}
use Rattle.net_line.specs.Reading.{plain, quoted_len}
use Rattle.net_line.proofs.Chain.{Anything}
use Rattle.net_line.proofs.Numbers.{same_bytes, are_same}
use Rattle.net_line.proofs.Literals.{literals, texts, own, both, below, taken_false}
use Rattle.net_line.proofs.Gates.{digits_plain, digits_unquoted}
use Rattle.net_line.proofs.Parts.{DecodesAll, is_quoted, IsPart, plain_part, cut_seam}

-- one word of several
pub pick : {A : Type 0} (W : A → List ℕ) (w v : List ℕ) (a b : A) (other : Option A) → W a ≡ v
    → (if bytes_eq w v then Some a else other) ≡ Some b → (w ≡ W b) ⊎ (other ≡ Some b)
pick {A} W w v a b other is e = by_test (bytes_eq w v) refl e
  where
    by_test : (t : Bool) → bytes_eq w v ≡ t → (if t then Some a else other) ≡ Some b → (w ≡ W b) ⊎ (other ≡
        Some b)
    by_test true h e = inl (let same : a ≡ b = cc in are_same w v h ∙ sym is ∙ ap W same)
    by_test false h e = inr e

pub none_left : {A : Type 0} {P : Type 0} (b : A) → ◌≡◌ {A = Option A} None (Some b) → P
none_left b e = absurd cc

pub dirs : DecodesAll dir_of dir_word Anything
dirs = record { complete = read; sound = λ w d e. (only w d e, tt) }
  where
    read : (d : Dir) → Unit {0} → dir_of (dir_word d) ≡ Some d
    read dir.Input f = refl
    read dir.Output f = refl
    read dir.Both f = refl
    read dir.Local f = refl

    only : (w : List ℕ) (d : Dir) → dir_of w ≡ Some d → w ≡ dir_word d
    only w d e =
        ⊎_elim (λ h. h) (λ e. ⊎_elim (λ h. h) (λ e. ⊎_elim (λ h. h) (λ e. ⊎_elim (λ h. h) (λ e. none_left d e)
        (pick dir_word w (codes "local") dir.Local d None refl e))
        (pick dir_word w (codes "inout") dir.Both d _ refl e))
        (pick dir_word w (codes "out") dir.Output d _ refl e))
        (pick dir_word w (codes "in") dir.Input d _ refl e)

pub dir_plain : (d : Dir) → Unit {0} → plain (dir_word d) ≡ true
dir_plain dir.Input f = refl
dir_plain dir.Output f = refl
dir_plain dir.Both f = refl
dir_plain dir.Local f = refl

pub kinds : DecodesAll kind_of kind_word Anything
kinds = record { complete = read; sound = λ w k e. (only w k e, tt) }
  where
    read : (k : Kind) → Unit {0} → kind_of (kind_word k) ≡ Some k
    read kind.Pure f = refl
    read kind.Int f = refl
    read kind.Bool f = refl
    read kind.Text f = refl

    only : (w : List ℕ) (k : Kind) → kind_of w ≡ Some k → w ≡ kind_word k
    only w k e =
        ⊎_elim (λ h. h) (λ e. ⊎_elim (λ h. h) (λ e. ⊎_elim (λ h. h) (λ e. ⊎_elim (λ h. h) (λ e. none_left k e)
        (pick kind_word w (codes "text") kind.Text k None refl e))
        (pick kind_word w (codes "bool") kind.Bool k _ refl e))
        (pick kind_word w (codes "int") kind.Int k _ refl e))
        (pick kind_word w (codes "pure") kind.Pure k _ refl e)

pub kind_part : (k : Kind) → Unit {0} → IsPart (kind_word k)
kind_part kind.Pure f = plain_part (codes "pure") refl refl
kind_part kind.Int f = plain_part (codes "int") refl refl
kind_part kind.Bool f = plain_part (codes "bool") refl refl
kind_part kind.Text f = plain_part (codes "text") refl refl

pub combines : DecodesAll combine_of combine_or_nothing Anything
combines = record { complete = read; sound = λ w k e. (only w k e, tt) }
  where
    read : (k : Option CombineWord) → Unit {0} → combine_of (combine_or_nothing k) ≡ Some k
    read None f = refl
    read (Some combine.Plus) f = refl
    read (Some combine.Min) f = refl
    read (Some combine.Max) f = refl
    read (Some combine.And) f = refl
    read (Some combine.Or) f = refl

    only : (w : List ℕ) (k : Option CombineWord) → combine_of w ≡ Some k → w ≡ combine_or_nothing k
    only w k e =
        ⊎_elim (λ h. h) (λ e. ⊎_elim (λ h. h) (λ e. ⊎_elim (λ h. h) (λ e. ⊎_elim (λ h. h) (λ e. ⊎_elim (λ
        h. h)
        (λ e. ⊎_elim (λ h. h) (λ e. none_left k e)
        (pick combine_or_nothing w (codes "or") (Some combine.Or) k None refl e))
        (pick combine_or_nothing w (codes "and") (Some combine.And) k _ refl e))
        (pick combine_or_nothing w (codes "max") (Some combine.Max) k _ refl e))
        (pick combine_or_nothing w (codes "min") (Some combine.Min) k _ refl e))
        (pick combine_or_nothing w (codes "plus") (Some combine.Plus) k _ refl e))
        (pick combine_or_nothing w (codes "-") None k _ refl e)

pub combine_part : (k : Option CombineWord) → Unit {0} → IsPart (combine_or_nothing k)
combine_part None f = plain_part (codes "-") refl refl
combine_part (Some combine.Plus) f = plain_part (codes "plus") refl refl
combine_part (Some combine.Min) f = plain_part (codes "min") refl refl
combine_part (Some combine.Max) f = plain_part (codes "max") refl refl
combine_part (Some combine.And) f = plain_part (codes "and") refl refl
combine_part (Some combine.Or) f = plain_part (codes "or") refl refl

-- ---- quoted texts as parts

ends_quote : (b : ℕ) (q k l t : Bool) (c : List ℕ) → (b == quote) ≡ q → (b == backslash) ≡ k
    → quoted_len false ((if q then codes "\\\"" else if k then codes "\\\\" else if l then codes "\\n"
    else if t then codes "\\t" else b ∷ []) ++ c)
    ≡ length (if q then codes "\\\"" else if k then codes "\\\\" else if l then codes "\\n"
    else if t then codes "\\t" else b ∷ []) + quoted_len false c
ends_quote b true k l t c eq ek = omega arith
ends_quote b false true l t c eq ek = omega arith
ends_quote b false false true t c eq ek = omega arith
ends_quote b false false false true c eq ek = omega arith
ends_quote b false false false false c eq ek =
    ap (λ n. 1 + n) (taken_false (b == quote) 0 (quoted_len (b == backslash) c) eq
    ∙ ap (λ s. quoted_len s c) ek)

one_len : (b : ℕ) (c : List ℕ) → quoted_len false (escaped b ++ c) ≡ length (escaped b) + quoted_len false c
one_len b c = ends_quote b (b == quote) (b == backslash) (b == line_feed) (b == tab) c refl refl

len_quoted : (t c : List ℕ) → quoted_len false ((flat_map escaped t ++ quote ∷ []) ++ c)
    ≡ length (flat_map escaped t ++ quote ∷ [])
len_quoted [] c = omega arith
len_quoted (b ∷ t) c =
    let rest = flat_map escaped t ++ quote ∷ [] in
    let shape : flat_map escaped (b ∷ t) ++ quote ∷ [] ≡ escaped b ++ rest
    = append_assoc (escaped b) (flat_map escaped t) (quote ∷ []) in
    ap (λ x. quoted_len false (x ++ c)) shape ∙ ap (quoted_len false) (append_assoc (escaped b) rest c)
    ∙ one_len b (rest ++ c) ∙ ap (λ n. length (escaped b) + n) (len_quoted t c)
    ∙ sym (length-append (escaped b) rest) ∙ ap length (sym shape)

pub quoted_part : (t : List ℕ) → IsPart (quoted t)
quoted_part t c e =
    let rest = flat_map escaped t ++ quote ∷ [] in
    let len : 1 + quoted_len false (rest ++ c) ≡ length (quoted t) = omega (arith, len_quoted t c) in
    cut_seam (1 + quoted_len false (rest ++ c)) (quoted t) c len

-- ---- literals as parts

minus_plain : (ds : List ℕ) → plain ds ≡ true → plain (45 ∷ ds) ≡ true
minus_plain ds h = h

integer_part : (z : ℤ) → fits_64 z ≡ true → IsPart (signed_decimal z)
integer_part (pos n) h =
    let ds = digits_decimal own n (omega (arith, below n h)) in
    plain_part (decimal n) (digits_plain (decimal n) ds) (digits_unquoted (decimal n) ds)
integer_part (negsuc n) h =
    let ds = digits_decimal own (suc n) (omega (arith, below n h)) in
    plain_part (45 ∷ decimal (suc n)) (minus_plain (decimal (suc n)) (digits_plain (decimal (suc n)) ds)) refl

pub literal_part : (v : Value) → IsLiteralForm v → IsPart (printed v)
literal_part value.Unit f = absurd f
literal_part (value.Int z) f = integer_part z f
literal_part (value.Bool true) f = plain_part (codes "true") refl refl
literal_part (value.Bool false) f = plain_part (codes "false") refl refl
literal_part (value.Text t) f = quoted_part t

dash_digits : (ds : List ℕ) → 0 < length ds → all_ascii_digits ds ≡ true → is_dash ds ≡ false
dash_digits [] some h = absurd (let no : ⊥ = omega (arith, some) in no)
dash_digits (b ∷ ds) some h =
    elim (is_dash (b ∷ ds)) as (λ t. is_dash (b ∷ ds) ≡ t → t ≡ false) [
      | false ↦ λ _. refl
      | true ↦ λ e. absurd (no_dash_digit b (both (is_ascii_digit b) (all_ascii_digits ds) h).0
          (same_first b 45 ds [] (are_same (b ∷ ds) (codes "-") e)))
    ] refl
  where
    same_first : (a b : ℕ) (xs ys : List ℕ) → a ∷ xs ≡ b ∷ ys → a ≡ b
    same_first a b xs ys e = cc

    no_dash_digit : (b : ℕ) → is_ascii_digit b ≡ true → b ≡ 45 → ⊥
    no_dash_digit b h e = grind (arith, nat_tests)

dash_more : (ds : List ℕ) → 0 < length ds → is_dash (45 ∷ ds) ≡ false
dash_more [] some = absurd (let no : ⊥ = omega (arith, some) in no)
dash_more (b ∷ ds) some = refl

no_dash : (v : Value) → IsLiteralForm v → is_dash (printed v) ≡ false
no_dash value.Unit f = absurd f
no_dash (value.Int (pos n)) f =
    let l : n < 2 ^ 64 = omega (arith, below n f) in
    dash_digits (decimal n) (decimal_nonempty n l) (digits_decimal own n l)
no_dash (value.Int (negsuc n)) f = dash_more (decimal (suc n)) (decimal_nonempty (suc n) (omega (
  arith,
  below n f,
)))
no_dash (value.Bool true) f = refl
no_dash (value.Bool false) f = refl
no_dash (value.Text t) f = refl

as_first : (v : Value) → IsLiteralForm v → printed v ≡ first_or_nothing v
as_first value.Unit f = absurd f
as_first (value.Int z) f = refl
as_first (value.Bool b) f = refl
as_first (value.Text t) f = refl

first_form : (v : Value) → IsLiteralForm v → IsFirstForm v
first_form value.Unit f = absurd f
first_form (value.Int z) f = f
first_form (value.Bool b) f = f
first_form (value.Text t) f = f

first_valued : (v : Value) → IsLiteralForm v → first_of (printed v) ≡ Some v
first_valued v f =
    taken_false (is_dash (printed v)) (Some value.Unit) (literal_of (printed v)) (no_dash v f) ∙
    literals.complete v f

pub firsts : DecodesAll first_of first_or_nothing IsFirstForm
firsts = record { complete = read; sound = λ w v e. only w v (is_dash w) refl e }
  where
    read : (v : Value) → IsFirstForm v → first_of (first_or_nothing v) ≡ Some v
    read value.Unit f = refl
    read (value.Int z) f = first_valued (value.Int z) f
    read (value.Bool b) f = first_valued (value.Bool b) f
    read (value.Text t) f = first_valued (value.Text t) f

    only : (w : List ℕ) (v : Value) (b : Bool) → is_dash w ≡ b → (if b then Some value.Unit else literal_of
        w) ≡ Some v
        → (w ≡ first_or_nothing v) × IsFirstForm v
    only w v true h e =
        let same : value.Unit ≡ v = cc in
        (are_same w (codes "-") h ∙ ap first_or_nothing same, subst IsFirstForm same tt)
    only w v false h e = let k = literals.sound w v e in (k.0 ∙ as_first v k.1, first_form v k.1)

pub first_part : (v : Value) → IsFirstForm v → IsPart (first_or_nothing v)
first_part value.Unit f = plain_part (codes "-") refl refl
first_part (value.Int z) f = literal_part (value.Int z) f
first_part (value.Bool b) f = literal_part (value.Bool b) f
first_part (value.Text t) f = literal_part (value.Text t) f

-- ---- handlers

pub handlers : DecodesAll handler_of text_or_nothing IsHandlerForm
handlers = record { complete = read; sound = λ w o e. only w o (is_dash w) refl e }
  where
    read : (o : Option (List ℕ)) → IsHandlerForm o → handler_of (text_or_nothing o) ≡ Some o
    read None f = refl
    read (Some t) f = ap text_value (literals.complete (value.Text t) f)

    behind : (w : List ℕ) (t : Option Value) (o : Option (List ℕ)) → literal_of w ≡ t → text_value t ≡ Some o
        → (w ≡ text_or_nothing o) × IsHandlerForm o
    behind w None o h e = absurd cc
    behind w (Some value.Unit) o h e = absurd cc
    behind w (Some (value.Int z)) o h e = absurd cc
    behind w (Some (value.Bool b)) o h e = absurd cc
    behind w (Some (value.Text t)) o h e =
        let same : ◌≡◌ {A = Option (List ℕ)} (Some t) o = cc in
        let k = literals.sound w (value.Text t) h in
        (k.0 ∙ ap text_or_nothing same, subst IsHandlerForm same k.1)

    only : (w : List ℕ) (o : Option (List ℕ)) (b : Bool) → is_dash w ≡ b
        → (if b then Some None else text_value (literal_of w)) ≡ Some o → (w ≡ text_or_nothing o) ×
        IsHandlerForm o
    only w o true h e =
        let same : ◌≡◌ {A = Option (List ℕ)} None o = cc in
        (are_same w (codes "-") h ∙ ap text_or_nothing same, subst IsHandlerForm same tt)
    only w o false h e = behind w (literal_of w) o refl e

pub handler_part : (o : Option (List ℕ)) → IsHandlerForm o → IsPart (text_or_nothing o)
handler_part None f = plain_part (codes "-") refl refl
handler_part (Some t) f = quoted_part t
