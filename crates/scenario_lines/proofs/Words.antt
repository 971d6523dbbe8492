-- A name has no parenthesis.
use Rattle.std.proofs.Common.{◌≡◌, ◌≢◌, ◌<◌, ◌+◌, ◌++◌, ◌∷◌, [], ℕ, Bool, true, false, List, length, get_or, lit<}
use Rattle.std.proofs.Common.{take, drop, refl, sym, ap, ◌∙◌, arith}
use Rattle.std.specs.Prelude.{◌&&◌, All}
use Rattle.std.specs.List.{list_all}
use Rattle.std.specs.Str.{IsUtf8, chars}
use Rattle.std.proofs.lemmas.Str.{IsCharBoundary-before_ascii, IsUtf8-take, IsUtf8-drop, chars-append}
use Rattle.std.proofs.lemmas.Str.{chars_past_char, encode_ascii}
use Rattle.std.proofs.lemmas.List.{drop_more, get_or_default, take-append-drop}
use Rattle.unicode_ident.specs.Ident.{is_xid_start, is_xid_continue}
use Rattle.ucd_derived.specs.XidStartRanges.{xid_start_ranges}
use Rattle.ucd_derived.specs.XidContinueRanges.{xid_continue_ranges}
use Rattle.ucd_table.specs.Rows.{in_ranges}
use Rattle.hh_base.specs.Name.{starts_word, is_word, IsName}

-- a byte that is no character of a word
record IsBreak (b : ℕ) : Type 0 where
  ascii : b < 128
  starts : starts_word b ≡ false
  continues : is_xid_continue b ≡ false

parenthesis : IsBreak 40
unfolding is_xid_start is_xid_continue in_ranges xid_start_ranges xid_continue_ranges
parenthesis = record { ascii = lit< tt; starts = refl; continues = refl }

both : (a b : Bool) → (a && b) ≡ true → (a ≡ true) × (b ≡ true)
both true b e = (refl, e)
both false b e = absurd cc

-- a break is nowhere in a word
all_but : (b : ℕ) → IsBreak b → (xs ys : List ℕ) → list_all is_xid_continue (xs ++ b ∷ ys) ≡ true → ⊥
all_but b break [] ys e =
    let here = (both (is_xid_continue b) (list_all is_xid_continue ys) e).0 in let no = break.continues in cc
all_but b break (x ∷ xs) ys e =
    all_but b break xs ys (both (is_xid_continue x) (list_all is_xid_continue (xs ++ b ∷ ys)) e).1

word_but : (b : ℕ) → IsBreak b → (xs ys : List ℕ) → is_word (xs ++ b ∷ ys) ≡ true → ⊥
word_but b break [] ys e =
    let here = (both (starts_word b) (list_all is_xid_continue ys) e).0 in let no = break.starts in cc
word_but b break (x ∷ xs) ys e =
    all_but b break xs ys (both (starts_word x) (list_all is_xid_continue (xs ++ b ∷ ys)) e).1

-- a break's byte is nowhere in a name
lacks : (b : ℕ) → IsBreak b → (bs : List ℕ) → IsUtf8 bs → is_word (chars bs) ≡ true → (k d : ℕ)
    → k < length bs → get_or bs k d ≢ b
lacks b break bs utf8 word k d l = λ e.
    let at : get_or bs k 0 ≡ b = get_or_default bs k 0 d l ∙ e in
    let low : get_or bs k 0 < 128 = (let a = break.ascii in omega arith) in
    let boundary = IsCharBoundary-before_ascii bs k l low in
    let rest : drop k bs ≡ b ∷ drop (k + 1) bs = drop_more bs k 0 l ∙ ap (λ c. c ∷ drop (k + 1) bs) at in
    let one = ap (λ cs. cs ++ drop (k + 1) bs) (encode_ascii b break.ascii) in
    let behind = chars_past_char (drop k bs) (drop (k + 1) bs) b (IsUtf8-drop bs k utf8 boundary) (rest ∙
    sym one) in
    let parts = ap chars (sym (take-append-drop k bs))
    ∙ chars-append (take k bs) (drop k bs) (IsUtf8-take bs k utf8 boundary)
    ∙ ap (λ cs. chars (take k bs) ++ cs) behind in
    word_but b break (chars (take k bs)) (chars (drop (k + 1) bs)) (sym (ap is_word parts) ∙ word)

pub word_from_name : (bs : List ℕ) → IsUtf8 bs → IsName bs → All (λ b. b ≢ 40) bs
word_from_name bs utf8 name = λ k d l. lacks 40 parenthesis bs utf8 name.word k d l
