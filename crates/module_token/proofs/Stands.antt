-- What stands at the front of a text is found there.
use Rattle.std.proofs.Common.{◌≡◌, ◌≢◌, ℕ, suc, ◌<◌, ◌≤◌, ◌^◌, inl, inr, Bool, true, false, List, [], ◌∷◌}
use Rattle.std.proofs.Common.{◌++◌, length, take, Some, None, refl, sym, ap, subst, ◌∙◌, ⊎_elim, arith}
use Rattle.std.proofs.Common.{append_assoc, length-append}
use Rattle.std.specs.Prelude.{◌==◌, ◌&&◌, ◌||◌, nat_le, nat_lt}
use Rattle.std.specs.Char.{is_ascii_digit}
use Rattle.std.specs.List.{flat_map, list_all}
use Rattle.std.specs.Str.{chars, all_ascii_digits, encode_utf8_all}
use Rattle.std.specs.Str.Parse.{digits_value}
use Rattle.std.proofs.lemmas.Bool.{cases_eq}
use Rattle.std.proofs.lemmas.Bool.Decides.{nat_tests}
use Rattle.std.proofs.lemmas.Str.{chars-nil, chars-append, encodes-chars, IsUtf8-from_is_utf8, length-encode}
use Rattle.unicode_ident.specs.Ident.{is_xid_continue}
use Rattle.hh_base.specs.Literal.{escaped, escape_of, next_byte, quoted}
use Rattle.hh_base.specs.Name.{starts_word, is_word}
use Rattle.hh_base.specs.Text.{has_text_bytes, IsText}
use lib.Utf8.{encode}
use Rattle.module_token.specs.declared.fault.TokenFaultKind.{TokenFaultKind}
use Rattle.module_token.specs.declared.fault.TokenFaultKind.TheVariants as fault
use Rattle.module_token.specs.declared.front.Front.TheVariants as front
use Rattle.module_token.specs.declared.punct.Punct.{Punct}
use Rattle.module_token.specs.declared.punct.Punct.TheVariants as p
use Rattle.module_token.specs.declared.token.TokenKind.{TokenKind}
use Rattle.module_token.specs.declared.token.TokenKind.TheVariants as token
use Rattle.module_token.specs.Fault.{IsFault, IsOpen, BeginsNothing}
use Rattle.module_token.specs.Front.{front_of, front_by, word_front, word_cut, word_found, word_len}
use Rattle.module_token.specs.Front.{number_cut, quoted_run, quote_end, sign_front, pair_front, long_found}
use Rattle.module_token.specs.Front.{short_found, short_mark, long_mark, comment_found, close_of}
use Rattle.module_token.specs.Gap.{IsGap, has_close, begins_comment}
use Rattle.hh_base.specs.Keyword.{keyword_of}
use Rattle.module_token.specs.Spelling.{punct_text}
use Rattle.module_token.specs.Token.{IsToken, IsLongestWord, IsLongestNumber, IsLongestMark, goes_on}
use Rattle.module_token.specs.Token.{begins_digit}
use Rattle.module_token.proofs.Comments.{line, line_is, close_is, close_lacks}
use Rattle.module_token.proofs.Cuts.{starts_continues}
use Rattle.module_token.proofs.Digits.{run}
use Rattle.module_token.proofs.Fronts.{front_sign}
use Rattle.module_token.proofs.Heads.{blank_front, sign_front_at, digit_front, quote_front, word_by}
use Rattle.module_token.proofs.Heads.{sign_pair}
use Rattle.hh_base.proofs.Keywords.{keyword_found, keyword_none, keyword_short}
use Rattle.module_token.proofs.Marks.{Sign, Shape, one, two, shape, long_spelled, short_spelled}
use Rattle.module_token.proofs.Quotes.{run_stops, value_short}
use Rattle.module_token.proofs.Basics.{and_true, take_seam}

-- ---- gaps

slash : Sign 47
slash = (refl, refl, refl, refl, refl, refl)

line_front : (body rest : List ℕ) → line (body ++ rest) ≡ length body
    → front_of (47 ∷ 47 ∷ (body ++ rest)) ≡ front.Gap (length (47 ∷ 47 ∷ body))
line_front body rest e = sign_front_at 47 (47 ∷ (body ++ rest)) slash ∙ sign_pair 47 47 (body ++ rest)
    ∙ ap front.Gap (omega (arith, e))

comment_front : (text : List ℕ) → front_of (47 ∷ 42 ∷ text) ≡ comment_found (close_of text)
comment_front text = sign_front_at 47 (42 ∷ text) slash ∙ sign_pair 47 42 text

block_front : (body rest : List ℕ) → has_close (body ++ 42 ∷ []) ≡ false
    → front_of (47 ∷ 42 ∷ ((body ++ 42 ∷ 47 ∷ []) ++ rest)) ≡ front.Gap
    (length (47 ∷ 42 ∷ (body ++ 42 ∷ 47 ∷ [])))
block_front body rest h =
    comment_front ((body ++ 42 ∷ 47 ∷ []) ++ rest) ∙ ap (λ l. comment_found (close_of l))
    (append_assoc body (42 ∷ 47 ∷ []) rest) ∙ ap comment_found (close_is body rest h)
    ∙ ap front.Gap (omega (arith, length-append body (42 ∷ 47 ∷ [])))

pub gap_front : (gap rest : List ℕ) → IsGap gap rest → front_of (gap ++ rest) ≡ front.Gap (length gap)
gap_front gap rest (inl (c, e, h)) = rw e (blank_front c rest h)
gap_front gap rest (inr (inl (body, e, all, ends))) = rw e (line_front body rest (line_is body rest all ends))
gap_front gap rest (inr (inr (body, e, h))) = rw e (block_front body rest h)

-- ---- words

len_is : (cs ds : List ℕ) → list_all is_xid_continue cs ≡ true → goes_on ds ≡ false
    → word_len (cs ++ ds) ≡ length (encode_utf8_all cs)
len_is [] [] h e = refl
len_is [] (d ∷ ds) h e = rw e refl
len_is (c ∷ cs) ds h e =
    let q = and_true (is_xid_continue c) (list_all is_xid_continue cs) h in
    rw q.0 (let n = len_is cs ds q.1 e in omega (
      arith,
      n,
      length-encode c,
      length-append (encode c)
          (encode_utf8_all cs),
    ))

word_begins : (cs ds text : List ℕ) → is_word cs ≡ true → goes_on ds ≡ false
    → (front_by (cs ++ ds) text ≡ word_front text) × (word_len (cs ++ ds) ≡ length (encode_utf8_all cs))
word_begins [] ds text h e = cc
word_begins (c ∷ cs) ds text h e =
    let q = and_true (starts_word c) (list_all is_xid_continue cs) h in
    (word_by c (cs ++ ds) text q.0, len_is (c ∷ cs) ds (rw (starts_continues c q.0) q.1) e)

word_cuts : (word rest : List ℕ) → IsLongestWord word rest
    → front_of (word ++ rest) ≡ word_cut (length word) (word ++ rest)
unfolding front_of
word_cuts word rest w =
    let u = IsUtf8-from_is_utf8 word w.utf8 in
    let whole : chars (word ++ rest) ≡ chars word ++ chars rest = chars-append word rest u in
    let q = word_begins (chars word) (chars rest) (word ++ rest) w.letters w.ends in
    let n : word_len (chars (word ++ rest)) ≡ length word = ap word_len whole ∙ q.1
    ∙ ap length (encodes-chars word u) in
    ap (λ cs. front_by cs (word ++ rest)) whole ∙ q.0 ∙ ap (λ n. word_cut n (word ++ rest)) n

short_le : (n : ℕ) → n ≤ 255 → nat_le n 255 ≡ true
short_le n h = grind (arith, nat_tests)

long_le : (n : ℕ) → 255 < n → nat_le n 255 ≡ false
long_le n h = grind (arith, nat_tests)

word_is : (word rest : List ℕ) (what : TokenKind) → IsLongestWord word rest → length word ≤ 255
    → word_found (keyword_of word) ≡ what → front_of (word ++ rest) ≡ front.Lexeme (length word) what
word_is word rest what w short e =
    word_cuts word rest w ∙ rw (short_le (length word) short)
    (ap (λ l. front.Lexeme (length word) (word_found (keyword_of l))) (take_seam word rest)
    ∙ ap (front.Lexeme (length word)) e)

-- ---- numbers

run_is : (ds rest : List ℕ) → all_ascii_digits ds ≡ true → begins_digit rest ≡ false
    → run (ds ++ rest) ≡ length ds
run_is [] [] h e = refl
run_is [] (b ∷ bs) h e = rw e refl
run_is (d ∷ ds) rest h e =
    let q = and_true (is_ascii_digit d) (all_ascii_digits ds) h in
    rw q.0 (let n = run_is ds rest q.1 e in omega (arith, n))

number_cuts : (ds rest : List ℕ) (v : ℕ) → IsLongestNumber ds rest v
    → front_of (ds ++ rest) ≡ number_cut (length ds) v
number_cuts [] rest v w = absurd (let some = w.number.some in let never : ⊥ = omega (arith, some) in never)
number_cuts (d ∷ ds) rest v w =
    let q = and_true (is_ascii_digit d) (all_ascii_digits ds) w.number.digits in
    let n = run_is (d ∷ ds) rest w.number.digits w.ends in
    digit_front d (ds ++ rest) q.0 ∙ ap (λ n. number_cut n (digits_value 10 (take n (d ∷ ds ++ rest)))) n
    ∙ ap (λ l. number_cut (length (d ∷ ds)) (digits_value 10 l)) (take_seam (d ∷ ds) rest)
    ∙ ap (number_cut (length (d ∷ ds))) w.number.value

number_is : (n v : ℕ) → v ≤ 2 ^ 63 → number_cut n v ≡ front.Lexeme n (token.Number v)
number_is n v h = grind (arith, nat_tests)

number_over : (n v : ℕ) → 2 ^ 63 < v → number_cut n v ≡ front.Wrong 0 fault.NumberLarge
number_over n v h = grind (arith, nat_tests)

-- ---- quoted texts

quote_runs : (v rest : List ℕ) → has_text_bytes v ≡ true → next_byte rest ≡ None
    → front_of (34 ∷ (flat_map escaped v ++ rest)) ≡ quote_end (length (34 ∷ flat_map escaped v))
    (length v) rest
quote_runs v rest h e =
    let text = 34 ∷ (flat_map escaped v ++ rest) in
    let split = length-append (flat_map escaped v) rest in
    let runs = run_stops v rest (length (flat_map escaped v ++ rest)) h e
    (omega (arith, value_short v, split)) in
    quote_front (flat_map escaped v ++ rest) ∙ ap (quoted_run (34 ∷ (flat_map escaped v ++ rest))) runs
    ∙ ap (λ n. quote_end n (length v) rest) (omega (arith, split))

quoted_splits : (v rest : List ℕ) → quoted v ++ rest ≡ 34 ∷ (flat_map escaped v ++ 34 ∷ rest)
quoted_splits v rest = ap (λ l. 34 ∷ l) (append_assoc (flat_map escaped v) (34 ∷ []) rest)

quoted_ends : (v rest : List ℕ) → has_text_bytes v ≡ true
    → front_of (quoted v ++ rest) ≡ quote_end (length (34 ∷ flat_map escaped v)) (length v) (34 ∷ rest)
quoted_ends v rest h = ap front_of (quoted_splits v rest) ∙ quote_runs v (34 ∷ rest) h refl

within_le : (n : ℕ) → n ≤ 4096 → nat_le n 4096 ≡ true
within_le n h = grind (arith, nat_tests)

over_le : (n : ℕ) → 4096 < n → nat_le n 4096 ≡ false
over_le n h = grind (arith, nat_tests)

quoted_is : (v rest : List ℕ) → IsText v → front_of (quoted v ++ rest) ≡ front.Lexeme (length (quoted v))
    token.Quoted
quoted_is v rest h = quoted_ends v rest h.bytes ∙ rw (within_le (length v) h.short)
    (ap (λ n. front.Lexeme n token.Quoted) (omega (arith, length-append (flat_map escaped v) (34 ∷ []))))

quoted_long : (v rest : List ℕ) → has_text_bytes v ≡ true → 4096 < length v
    → front_of (quoted v ++ rest) ≡ front.Wrong 0 fault.TextLong
quoted_long v rest h l = quoted_ends v rest h ∙ rw (over_le (length v) l) refl

low_none : (b : ℕ) (bs : List ℕ) → b < 32 → next_byte (b ∷ bs) ≡ None
low_none b bs h = grind (arith, nat_tests)

low_ends : (at n b : ℕ) (bs : List ℕ) → b < 32 → quote_end at n (b ∷ bs) ≡ front.Wrong 0 fault.TextOpen
low_ends at n b bs h = grind (arith, nat_tests)

open_front : (v rest : List ℕ) → has_text_bytes v ≡ true → IsOpen rest
    → front_of (34 ∷ (flat_map escaped v ++ rest)) ≡ front.Wrong 0 fault.TextOpen
open_front v [] h o = quote_runs v [] h refl
open_front v (b ∷ bs) h (inl l) = quote_runs v (b ∷ bs) h (low_none b bs l) ∙ low_ends _ (length v) b bs l
open_front v (b ∷ bs) h (inr (e, is)) = rw (e, is) (quote_runs v (92 ∷ []) h refl)

escape_front : (v rest : List ℕ) (m : ℕ) → has_text_bytes v ≡ true → escape_of m ≡ None
    → front_of (34 ∷ (flat_map escaped v ++ 92 ∷ m ∷ rest)) ≡ front.Wrong
    (length (34 ∷ flat_map escaped v)) fault.BadEscape
escape_front v rest m h e = quote_runs v (92 ∷ m ∷ rest) h (rw e refl) ∙ rw (many (length rest)) refl
  where
    many : (n : ℕ) → nat_lt 0 (suc n) ≡ true
    many n = grind (arith, nat_tests)

-- ---- marks

no_comment_pair : (b d : ℕ) (bs : List ℕ) → begins_comment (b ∷ d ∷ bs) ≡ false
    → pair_front b d (b ∷ d ∷ bs) ≡ long_found b (long_mark b d)
no_comment_pair b d bs h = let q = split (b == 47) (d == 47) (d == 42) h in rw (q.0, q.1) refl
  where
    split : (x y z : Bool) → (x && (y || z)) ≡ false → ((x && y) ≡ false) × ((x && z) ≡ false)
    split true true z h = cc
    split true false z h = (refl, h)
    split false y z h = (refl, refl)

mark_two : (b d : ℕ) (rest : List ℕ) (mark : Punct) → Sign b → long_mark b d ≡ Some mark
    → begins_comment (b ∷ d ∷ rest) ≡ false → front_of (b ∷ d ∷ rest) ≡ front.Lexeme 2 (token.Punct mark)
mark_two b d rest mark sign e c = sign_front_at b (d ∷ rest) sign ∙ sign_pair b d rest
    ∙ no_comment_pair b d rest c ∙ ap (long_found b) e

-- no longer mark begins here
abbrev Shortest : ℕ → List ℕ → Type 0
Shortest b rest = (other : Punct) (more : List ℕ) → b ∷ rest ≡ punct_text other ++ more
    → length (punct_text other) ≤ 1

lacks_long : (b d : ℕ) (rest : List ℕ) → Shortest b (d ∷ rest) → long_mark b d ≡ None
lacks_long b d rest h =
    elim (long_mark b d) as (λ o. long_mark b d ≡ o → o ≡ None) [
      | Some q ↦ λ e. absurd (let spelled = long_spelled b d q e in let two : length (punct_text q) ≡ 2 =
          ap length spelled in let most = h q rest (ap (λ l. l ++ rest) (sym spelled)) in let never : ⊥ =
          omega (arith, two, most) in never)
      | None ↦ λ e. refl
    ] refl

mark_one : (b : ℕ) (rest : List ℕ) (mark : Punct) → Sign b → short_mark b ≡ Some mark → Shortest b rest
    → begins_comment (b ∷ rest) ≡ false → front_of (b ∷ rest) ≡ front.Lexeme 1 (token.Punct mark)
mark_one b [] mark sign e h c = sign_front_at b [] sign ∙ ap short_found e
mark_one b (d ∷ rest) mark sign e h c = sign_front_at b (d ∷ rest) sign ∙ sign_pair b d rest
    ∙ no_comment_pair b d rest c ∙ ap (long_found b) (lacks_long b d rest h) ∙ ap short_found e

mark_is : (text rest : List ℕ) (mark : Punct) → Shape mark → IsLongestMark text rest mark
    → front_of (text ++ rest) ≡ front.Lexeme (length text) (token.Punct mark)
mark_is text rest mark (one b spelled e sign) h =
    let is : text ≡ b ∷ [] = h.spelled ∙ spelled in
    rw is (mark_one b rest mark sign e (λ other more q. subst (λ l. length (punct_text other) ≤ length l)
    is (h.longest other more (ap (λ l. l ++ rest) is ∙ q)))
    (ap (λ l. begins_comment (l ++ rest)) (sym is) ∙ h.no_comment))
mark_is text rest mark (two b d spelled e sign) h =
    let is : text ≡ b ∷ d ∷ [] = h.spelled ∙ spelled in
    rw is (mark_two b d rest mark sign e (ap (λ l. begins_comment (l ++ rest)) (sym is) ∙ h.no_comment))

-- ---- all tokens, and all faults

pub token_front : (text : List ℕ) (what : TokenKind) (rest : List ℕ) → IsToken text what rest
    → front_of (text ++ rest) ≡ front.Lexeme (length text) what
token_front text token.Word rest (w, short, plain) = word_is text rest token.Word w short
    (ap word_found (keyword_none text plain))
token_front text (token.Keyword keyword) rest (w, spelled) = word_is text rest (token.Keyword keyword) w
    (rw spelled (keyword_short keyword)) (ap word_found (keyword_found text keyword spelled))
token_front text (token.Number v) rest (w, small) = number_cuts text rest v w
    ∙ number_is (length text) v small
token_front text token.Quoted rest (v, h, spelled) = rw spelled (quoted_is v rest h)
token_front text (token.Punct mark) rest h = mark_is text rest mark (shape mark) h

lacks_short : (b : ℕ) (bs : List ℕ) → ((mark : Punct) (more : List ℕ) → b ∷ bs ≢ punct_text mark ++ more)
    → short_mark b ≡ None
lacks_short b bs h =
    elim (short_mark b) as (λ o. short_mark b ≡ o → o ≡ None) [
      | Some q ↦ λ e. absurd (h q bs (ap (λ l. l ++ bs) (sym (short_spelled b q e))))
      | None ↦
          λ e. refl
    ] refl

lacks_pair : (b d : ℕ) (bs : List ℕ) → ((mark : Punct) (more : List ℕ) → b ∷ d ∷ bs ≢ punct_text mark
    ++ more) → long_mark b d ≡ None
lacks_pair b d bs h =
    elim (long_mark b d) as (λ o. long_mark b d ≡ o → o ≡ None) [
      | Some q ↦ λ e. absurd (h q bs (ap (λ l. l ++ bs) (sym (long_spelled b d q e))))
      | None ↦
          λ e. refl
    ] refl

no_slash : (b : ℕ) (bs : List ℕ) → ((mark : Punct) (more : List ℕ) → b ∷ bs ≢ punct_text mark ++ more)
    → (b == 47) ≡ false
no_slash b bs h = ⊎_elim (λ e. absurd (h p.Slash bs (ap (λ c. c ∷ bs) e))) (differs b) (cases_eq b 47)
  where
    differs : (b : ℕ) → b ≢ 47 → (b == 47) ≡ false
    differs b h = grind (arith, nat_tests)

-- at a text that is not empty and that no mark begins
lacks_marks : (text : List ℕ) → 0 < length text → ((mark : Punct) (more : List ℕ) → text ≢ punct_text mark
    ++ more) → sign_front text ≡ front.Wrong 0 fault.BadChar
lacks_marks [] l h = absurd (let never : ⊥ = omega arith in never)
lacks_marks (b ∷ []) l h = ap short_found (lacks_short b [] h)
lacks_marks (b ∷ d ∷ bs) l h =
    sign_pair b d bs ∙ no_comment_pair b d bs (ap (λ t. t && ((d == 47) || (d == 42)))
    (no_slash b (d ∷ bs) h)) ∙ ap (long_found b) (lacks_pair b d bs h)
    ∙ ap short_found (lacks_short b (d ∷ bs) h)

some_bytes : (text : List ℕ) (c : ℕ) (cs : List ℕ) → chars text ≡ c ∷ cs → 0 < length text
some_bytes [] c cs e = absurd (let none = sym chars-nil ∙ e in let never : ⊥ = cc in never)
some_bytes (b ∷ bs) c cs e = omega arith

nothing_front : (text : List ℕ) → BeginsNothing text → front_of text ≡ front.Wrong 0 fault.BadChar
unfolding front_of
nothing_front text h =
    ap (λ cs. front_by cs text) h.letters ∙ front_sign h.first h.others text h.no_blank h.no_digit
    h.no_quote h.no_word ∙ lacks_marks text (some_bytes text h.first h.others h.letters) h.no_mark

pub fault_front : (kind : TokenFaultKind) (text : List ℕ) (n : ℕ) → IsFault kind text n
    → front_of text ≡ front.Wrong n kind
fault_front fault.BadChar text n (zero_on, h) = rw zero_on (nothing_front text h)
fault_front fault.NameLong text n (zero_on, word, rest, split, w, long) =
    rw (zero_on, split) (word_cuts word rest w ∙ rw (long_le (length word) long) refl)
fault_front fault.NumberLarge text n (zero_on, ds, rest, v, split, w, large) =
    rw (zero_on, split) (number_cuts ds rest v w ∙ number_over (length ds) v large)
fault_front fault.TextLong text n (zero_on, v, rest, split, h, long) =
    rw (zero_on, split) (quoted_long v rest h long)
fault_front fault.TextOpen text n (zero_on, v, rest, split, h, ends) =
    rw (zero_on, split) (open_front v rest h ends)
fault_front fault.BadEscape text n (v, m, rest, split, h, e, on) = rw (on, split) (escape_front v rest m h e)
fault_front fault.CommentOpen text n (zero_on, body, split, h) =
    rw (zero_on, split) (comment_front body ∙ ap comment_found (close_lacks body h))
