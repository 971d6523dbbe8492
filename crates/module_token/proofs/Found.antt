-- What is found at the front of a text stands there.
use Rattle.std.proofs.Common.{◌≡◌, ◌≢◌, ℕ, zero, suc, ◌+◌, ◌-◌, ◌<◌, ◌≤◌, ◌^◌, inl, inr, Bool, true, false}
use Rattle.std.proofs.Common.{not, cond, List, [], ◌∷◌, ◌++◌, length, drop, take, get_or, Option, Some, None}
use Rattle.std.proofs.Common.{refl, sym, ap, subst, ◌∙◌, ⊎_elim, arith, append_assoc, length-append}
use Rattle.std.specs.Prelude.{◌==◌, ◌&&◌, ◌||◌, nat_le, nat_lt, if◌then◌else◌, option_map}
use Rattle.std.specs.Char.{is_ascii_digit}
use Rattle.std.specs.List.{flat_map, list_all}
use Rattle.std.specs.Str.{chars, IsUtf8, all_scalars, encode_utf8_all}
use Rattle.std.specs.Str.Parse.{digits_value}
use Rattle.std.proofs.Math.Seq.{drop-append_seam}
use Rattle.std.proofs.lemmas.Bool.{cases_lt}
use Rattle.std.proofs.lemmas.Bool.Decides.{nat_tests}
use Rattle.std.proofs.lemmas.List.{take-append-drop}
use Rattle.std.proofs.lemmas.List.Folds.{length-prefix_len}
use Rattle.std.proofs.lemmas.Str.{chars-nil, chars-encodes, scalars-chars, encodes-append, encodes-chars}
use Rattle.std.proofs.lemmas.Str.{is_utf8-from_IsUtf8, length-encode, encode_ascii}
use Rattle.unicode_ident.specs.Ident.{is_xid_continue}
use lib.Utf8.{encode, scalar}
use Rattle.hh_base.specs.Literal.{escaped, escape_of, next_byte, quoted}
use Rattle.hh_base.specs.Name.{starts_word, is_word}
use Rattle.hh_base.specs.Text.{text_byte, has_text_bytes, IsText}
use Rattle.hh_base.proofs.Quotes.{found-next}
use Rattle.module_token.specs.declared.fault.TokenFaultKind.TheVariants as fault
use Rattle.module_token.specs.declared.front.Front.{Front}
use Rattle.module_token.specs.declared.front.Front.TheVariants as front
use Rattle.module_token.specs.declared.punct.Punct.{Punct}
use Rattle.module_token.specs.declared.token.TokenKind.{TokenKind}
use Rattle.module_token.specs.declared.token.TokenKind.TheVariants as token
use Rattle.module_token.specs.Fault.{IsFault, IsOpen, BeginsNothing}
use Rattle.module_token.specs.Front.{front_of, front_by, word_front, word_cut, word_found, word_len}
use Rattle.module_token.specs.Front.{number_front, quoted_front, quoted_run, run_for, run_on, quote_end}
use Rattle.module_token.specs.Front.{sign_front, long_found, short_found, short_mark, long_mark}
use Rattle.module_token.specs.Front.{comment_found, close_of}
use Rattle.module_token.specs.Gap.{IsGap, is_blank, begins_comment}
use Rattle.hh_base.specs.Keyword.{keyword_of}
use Rattle.module_token.specs.Spelling.{punct_text}
use Rattle.module_token.specs.Token.{IsToken, IsLongestWord, IsLongestNumber, goes_on, begins_digit}
use Rattle.module_token.proofs.Comments.{line, line_all, ClosedBy, close_found}
use Rattle.module_token.proofs.Cuts.{starts_continues}
use Rattle.module_token.proofs.Digits.{run, run_all}
use Rattle.module_token.proofs.Heads.{sign_pair}
use Rattle.hh_base.proofs.Keywords.{spelled_keyword, none_keyword}
use Rattle.module_token.proofs.Marks.{Shape, one, two, shape, long_spelled, short_spelled}
use Rattle.module_token.proofs.Quotes.{Read}
use Rattle.module_token.proofs.Values.{after_ascii, utf8_behind}
use Rattle.module_token.proofs.Basics.{and_true, equal, take_seam}

abbrev pub Fits : List ℕ → Front → Type 0
Fits text front.End = text ≡ []
Fits text (front.Gap n) = (n ≤ length text) × IsGap (take n text) (drop n text)
Fits text (front.Lexeme n what) = (n ≤ length text) × IsToken (take n text) what (drop n text)
Fits text (front.Wrong n kind) = IsFault kind text n

-- a token that is the front of a split text
fits_token : (text word rest : List ℕ) (what : TokenKind) → text ≡ word ++ rest → IsToken word what rest
    → Fits text (front.Lexeme (length word) what)
fits_token text word rest what e h =
    rw e (
      omega (arith, length-append word rest),
      subst
          (λ l. IsToken l what (drop (length word) (word ++ rest))) (sym (take_seam word rest))
          (subst (λ l. IsToken word what l) (sym (drop-append_seam word rest)) h),
    )

fits_gap : (text gap rest : List ℕ) → text ≡ gap ++ rest → IsGap gap rest → Fits text (front.Gap (length gap))
fits_gap text gap rest e h =
    rw e (
      omega (arith, length-append gap rest),
      subst (λ l. IsGap l (drop (length gap) (gap ++ rest)))
          (sym (take_seam gap rest)) (subst (λ l. IsGap gap l) (sym (drop-append_seam gap rest)) h),
    )

-- ---- numbers

run_ends : (text : List ℕ) → begins_digit (drop (run text) text) ≡ false
run_ends [] = refl
run_ends (b ∷ bs) =
    elim (is_ascii_digit b) as (λ t. is_ascii_digit b ≡ t
    → begins_digit (drop (cond t (1 + run bs) 0) (b ∷ bs)) ≡ false) [
      | true ↦ λ e. let n : suc (run bs) ≡ 1 + run bs = omega arith in
          subst (λ k. begins_digit (drop k (b ∷ bs)) ≡ false) n (run_ends bs)
      | false ↦ λ e. e
    ] refl

run_some : (text : List ℕ) → begins_digit text ≡ true → 0 < run text
run_some [] h = absurd (let never : ⊥ = cc in never)
run_some (b ∷ bs) h = rw h (omega arith)

under : (v : ℕ) → nat_le v (2 ^ 63) ≡ true → v ≤ 2 ^ 63
under v h = grind (arith, nat_tests)

over : (v : ℕ) → nat_le v (2 ^ 63) ≡ false → 2 ^ 63 < v
over v h = grind (arith, nat_tests)

number_fits : (text : List ℕ) → begins_digit text ≡ true → Fits text (number_front text)
number_fits text h =
    elim (nat_le value (2 ^ 63)) as (λ t. nat_le value (2 ^ 63) ≡ t
    → Fits text (if t then front.Lexeme (run text) (token.Number value) else front.Wrong 0
    fault.NumberLarge)) [
      | true ↦ λ e. subst (λ n. Fits text (front.Lexeme n (token.Number value))) size
          (fits_token text digits rest (token.Number value) split (longest, under value e))
      | false ↦ λ e. (refl, digits, rest, value, split, longest, over value e)
    ] refl
  where
    digits : List ℕ
    digits = take (run text) text

    rest : List ℕ
    rest = drop (run text) text

    value : ℕ
    value = digits_value 10 (take (run text) text)

    split : text ≡ digits ++ rest
    split = sym (take-append-drop (run text) text)

    size : length digits ≡ run text
    size = length-prefix_len is_ascii_digit text

    longest : IsLongestNumber digits rest value
    longest = record {
      number = record {
        some = omega (arith, run_some text h, size);
        digits =
            run_all text;
        value = refl;
      };
      ends = run_ends text;
    }

-- ---- words

-- the characters that go on a word, and those behind them
pub record Run (cs : List ℕ) : Type 0 where
  pub used : List ℕ
  pub more : List ℕ
  pub split : cs ≡ used ++ more
  pub goes : list_all is_xid_continue used ≡ true
  pub ends : goes_on more ≡ false
  pub size : word_len cs ≡ length (encode_utf8_all used)

letters_of : (cs : List ℕ) → Run cs
letters_of [] = record { used = []; more = []; split = refl; goes = refl; ends = refl; size = refl }
letters_of (c ∷ cs) =
    elim (is_xid_continue c) as (λ t. is_xid_continue c ≡ t → Run (c ∷ cs)) [
      | true ↦ λ e. let r = letters_of cs in
          record {
            used = c ∷ r.used;
            more = r.more;
            split = ap (λ l. c ∷ l) r.split;
            goes = rw e r.goes;
            ends = r.ends;
            size = rw e (omega (
              arith,
              r.size,
              length-encode c,
              length-append (encode c)
                  (encode_utf8_all r.used),
            ));
          }
      | false ↦ λ e. record {
        used = [];
        more = c ∷ cs;
        split = refl;
        goes = refl;
        ends = e;
        size =
            rw e refl;
      }
    ] refl

and_one : (a b : Bool) → ((a && true) && b) ≡ (a && b)
and_one true b = refl
and_one false b = refl

one_more : (x : ℕ) (l : List ℕ) → (all_scalars (x ∷ []) && all_scalars l) ≡ all_scalars (x ∷ l)
one_more x l = and_one (scalar x) (all_scalars l)

scalars_parts : (xs ys : List ℕ) → all_scalars (xs ++ ys) ≡ true → (all_scalars xs ≡ true)
    × (all_scalars ys ≡ true)
scalars_parts [] ys h = (refl, h)
scalars_parts (x ∷ xs) ys h =
    let q = and_true (all_scalars (x ∷ [])) (all_scalars (xs ++ ys)) (one_more x (xs ++ ys) ∙ h) in
    let r = scalars_parts xs ys q.1 in
    (sym (one_more x xs) ∙ rw (q.0, r.0) refl, r.1)

short_le : (n : ℕ) → nat_le n 255 ≡ true → n ≤ 255
short_le n h = grind (arith, nat_tests)

long_le : (n : ℕ) → nat_le n 255 ≡ false → 255 < n
long_le n h = grind (arith, nat_tests)

word_token : (word rest : List ℕ) → IsLongestWord word rest → length word ≤ 255
    → IsToken word (word_found (keyword_of word)) rest
word_token word rest w short =
    elim (keyword_of word) as (λ o. keyword_of word ≡ o → IsToken word (word_found o) rest)
    [ Some k ↦ λ e. (w, spelled_keyword word k e) | None ↦ λ e. (w, short, none_keyword word e) ] refl

-- a text that begins with a word
module _ (word rest text : List ℕ) (split : text ≡ word ++ rest) (longest : IsLongestWord word rest) where
  word_cut_fits : Fits text (word_cut (length word) text)
  word_cut_fits =
      elim (nat_le (length word) 255) as (λ t. nat_le (length word) 255 ≡ t
      → Fits text (if t then front.Lexeme (length word)
      (word_found (keyword_of (take (length word) text))) else front.Wrong 0 fault.NameLong)) [
        | true ↦ λ e. subst (λ l. Fits text (front.Lexeme (length word) (word_found (keyword_of l))))
            (sym front_word) (fits_token text word rest (word_found (keyword_of word)) split
            (word_token word rest longest (short_le (length word) e)))
        | false ↦ λ e. (refl, word, rest, split, longest, long_le (length word) e)
      ] refl
    where
      front_word : take (length word) text ≡ word
      front_word = ap (take (length word)) split ∙ take_seam word rest

word_fits : (text : List ℕ) (c : ℕ) (cs : List ℕ) → IsUtf8 text → chars text ≡ c ∷ cs
    → starts_word c ≡ true → Fits text (word_front text)
word_fits text c cs u e h =
    subst (λ n. Fits text (word_cut n text)) (sym size) (word_cut_fits word rest text split longest)
  where
    r : Run cs
    r = letters_of cs

    word : List ℕ
    word = encode_utf8_all (c ∷ r.used)

    rest : List ℕ
    rest = encode_utf8_all r.more

    whole : chars text ≡ (c ∷ r.used) ++ r.more
    whole = e ∙ ap (λ l. c ∷ l) r.split

    scalars : (all_scalars (c ∷ r.used) ≡ true) × (all_scalars r.more ≡ true)
    scalars = scalars_parts (c ∷ r.used) r.more (ap all_scalars (sym whole) ∙ scalars-chars text u)

    split : text ≡ word ++ rest
    split = sym (encodes-chars text u) ∙ ap encode_utf8_all whole ∙ encodes-append (c ∷ r.used) r.more

    size : word_len (chars text) ≡ length word
    size = ap word_len e ∙ rw (starts_continues c h)
        (omega (arith, r.size, length-encode c, length-append (encode c) (encode_utf8_all r.used)))

    longest : IsLongestWord word rest
    longest =
        record {
          utf8 = is_utf8-from_IsUtf8 word (c ∷ r.used, (scalars.0, refl));
          letters = ap is_word (chars-encodes (c ∷ r.used) scalars.0) ∙ rw (h, r.goes) refl;
          ends = ap goes_on (chars-encodes r.more scalars.1) ∙ r.ends;
        }

-- ---- quoted texts

some_escaped : (b : ℕ) → 1 ≤ length (escaped b)
some_escaped b = grind (arith, nat_tests)

abbrev RunOf : List ℕ → ℕ × List ℕ → Type 0
RunOf bs r = Read bs r.1 r.0 × (next_byte r.1 ≡ None)

no_next : (bs : List ℕ) → length bs ≤ 0 → next_byte bs ≡ None
no_next [] l = refl
no_next (b ∷ bs) l = absurd (let never : ⊥ = omega arith in never)

run_more : (bs rest : List ℕ) (b : ℕ) (r : ℕ × List ℕ) → (bs ≡ escaped b ++ rest) × (text_byte b ≡ true)
    → RunOf rest r → RunOf bs (suc r.0, r.1)
run_more bs rest b r (e, plain) (read, stops) = (
  record {
    value = b ∷ read.value;
    plain = rw plain read.plain;
    split = e ∙ ap (λ l. escaped b ++ l) read.split
        ∙ sym (append_assoc (escaped b) (flat_map escaped read.value) r.1);
    many = ap suc read.many;
  },
  stops,
)

run_reads : (n : ℕ) (bs : List ℕ) → length bs ≤ n → RunOf bs (run_for n bs)
run_reads zero bs l = (record { value = []; plain = refl; split = refl; many = refl }, no_next bs l)
run_reads (suc n) bs l =
    elim (next_byte bs) as (λ o. next_byte bs ≡ o → RunOf bs (run_on (run_for n) bs o)) [
      | Some p ↦ λ e. let f = found-next bs p.1 p.0 e in run_more bs p.1 p.0 (run_for n p.1) f
          (run_reads n p.1 (omega (
            arith,
            l,
            ap length f.0,
            length-append (escaped p.0) p.1,
            some_escaped p.0,
          )))
      | None ↦ λ e. (record { value = []; plain = refl; split = refl; many = refl }, e)
    ] refl

within : (n : ℕ) → nat_le n 4096 ≡ true → n ≤ 4096
within n h = grind (arith, nat_tests)

beyond : (n : ℕ) → nat_le n 4096 ≡ false → 4096 < n
beyond n h = grind (arith, nat_tests)

some_never : {p : ℕ × List ℕ} → Some p ≡ None → ⊥
some_never e = cc

escape_none : (m : ℕ) (bs : List ℕ) → next_byte (92 ∷ m ∷ bs) ≡ None → escape_of m ≡ None
escape_none m bs h =
    elim (escape_of m) as (λ o. option_map {U = ℕ × List ℕ} (λ b. (b, bs)) o ≡ None → o ≡ None)
    [ Some b ↦ λ e. absurd (some_never e) | None ↦ λ e. refl ] h

low_byte : (b : ℕ) (bs : List ℕ) → (b == 34) ≡ false → (b == 92) ≡ false → next_byte (b ∷ bs) ≡ None → b < 32
low_byte b bs p q h = ⊎_elim (λ low. low) (λ high. absurd (let read = next_plain b bs p q high in
    let never : ⊥ = cc in never)) (cases_lt b 32)
  where
    next_plain : (b : ℕ) (bs : List ℕ) → (b == 34) ≡ false → (b == 92) ≡ false → 32 ≤ b
        → next_byte (b ∷ bs) ≡ Some (b, bs)
    next_plain b bs p q h = grind (arith, nat_tests)

is_open : (b : ℕ) (bs : List ℕ) → (b == 34) ≡ false → ((b == 92) && nat_lt 0 (length bs)) ≡ false
    → next_byte (b ∷ bs) ≡ None → IsOpen (b ∷ bs)
is_open b bs p q h =
    elim (b == 92) as (λ t. (b == 92) ≡ t → (t && nat_lt 0 (length bs)) ≡ false → IsOpen (b ∷ bs))
    [ true ↦ λ e k. inr (equal b 92 e, empty bs k) | false ↦ λ e k. inl (low_byte b bs p e h) ] refl q
  where
    empty : (bs : List ℕ) → nat_lt 0 (length bs) ≡ false → bs ≡ []
    empty [] k = refl
    empty (x ∷ xs) k = absurd (let never : ⊥ = grind (arith, nat_tests) in never)

is_escape : (v : List ℕ) (b : ℕ) (bs : List ℕ) → has_text_bytes v ≡ true
    → ((b == 92) && nat_lt 0 (length bs)) ≡ true → next_byte (b ∷ bs) ≡ None
    → IsFault fault.BadEscape (34 ∷ (flat_map escaped v ++ b ∷ bs)) (length (34 ∷ flat_map escaped v))
is_escape v b [] plain q h = absurd (let k = and_true (b == 92) (nat_lt 0 0) q in let never : ⊥ =
    grind (arith, nat_tests) in never)
is_escape v b (m ∷ bs) plain q h =
    let k = and_true (b == 92) (nat_lt 0 (length (m ∷ bs))) q in
    let slash = equal b 92 k.0 in (
      v,
      m,
      bs,
      ap (λ c. 34 ∷ (flat_map escaped v ++ c ∷ m ∷ bs)) slash,
      plain,
      escape_none m bs (ap (λ c. next_byte (c ∷ m ∷ bs)) (sym slash) ∙ h),
      refl,
    )

-- the text behind the opening quote is the run of a value, and what ends it
module _ (v : List ℕ) (plain : has_text_bytes v ≡ true) where
  closed_fits : (rest : List ℕ) → IsUtf8 (34 ∷ (flat_map escaped v ++ 34 ∷ rest)) → (t : Bool)
      → nat_le (length v) 4096 ≡ t
      → Fits (34 ∷ (flat_map escaped v ++ 34 ∷ rest))
      (if t then front.Lexeme (length (34 ∷ flat_map escaped v) + 1) token.Quoted else front.Wrong 0
      fault.TextLong)
  closed_fits rest u true e =
      let text : IsText v = record {
        utf8 = is_utf8-from_IsUtf8 v (utf8_inside u);
        bytes = plain;
        short =
            within (length v) e;
      } in
      subst (λ n. Fits (34 ∷ (flat_map escaped v ++ 34 ∷ rest)) (front.Lexeme n token.Quoted))
      (omega (arith, length-append (flat_map escaped v) (34 ∷ [])))
      (fits_token (34 ∷ (flat_map escaped v ++ 34 ∷ rest)) (quoted v) rest token.Quoted
      (sym (ap (λ l. 34 ∷ l) (append_assoc (flat_map escaped v) (34 ∷ []) rest))) (v, text, refl))
    where
      utf8_inside : IsUtf8 (34 ∷ (flat_map escaped v ++ 34 ∷ rest)) → IsUtf8 v
      utf8_inside u = utf8_behind [] v rest (after_ascii [] (flat_map escaped v ++ 34 ∷ rest) 34
          (omega arith) u)
  closed_fits rest u false e = (
    refl,
    v,
    rest,
    sym
        (ap (λ l. 34 ∷ l) (append_assoc (flat_map escaped v) (34 ∷ []) rest)),
    plain,
    beyond (length v) e,
  )

  end_fits : (rest : List ℕ) → IsUtf8 (34 ∷ (flat_map escaped v ++ rest)) → next_byte rest ≡ None
      → Fits (34 ∷ (flat_map escaped v ++ rest)) (quote_end (length (34 ∷ flat_map escaped v))
      (length v) rest)
  end_fits [] u stops = (refl, v, [], refl, plain, tt)
  end_fits (b ∷ bs) u stops =
      elim (b == 34) as (λ t. (b == 34) ≡ t → Fits (34 ∷ (flat_map escaped v ++ b ∷ bs))
      (if t then (if nat_le (length v) 4096 then front.Lexeme (length (34 ∷ flat_map escaped v) + 1)
      token.Quoted else front.Wrong 0 fault.TextLong) else if (b == 92)
      && nat_lt 0 (length bs) then front.Wrong (length (34 ∷ flat_map escaped v)) fault.BadEscape
      else front.Wrong 0 fault.TextOpen)) [
        | true ↦ λ e. subst (λ c. IsUtf8 (34 ∷ (flat_map escaped v ++ c ∷ bs))
            → Fits (34 ∷ (flat_map escaped v ++ c ∷ bs))
            (if nat_le (length v) 4096 then front.Lexeme (length (34 ∷ flat_map escaped v) + 1)
            token.Quoted else front.Wrong 0 fault.TextLong)) (sym (equal b 34 e))
            (λ w. closed_fits bs w (nat_le (length v) 4096) refl) u
        | false ↦ λ e. elim ((b == 92) && nat_lt 0 (length bs)) as (λ t.
            ((b == 92) && nat_lt 0 (length bs)) ≡ t
            → Fits (34 ∷ (flat_map escaped v ++ b ∷ bs))
            (if t then front.Wrong (length (34 ∷ flat_map escaped v)) fault.BadEscape else front.Wrong 0
            fault.TextOpen)) [
              | true ↦ λ q. is_escape v b bs plain q stops
              | false ↦
                  λ q. (refl, v, b ∷ bs, refl, plain, is_open b bs e q stops)
            ] refl
      ] refl

quoted_fits : (bs : List ℕ) → IsUtf8 (34 ∷ bs) → Fits (34 ∷ bs) (quoted_front (34 ∷ bs))
quoted_fits bs u = by_run (run_for (length bs) bs) (run_reads (length bs) bs (omega arith))
  where
    by_run : (r : ℕ × List ℕ) → RunOf bs r → Fits (34 ∷ bs) (quoted_run (34 ∷ bs) r)
    by_run (n, rest) (read, stops) =
        let fits = end_fits read.value read.plain rest (subst (λ l. IsUtf8 (34 ∷ l)) read.split u) stops in
        let size : length (34 ∷ flat_map escaped read.value) ≡ length (34 ∷ bs) - length rest =
        omega (arith, ap length read.split, length-append (flat_map escaped read.value) rest) in
        subst (λ n. Fits (34 ∷ bs) (quote_end (length (34 ∷ bs) - length rest) n rest)) read.many
        (subst (λ n. Fits (34 ∷ bs) (quote_end n (length read.value) rest)) size
        (subst (λ l. Fits (34 ∷ l) (quote_end (length (34 ∷ flat_map escaped read.value))
        (length read.value) rest)) (sym read.split) fits))

-- ---- marks and comments

line_fits : (bs : List ℕ) → Fits (47 ∷ 47 ∷ bs) (front.Gap (line (47 ∷ 47 ∷ bs)))
line_fits bs =
    let q = line_all bs in
    let split : 47 ∷ 47 ∷ bs ≡ (47 ∷ 47 ∷ take (line bs) bs) ++ drop (line bs) bs =
    ap (λ l. 47 ∷ 47 ∷ l) (sym (take-append-drop (line bs) bs)) in
    subst (λ n. Fits (47 ∷ 47 ∷ bs) (front.Gap n)) (let size = length-prefix_len (λ c. not (c == 10)) bs in
    omega (arith, size)) (fits_gap (47 ∷ 47 ∷ bs) (47 ∷ 47 ∷ take (line bs) bs) (drop (line bs) bs)
    split (inr (inl (take (line bs) bs, refl, q.0, q.1))))

block_fits : (bs : List ℕ) → Fits (47 ∷ 42 ∷ bs) (comment_found (close_of bs))
block_fits bs = by_close (close_of bs) (close_found bs)
  where
    by_close : (o : Option ℕ) → ClosedBy bs o → Fits (47 ∷ 42 ∷ bs) (comment_found o)
    by_close None h = (refl, bs, refl, h)
    by_close (Some n) h =
        let split : 47 ∷ 42 ∷ bs ≡ (47 ∷ 42 ∷ (h.body ++ 42 ∷ 47 ∷ [])) ++ h.rest =
        ap (λ l. 47 ∷ 42 ∷ l) (h.split ∙ sym (append_assoc h.body (42 ∷ 47 ∷ []) h.rest)) in
        subst (λ n. Fits (47 ∷ 42 ∷ bs) (front.Gap n))
        (omega (arith, h.ends, length-append h.body (42 ∷ 47 ∷ [])))
        (fits_gap (47 ∷ 42 ∷ bs) (47 ∷ 42 ∷ (h.body ++ 42 ∷ 47 ∷ [])) h.rest split
        (inr (inr (h.body, refl, h.first))))

-- the first character begins no gap, number, quoted text or word
pub record Plain (text : List ℕ) : Type 0 where
  pub first : ℕ
  pub others : List ℕ
  pub letters : chars text ≡ first ∷ others
  pub no_blank : is_blank first ≡ false
  pub no_digit : is_ascii_digit first ≡ false
  pub no_quote : first ≢ 34
  pub no_word : starts_word first ≡ false

nothing : (text : List ℕ) → Plain text → ((mark : Punct) (more : List ℕ) → text ≢ punct_text mark ++ more)
    → BeginsNothing text
nothing text h lacks = record {
  first = h.first;
  others = h.others;
  letters = h.letters;
  no_blank =
      h.no_blank;
  no_digit = h.no_digit;
  no_quote = h.no_quote;
  no_word = h.no_word;
  no_mark = lacks;
}

most_two : (mark : Punct) → Shape mark → length (punct_text mark) ≤ 2
most_two mark (one b e is sign) = let n : length (punct_text mark) ≡ 1 = ap length e in omega (arith, n)
most_two mark (two b d e is sign) = let n : length (punct_text mark) ≡ 2 = ap length e in omega (arith, n)

heads : {x y : ℕ} {xs ys : List ℕ} → x ∷ xs ≡ y ∷ ys → (x ≡ y) × (xs ≡ ys)
heads e = (ap (λ l. get_or l 0 0) e, ap (drop 1) e)

-- no longer mark where no long mark is found
most_one : (b d : ℕ) (bs more : List ℕ) (mark : Punct) → long_mark b d ≡ None → Shape mark
    → b ∷ d ∷ bs ≡ punct_text mark ++ more → length (punct_text mark) ≤ 1
most_one b d bs more mark e (one x spelled is sign) q = let n : length (punct_text mark) ≡ 1 =
    ap length spelled in omega (arith, n)
most_one b d bs more mark e (two x y spelled is sign) q =
    let whole = heads (q ∙ ap (λ l. l ++ more) spelled) in
    let second = heads whole.1 in
    absurd (let found : long_mark b d ≡ Some mark = ap (λ c. long_mark c d) whole.0
    ∙ ap (long_mark x) second.0 ∙ is in let never : ⊥ = cc in never)

lacks_one : (b : ℕ) (mark : Punct) (more : List ℕ) → short_mark b ≡ None → Shape mark
    → b ∷ [] ≢ punct_text mark ++ more
lacks_one b mark more e (one x spelled is sign) q =
    let whole = heads (q ∙ ap (λ l. l ++ more) spelled) in let found : short_mark b ≡ Some mark =
    ap short_mark whole.0 ∙ is in let never : ⊥ = cc in never
lacks_one b mark more e (two x y spelled is sign) q = let n : 1 ≡ length (x ∷ y ∷ more) =
    ap length (q ∙ ap (λ l. l ++ more) spelled) in let never : ⊥ = omega (arith, n) in never

lacks_two : (b d : ℕ) (bs : List ℕ) (mark : Punct) (more : List ℕ) → long_mark b d ≡ None
    → short_mark b ≡ None → Shape mark → b ∷ d ∷ bs ≢ punct_text mark ++ more
lacks_two b d bs mark more l e (one x spelled is sign) q =
    let whole = heads (q ∙ ap (λ l. l ++ more) spelled) in let found : short_mark b ≡ Some mark =
    ap short_mark whole.0 ∙ is in let never : ⊥ = cc in never
lacks_two b d bs mark more l e (two x y spelled is sign) q =
    let most = most_one b d bs more mark l (two x y spelled is sign) q in
    let n : length (punct_text mark) ≡ 2 = ap length spelled in let never : ⊥ =
    omega (arith, most, n) in never

single_fits : (b : ℕ) → Plain (b ∷ []) → Fits (b ∷ []) (short_found (short_mark b))
single_fits b h = by_mark (short_mark b) refl
  where
    short_one : (other : Punct) (more : List ℕ) → b ∷ [] ≡ punct_text other ++ more
        → length (punct_text other) ≤ 1
    short_one other more q = let n : 1 ≡ length (punct_text other ++ more) = ap length q in
        omega (arith, n, length-append (punct_text other) more)

    alone : (t : Bool) → (t && (false || false)) ≡ false
    alone true = refl
    alone false = refl

    by_mark : (o : Option Punct) → short_mark b ≡ o → Fits (b ∷ []) (short_found o)
    by_mark None e = (refl, nothing (b ∷ []) h (λ mark more. lacks_one b mark more e (shape mark)))
    by_mark (Some mark) e =
        fits_token (b ∷ []) (b ∷ []) [] (token.Punct mark) refl
        (record {
          spelled = sym (short_spelled b mark e);
          longest =
              λ other more q. short_one other more q;
          no_comment = alone (b == 47);
        })

-- the first two bytes begin no comment
abbrev NoComment : ℕ → ℕ → Type 0
NoComment b d = (((b == 47) && (d == 47)) ≡ false) × (((b == 47) && (d == 42)) ≡ false)

joined : (b d : ℕ) (bs : List ℕ) → NoComment b d → begins_comment (b ∷ d ∷ bs) ≡ false
joined b d bs h = join (b == 47) (d == 47) (d == 42) h.0 h.1
  where
    join : (x y z : Bool) → (x && y) ≡ false → (x && z) ≡ false → (x && (y || z)) ≡ false
    join true y z h k = rw (h, k) refl
    join false y z h k = refl

pair_fits : (b d : ℕ) (bs : List ℕ) → Plain (b ∷ d ∷ bs) → NoComment b d
    → Fits (b ∷ d ∷ bs) (long_found b (long_mark b d))
pair_fits b d bs h c = by_long (long_mark b d) refl
  where
    by_short : long_mark b d ≡ None → (o : Option Punct) → short_mark b ≡ o
        → Fits (b ∷ d ∷ bs) (short_found o)
    by_short l None e = (
      refl,
      nothing (b ∷ d ∷ bs) h
          (λ mark more. lacks_two b d bs mark more l e (shape mark)),
    )
    by_short l (Some mark) e =
        fits_token (b ∷ d ∷ bs) (b ∷ []) (d ∷ bs) (token.Punct mark) refl
        (record {
          spelled = sym (short_spelled b mark e);
          longest =
              λ other more q. most_one b d bs more other l (shape other) q;
          no_comment = joined b d bs c;
        })

    by_long : (o : Option Punct) → long_mark b d ≡ o → Fits (b ∷ d ∷ bs) (long_found b o)
    by_long None l = by_short l (short_mark b) refl
    by_long (Some mark) l =
        fits_token (b ∷ d ∷ bs) (b ∷ d ∷ []) bs (token.Punct mark) refl
        (record {
          spelled = sym (long_spelled b d mark l);
          longest = λ other more q. most_two other
              (shape other);
          no_comment = joined b d bs c;
        })

sign_fits : (text : List ℕ) → Plain text → Fits text (sign_front text)
sign_fits [] h = absurd (let none = sym chars-nil ∙ h.letters in let never : ⊥ = cc in never)
sign_fits (b ∷ []) h = single_fits b h
sign_fits (b ∷ d ∷ bs) h =
    subst (Fits (b ∷ d ∷ bs)) (sym (sign_pair b d bs))
    (elim ((b == 47) && (d == 47)) as (λ t. ((b == 47) && (d == 47)) ≡ t
    → Fits (b ∷ d ∷ bs) (if t then front.Gap (line (b ∷ d ∷ bs)) else if (b == 47)
    && (d == 42) then comment_found (close_of bs) else long_found b (long_mark b d))) [
      | true ↦ λ e. let q = and_true (b == 47) (d == 47) e in subst (λ l. Fits l (front.Gap (line l)))
          (sym (ap (λ c. c ∷ d ∷ bs) (equal b 47 q.0) ∙ ap (λ c. 47 ∷ c ∷ bs) (equal d 47 q.1)))
          (line_fits bs)
      | false ↦ λ e. elim ((b == 47) && (d == 42)) as (λ t. ((b == 47) && (d == 42)) ≡ t
          → Fits (b ∷ d ∷ bs) (if t then comment_found (close_of bs) else long_found b (long_mark b d))) [
            | true ↦ λ k. let q = and_true (b == 47) (d == 42) k in
                subst (λ l. Fits l (comment_found (close_of bs)))
                (sym (ap (λ c. c ∷ d ∷ bs) (equal b 47 q.0) ∙ ap (λ c. 47 ∷ c ∷ bs) (equal d 42 q.1)))
                (block_fits bs)
            | false ↦ λ k. pair_fits b d bs h (e, k)
          ] refl
    ] refl)

-- ---- the front

-- a text that begins with an ASCII character
first_byte : (text : List ℕ) (c : ℕ) (cs : List ℕ) → IsUtf8 text → chars text ≡ c ∷ cs → c < 128
    → text ≡ c ∷ encode_utf8_all cs
first_byte text c cs u e low = sym (encodes-chars text u) ∙ ap encode_utf8_all e
    ∙ ap (λ l. l ++ encode_utf8_all cs) (encode_ascii c low)

blank_low : (c : ℕ) → is_blank c ≡ true → c < 128
blank_low c h = grind (arith, nat_tests)

digit_low : (c : ℕ) → is_ascii_digit c ≡ true → c < 128
digit_low c h = grind (arith, nat_tests)

differs : (c : ℕ) → (c == 34) ≡ false → c ≢ 34
differs c h = grind (arith, nat_tests)

module _ (text : List ℕ) (u : IsUtf8 text) (c : ℕ) (cs : List ℕ) (e : chars text ≡ c ∷ cs) where
  blank_fits : is_blank c ≡ true → Fits text (front.Gap 1)
  blank_fits h = fits_gap text (c ∷ []) (encode_utf8_all cs) (first_byte text c cs u e (blank_low c h))
      (inl (c, refl, h))

  digit_fits : is_ascii_digit c ≡ true → Fits text (number_front text)
  digit_fits h = number_fits text (ap begins_digit (first_byte text c cs u e (digit_low c h)) ∙ h)

  quote_fits : (c == 34) ≡ true → Fits text (quoted_front text)
  quote_fits h =
      let is = first_byte text c cs u e (let q = equal c 34 h in omega (arith, q))
      ∙ ap (λ b. b ∷ encode_utf8_all cs) (equal c 34 h) in
      subst (λ l. Fits l (quoted_front l)) (sym is) (quoted_fits (encode_utf8_all cs) (subst IsUtf8 is u))

  by_fits : Fits text (front_by (c ∷ cs) text)
  by_fits =
      elim (is_blank c) as (λ t. is_blank c ≡ t → Fits text
      (if t then front.Gap 1 else if is_ascii_digit c then number_front text else if c == 34
      then quoted_front text else if starts_word c then word_front text else sign_front text)) [
        | true ↦ blank_fits
        | false ↦ λ b. elim (is_ascii_digit c) as (λ t. is_ascii_digit c ≡ t
            → Fits text (if t then number_front text else if c == 34 then quoted_front text
            else if starts_word c then word_front text else sign_front text)) [
              | true ↦ digit_fits
              | false ↦ λ d. elim (c == 34) as (λ t. (c == 34) ≡ t
                  → Fits text (if t then quoted_front text else if starts_word c then word_front text
                  else sign_front text)) [
                    | true ↦ quote_fits
                    | false ↦ λ q. elim (starts_word c) as (λ t. starts_word c ≡ t
                        → Fits text (if t then word_front text else sign_front text)) [
                          | true ↦ word_fits text c cs u e
                          | false ↦ λ w. sign_fits text (record {
                            first = c;
                            others = cs;
                            letters = e;
                            no_blank =
                                b;
                            no_digit = d;
                            no_quote = differs c q;
                            no_word = w;
                          })
                        ] refl
                  ] refl
            ] refl
      ] refl

pub front_fits : (text : List ℕ) → IsUtf8 text → Fits text (front_of text)
unfolding front_of
front_fits text u =
    elim (chars text) as (λ cs. chars text ≡ cs → Fits text (front_by cs text)) [
      | [] ↦ λ e. sym (encodes-chars text u) ∙ ap encode_utf8_all e
      | c ∷ cs ↦
          λ e. by_fits text u c cs e
    ] refl
