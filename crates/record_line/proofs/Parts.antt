-- Parts of these lines are read as they are written, and nothing else is.
use Rattle.std.proofs.Common.{◌≡◌, ℕ, ◌≤◌, Bool, true, false, List, [], ◌∷◌, ◌++◌, Option, Some, None, refl}
use Rattle.std.proofs.Common.{sym, ap, ◌∙◌, subst, codes, length, append_assoc, arith, ◌⊎◌, ⊎_elim}
use Rattle.std.specs.Prelude.{if◌then◌else◌, decimal, ◌+◌}
use Rattle.std.specs.List.{flat_map, AllByRecursion}
use Rattle.std.specs.Str.{all_ascii_digits}
use Rattle.hh_base.specs.declared.value.Kind.{Kind}
use Rattle.host_expr.specs.declared.expr.Expr.{Expr}
use Rattle.host_expr.specs.declared.expr.TheConstants.{EXPRESSION_LIMIT}
use Rattle.host_expr.specs.Expression.{expression_of}
use Rattle.host_expr.specs.Measures.{leaves_and_operators}
use Rattle.net_list.specs.Expressions.{only_arithmetic_placed}
use Rattle.net_list.specs.declared.record.Sent.{Sent}
use Rattle.net_list.specs.declared.record.Sent.TheVariants as sent
use Rattle.net_text.specs.ExpressionText.{expression_text}
use Rattle.net_text.specs.Lines.{written, written_if_there, sent_parts, from_version_2}
use Rattle.net_text.specs.Parts.{spaced, number as written_number, kind_part}
use Rattle.net_text.specs.Parts.{counted as written_counted, number_or_nothing}
use Rattle.net_line.specs.Decoding.{number_of, kind_of}
use Rattle.net_line.specs.ExpressionForm.{IsExpressionForm}
use Rattle.net_line.specs.ExpressionReading.{expression}
use Rattle.net_line.specs.Formed.{IsSmall}
use Rattle.net_line.specs.GateReading.{number, first_number}
use Rattle.net_line.specs.Literals.{is_name_part, is_dash}
use Rattle.net_line.specs.Reading.{Reader, Ends, and_then, ◌>>=◌, pure, lift, part, part_as, times, counted}
use Rattle.net_line.specs.Reading.{plain}
use Rattle.net_line.proofs.Chain.{between, same_read, Reads_under, ReadsAll, Anything, in_turn, reads_same}
use Rattle.net_line.proofs.Expressions.{expr_from, read_text, text_read, text_ends}
use Rattle.net_line.proofs.Gates.{reads_number, numbers, decimal_plain, decimal_part, decimal_digits}
use Rattle.net_line.proofs.Gates.{times_read, times_only}
use Rattle.net_line.proofs.Literals.{taken_true, taken_false}
use Rattle.net_line.proofs.Numbers.{are_same}
use Rattle.net_line.proofs.Parts.{IsPart, plain_part, part_only, lifted, DecodesAll, reads_part, reads_word}
use Rattle.net_line.proofs.Placed.{from_placed, is_back}
use Rattle.net_line.proofs.Signals.{part_plain, name_unquoted}
use Rattle.net_line.proofs.Trees.{of_from}
use Rattle.net_line.proofs.Words.{pick, none_left, kinds, kind_part as kind_is_part}
use Rattle.record_line.specs.declared.sent.SentWord.{SentWord}
use Rattle.record_line.specs.declared.sent.SentWord.TheVariants as word
use Rattle.record_line.specs.RecordForm.{version_of, IsLaterForm, IsLineExpression, IsLineExpressionIfThere}
use Rattle.record_line.specs.RecordForm.{IsBodyName, IsSentForm, IsSmallIfThere}
use Rattle.record_line.specs.RecordReading.{later_number, sized_expression, line_expression, has_expression}
use Rattle.record_line.specs.RecordReading.{body_name_of, expression_if, sent_word, sent_behind, sent_row}
use Rattle.record_line.specs.RecordReading.{some_number, number_or_none, expressions}

-- ---- readers in turn

-- of what keeps P, where the first reader reads what keeps Q
pub in_turn_under : {A S : Type 0} {E1 E2 : List ℕ → Type 0} {r1 : Reader A} {W1 : A → List ℕ}
    {F1 Q : A → Type 0} {r2 : A → Reader S} {W2 : S → List ℕ} {F2 P : S → Type 0} (get : S → A)
    → Reads_under E1 r1 W1 F1 Q → ((s : S) → P s → Q (get s))
    → ((s : S) → F2 s → (c : List ℕ) → E2 c → E1 (W2 s ++ c))
    → ((a : A) → Q a → Reads_under E2 (r2 a) W2 F2 (λ s. P s × (get s ≡ a)))
    → Reads_under E2 (r1 >>= r2) (λ s. W1 (get s) ++ W2 s) (λ s. F1 (get s) × F2 s) P
in_turn_under {A} {S} {E1} {E2} {r1} {W1} {F1} {Q} {r2} {W2} {F2} {P} get one keeps follows two = record {
  complete = λ s p f c e.
      ap (λ l. and_then (r1 l) r2) (append_assoc (W1 (get s)) (W2 s) c)
      ∙ ap (λ o. and_then o r2) (one.complete (get s) (keeps s p) f.0 (W2 s ++ c) (follows s f.1 c e))
      ∙ (two (get s) (keeps s p)).complete s (p, refl) f.1 c e;
  sound = λ l s c e.
      let b = between (r1 l) r2 s c e in
      let h = one.sound l b.first b.mid b.read in
      let k = (two b.first h.2).sound b.mid s c b.then_read in
      let is : get s ≡ b.first = k.2.1 in (
        h.0 ∙ ap (λ a. W1 a ++ b.mid) (sym is) ∙ ap (λ m. W1 (get s) ++ m) k.0
            ∙ sym (append_assoc (W1 (get s)) (W2 s) c),
        (subst F1 (sym is) h.1, k.1),
        k.2.0,
      );
}

-- what is read is the one part of what is made
pub wrapped : {A S : Type 0} {E : List ℕ → Type 0} {r : Reader A} {W : A → List ℕ} {F : A → Type 0}
    {V : S → List ℕ} {G P : S → Type 0} (wrap : A → S) → ReadsAll E r W F → ((a : A) → W a ≡ V (wrap a))
    → ((a : A) → F a → G (wrap a)) → ((a : A) → P (wrap a))
    → ((s : S) → P s → G s → (a : A) × (wrap a ≡ s) × F a)
    → Reads_under E (r >>= λ a. pure (wrap a)) V G P
wrapped {A} {S} {E} {r} {W} {F} {V} {G} {P} wrap one same form fits back = record {
  complete = λ s p g c e.
      let b = back s p g in
      ap (λ v. and_then (r (v ++ c)) (λ a. pure (wrap a))) (sym (same b.0 ∙ ap V b.1))
      ∙ ap (λ o. and_then o (λ a. pure (wrap a))) (one.complete b.0 tt b.2 c e)
      ∙ ap (λ x. Some (x, c)) b.1;
  sound = λ l s c e.
      let b = between (r l) (λ a. pure (wrap a)) s c e in
      let h = one.sound l b.first b.mid b.read in
      let k = same_read (wrap b.first) s b.mid c b.then_read in (
        h.0 ∙ (λ i. same b.first i ++ k.1 i) ∙ ap (λ x. V x ++ c) k.0,
        subst G k.0 (form b.first h.1),
        subst P k.0 (fits b.first),
      );
}

pub ends_more : (a b : List ℕ) → Ends a → Ends (a ++ b)
ends_more [] b e = absurd e
ends_more (x ∷ a) b e = e

pub written_ends : (e : Expr ℕ) (rest c : List ℕ) → Ends ((written e ++ rest) ++ c)
written_ends e rest c = ends_more (written e ++ rest) c (text_ends (expression_of e) rest)

-- ---- numbers

pub reads_first : ReadsAll Ends first_number (λ n. decimal n) IsSmall
reads_first = reads_word numbers decimal_plain

pub reads_later : (later : Bool)
    → ReadsAll Ends (later_number later) (λ n. from_version_2 (version_of later) (written_number n))
    (IsLaterForm later)
reads_later true = reads_number
reads_later false = record {
  complete = λ n u f c e. ap (λ m. Some (m, c)) (sym f);
  sound = λ l n c e. let h = same_read {A = ℕ} 0 n l c e in (h.1, sym h.0, tt);
}

pub later_ends : (later : Bool) (n : ℕ) (rest c : List ℕ) → Ends rest
    → Ends ((from_version_2 (version_of later) (written_number n) ++ rest) ++ c)
later_ends true n rest c e = refl
later_ends false n rest c e = ends_more rest c e

-- ---- expressions

abbrev IsSized : ℕ → Expr ℕ → Type 0
IsSized size e =
    (leaves_and_operators (expression_of e) ≤ size) × (only_arithmetic_placed e ≡ true)
    × IsExpressionForm (expression_of e)

reads_sized : (size : ℕ) → ReadsAll Ends (sized_expression size) written (IsSized size)
reads_sized size = record {
  complete = λ e u f c ends.
      ap (λ o. and_then o (λ (p : Expr ℕ × ℕ). pure p.0))
      (read_text (expression_of e) f.2 size size f.0 f.0 c ends)
      ∙ ap (λ x. Some (x, c)) (is_back e f.1);
  sound = λ l e c is.
      let b = between (expression size size l) (λ (p : Expr ℕ × ℕ). pure p.0) e c is in
      let s = text_read size size l b.first.0 b.first.1 b.mid b.read in
      let k = same_read b.first.0 e b.mid c b.then_read in
      let made : expr_from s.tree ≡ e = sym s.is ∙ k.0 in
      let tree : s.tree ≡ expression_of e = sym (of_from s.tree) ∙ ap expression_of made in (
        s.text ∙ (λ i. expression_text (tree i) ++ k.1 i),
        (
          subst (λ x. leaves_and_operators x ≤ size) tree
              (at_most (leaves_and_operators s.tree) b.first.1 size s.counted),
          subst (λ x. only_arithmetic_placed x ≡ true) made (from_placed s.tree),
          subst IsExpressionForm tree s.form,
        ),
        tt,
      );
}
  where
    at_most : (n k size : ℕ) → k + n ≡ size → n ≤ size
    at_most n k size h = omega (arith, h)

pub reads_line_expression : ReadsAll Ends line_expression written IsLineExpression
reads_line_expression = record {
  complete = λ e u f c ends. (reads_sized EXPRESSION_LIMIT).complete e tt
      (f.written.small, f.written.placed, f.form) c ends;
  sound = λ l e c is.
      let k = (reads_sized EXPRESSION_LIMIT).sound l e c is in
      (k.0, record { written = record { small = k.1.0; placed = k.1.1 }; form = k.1.2 }, tt);
}

abbrev pub is_there : Option (Expr ℕ) → Bool
is_there (Some e) = true
is_there None = false

pub reads_expression_if : (there : Bool)
    → Reads_under Ends (expression_if there) written_if_there IsLineExpressionIfThere (λ o. is_there o ≡ there)
reads_expression_if true =
    wrapped {A = Expr ℕ} {S = Option (Expr ℕ)} (λ e. Some e) reads_line_expression
    (λ e. refl) (λ e f. f) (λ e. refl) back
  where
    back : (o : Option (Expr ℕ)) → is_there o ≡ true → IsLineExpressionIfThere o
        → (e : Expr ℕ) × (Some e ≡ o) × IsLineExpression e
    back (Some e) p f = (e, refl, f)
    back None p f = absurd cc
reads_expression_if false = record { complete = none_read; sound = none_only }
  where
    none_read : (o : Option (Expr ℕ)) → is_there o ≡ false → IsLineExpressionIfThere o → (c : List ℕ) → Ends c
        → ◌≡◌ {A = Option (Option (Expr ℕ) × List ℕ)} (Some (None, written_if_there o ++ c)) (Some (o, c))
    none_read None p f c e = refl
    none_read (Some x) p f c e = absurd cc

    none_only : (l : List ℕ) (o : Option (Expr ℕ)) (c : List ℕ)
        → ◌≡◌ {A = Option (Option (Expr ℕ) × List ℕ)} (Some (None, l)) (Some (o, c))
        → (l ≡ written_if_there o ++ c) × IsLineExpressionIfThere o × (is_there o ≡ false)
    none_only l o c e =
        let h = same_read {A = Option (Expr ℕ)} None o l c e in (
          h.1 ∙ ap (λ x. written_if_there x ++ c) h.0,
          subst IsLineExpressionIfThere h.0 tt,
          ap is_there (sym h.0),
        )

pub if_there_ends : (o : Option (Expr ℕ)) (rest c : List ℕ) → Ends rest →
    Ends ((written_if_there o ++ rest) ++ c)
if_there_ends (Some e) rest c h = written_ends e rest c
if_there_ends None rest c h = ends_more rest c h

-- ---- so many

pub reads_counted : {A : Type 0} {r : Reader A} {W : A → List ℕ} {F : A → Type 0} → ReadsAll Ends r W F
    → ((a : A) → F a → (c : List ℕ) → Ends c → Ends (W a ++ c))
    → ReadsAll Ends (counted number r) (written_counted W) (λ xs. IsSmall (length xs) × AllByRecursion F xs)
reads_counted {A} {r} {W} {F} one goes = record {
  complete = λ xs u f c e.
      ap (counted number r) (append_assoc (written_number (length xs)) (flat_map W xs) c)
      ∙ ap (λ o. and_then o (λ n. times n r))
      (reads_number.complete (length xs) tt f.0 (flat_map W xs ++ c) (behind xs f.1 c e))
      ∙ times_read one goes xs f.1 c e;
  sound = λ l xs c e.
      let b = between (number l) (λ n. times n r) xs c e in
      let k = reads_number.sound l b.first b.mid b.read in
      let t = times_only one goes b.first b.mid xs c b.then_read in (
        k.0 ∙ (λ i. written_number (sym t.2 i) ++ t.0 i)
            ∙ sym (append_assoc (written_number (length xs)) (flat_map W xs) c),
        (subst IsSmall (sym t.2) k.1, t.1),
        tt,
      );
}
  where
    behind : (xs : List A) → AllByRecursion F xs → (c : List ℕ) → Ends c → Ends (flat_map W xs ++ c)
    behind [] h c e = e
    behind (x ∷ xs) h c e =
        subst Ends (sym (append_assoc (W x) (flat_map W xs) c))
        (goes x h.0 (flat_map W xs ++ c) (behind xs h.1 c e))

pub reads_kinds : ReadsAll Ends (counted number (part_as kind_of)) (written_counted kind_part)
    (λ ks. IsSmall (length ks) × AllByRecursion Anything ks)
reads_kinds = reads_counted (reads_part kinds kind_is_part) (λ k f c e. refl)

pub any_kinds : (ks : List Kind) → AllByRecursion Anything ks
any_kinds [] = tt
any_kinds (k ∷ ks) = (tt, any_kinds ks)

pub reads_expressions : ReadsAll Ends expressions (written_counted written)
    (λ es. IsSmall (length es) × AllByRecursion IsLineExpression es)
reads_expressions = reads_counted reads_line_expression (λ e f c h. text_ends (expression_of e) c)

-- ---- names of bodies

pub reads_body_name : ReadsAll Ends (part_as body_name_of) spaced IsBodyName
reads_body_name = record {
  complete = λ w u f c e.
      ap (λ o. and_then o (λ w. lift (body_name_of w)))
      (plain_part w f.plain (name_unquoted w f.part) c e)
      ∙ ap (λ o. lift o c) (taken_true (is_name_part w) (Some w) None f.part);
  sound = λ l w c e.
      let b = between (part l) (λ w. lift (body_name_of w)) w c e in
      let h = lifted (body_name_of b.first) b.mid w c b.then_read in
      let k = name_only b.first w (is_name_part b.first) refl h.0 in (
        part_only l b.first b.mid b.read ∙ (λ i. spaced (k.0 i) ++ h.1 i),
        subst IsBodyName k.0
            (record { plain = part_plain l b.first b.mid b.read (name_unquoted b.first k.1); part = k.1 }),
        tt,
      );
}
  where
    name_only : (v w : List ℕ) (t : Bool) → is_name_part v ≡ t
        → ◌≡◌ {A = Option (List ℕ)} (if t then Some v else None) (Some w) → (v ≡ w) × (is_name_part v ≡ true)
    name_only v w true h e = (let same : v ≡ w = cc in same, h)
    name_only v w false h e = absurd cc

-- ---- words

abbrev pub head_word : Bool → List ℕ
head_word true = codes "body"
head_word false = codes "host"

pub heads : DecodesAll has_expression head_word Anything
heads = record { complete = read; sound = λ w b e. (only w b e, tt) }
  where
    read : (b : Bool) → Unit {0} → has_expression (head_word b) ≡ Some b
    read true f = refl
    read false f = refl

    only : (w : List ℕ) (b : Bool) → has_expression w ≡ Some b → w ≡ head_word b
    only w b e =
        ⊎_elim (λ h. h) (λ e. ⊎_elim (λ h. h) (λ e. none_left b e)
        (pick head_word w (codes "host") false b None refl e))
        (pick head_word w (codes "body") true b _ refl e)

pub head_plain : (b : Bool) → Unit {0} → plain (head_word b) ≡ true
head_plain true f = refl
head_plain false f = refl

-- ---- signals or none

numbers_or_none : DecodesAll number_or_none number_or_nothing IsSmallIfThere
numbers_or_none = record { complete = read; sound = λ w o e. only w o (is_dash w) refl e }
  where
    no_dash : (n : ℕ) → IsSmall n → (t : Bool) → is_dash (decimal n) ≡ t → t ≡ false
    no_dash n f false h = refl
    no_dash n f true h =
        let one : all_ascii_digits (codes "-") ≡ true =
        ap all_ascii_digits (sym (are_same (decimal n) (codes "-") h)) ∙ decimal_digits n f in
        absurd cc

    read : (o : Option ℕ) → IsSmallIfThere o → number_or_none (number_or_nothing o) ≡ Some o
    read None f = refl
    read (Some n) f =
        taken_false (is_dash (decimal n)) (Some None) (some_number (number_of (decimal n)))
        (no_dash n f (is_dash (decimal n)) refl)
        ∙ ap some_number (numbers.complete n f)

    some_only : (w : List ℕ) (o : Option ℕ) (k : Option ℕ) → number_of w ≡ k → some_number k ≡ Some o
        → (w ≡ number_or_nothing o) × IsSmallIfThere o
    some_only w o None h e = absurd cc
    some_only w o (Some n) h e =
        let k = numbers.sound w n h in
        let same : ◌≡◌ {A = Option ℕ} (Some n) o = cc in
        (k.0 ∙ ap number_or_nothing same, subst IsSmallIfThere same k.1)

    only : (w : List ℕ) (o : Option ℕ) (t : Bool) → is_dash w ≡ t
        → (if t then Some None else some_number (number_of w)) ≡ Some o
        → (w ≡ number_or_nothing o) × IsSmallIfThere o
    only w o true h e =
        let same : ◌≡◌ {A = Option ℕ} None o = cc in
        (are_same w (codes "-") h ∙ ap number_or_nothing same, subst IsSmallIfThere same tt)
    only w o false h e = some_only w o (number_of w) refl e

or_none_part : (o : Option ℕ) → IsSmallIfThere o → IsPart (number_or_nothing o)
or_none_part None f = plain_part (codes "-") refl refl
or_none_part (Some n) f = decimal_part n f

pub reads_number_or_none : ReadsAll Ends (part_as number_or_none) (λ o. spaced (number_or_nothing o))
    IsSmallIfThere
reads_number_or_none = reads_part numbers_or_none or_none_part

-- ---- what is sent

abbrev word_text : SentWord → List ℕ
word_text word.Nothing = codes "-"
word_text word.Computed = codes "="
word_text word.Answer = codes "ans"

abbrev head_of : Sent → SentWord
head_of sent.Nothing = word.Nothing
head_of (sent.Computed e) = word.Computed
head_of (sent.Answer x) = word.Answer

abbrev tail_of : Sent → List ℕ
tail_of sent.Nothing = []
tail_of (sent.Computed e) = written e
tail_of (sent.Answer x) = written_number x

sent_words : DecodesAll sent_word word_text Anything
sent_words = record { complete = read; sound = λ w k e. (only w k e, tt) }
  where
    read : (k : SentWord) → Unit {0} → sent_word (word_text k) ≡ Some k
    read word.Nothing f = refl
    read word.Computed f = refl
    read word.Answer f = refl

    only : (w : List ℕ) (k : SentWord) → sent_word w ≡ Some k → w ≡ word_text k
    only w k e =
        ⊎_elim (λ h. h) (λ e. ⊎_elim (λ h. h) (λ e. ⊎_elim (λ h. h) (λ e. none_left k e)
        (pick word_text w (codes "ans") word.Answer k None refl e))
        (pick word_text w (codes "=") word.Computed k _ refl e))
        (pick word_text w (codes "-") word.Nothing k _ refl e)

sent_word_part : (k : SentWord) → Unit {0} → IsPart (word_text k)
sent_word_part word.Nothing f = plain_part (codes "-") refl refl
sent_word_part word.Computed f = plain_part (codes "=") refl refl
sent_word_part word.Answer f = plain_part (codes "ans") refl refl

tail_ends : (s : Sent) (c : List ℕ) → Ends c → Ends (tail_of s ++ c)
tail_ends sent.Nothing c e = e
tail_ends (sent.Computed x) c e = text_ends (expression_of x) c
tail_ends (sent.Answer x) c e = refl

reads_nothing : ReadsAll Ends (pure tt) (λ (u : Unit {0}). []) Anything
reads_nothing = record {
  complete = λ u p f c e. refl;
  sound = λ l u c e. let h = same_read {A = Unit {0}} tt u l c e in (h.1, tt, tt);
}

behind_word : (k : SentWord)
    → Reads_under Ends (sent_behind k) tail_of IsSentForm (λ s. Anything s × (head_of s ≡ k))
behind_word word.Nothing =
    wrapped {A = Unit {0}} {S = Sent} (λ u. sent.Nothing) reads_nothing (λ u. refl)
    (λ u f. tt) (λ u. (tt, refl)) back
  where
    back : (s : Sent) → Unit {0} × (head_of s ≡ word.Nothing) → IsSentForm s
        → (u : Unit {0}) × (sent.Nothing ≡ s) × Unit {0}
    back sent.Nothing p f = (tt, refl, tt)
    back (sent.Computed e) p f = let no : word.Computed ≡ word.Nothing = p.1 in absurd cc
    back (sent.Answer x) p f = let no : word.Answer ≡ word.Nothing = p.1 in absurd cc
behind_word word.Computed =
    wrapped {A = Expr ℕ} {S = Sent} (λ e. sent.Computed e) reads_line_expression (λ e. refl) (λ e f. f)
    (λ e. (tt, refl)) back
  where
    back : (s : Sent) → Unit {0} × (head_of s ≡ word.Computed) → IsSentForm s
        → (e : Expr ℕ) × (sent.Computed e ≡ s) × IsLineExpression e
    back sent.Nothing p f = let no : word.Nothing ≡ word.Computed = p.1 in absurd cc
    back (sent.Computed e) p f = (e, refl, f)
    back (sent.Answer x) p f = let no : word.Answer ≡ word.Computed = p.1 in absurd cc
behind_word word.Answer =
    wrapped {A = ℕ} {S = Sent} (λ x. sent.Answer x) reads_number (λ x. refl) (λ x f. f) (λ x. (tt, refl)) back
  where
    back : (s : Sent) → Unit {0} × (head_of s ≡ word.Answer) → IsSentForm s
        → (x : ℕ) × (sent.Answer x ≡ s) × IsSmall x
    back sent.Nothing p f = let no : word.Nothing ≡ word.Answer = p.1 in absurd cc
    back (sent.Computed e) p f = let no : word.Computed ≡ word.Answer = p.1 in absurd cc
    back (sent.Answer x) p f = (x, refl, f)

sent_in_halves : (s : Sent) → spaced (word_text (head_of s)) ++ tail_of s ≡ sent_parts s
sent_in_halves sent.Nothing = refl
sent_in_halves (sent.Computed e) = refl
sent_in_halves (sent.Answer x) = refl

pub reads_sent : ReadsAll Ends sent_row sent_parts IsSentForm
reads_sent =
    reads_same sent_in_halves (λ s f. (tt, f)) (λ s f. f.1)
    (in_turn {A = SentWord} {S = Sent} head_of (reads_part sent_words sent_word_part)
    (λ s f c e. tail_ends s c e)
    behind_word)

pub sent_ends : (s : Sent) (rest c : List ℕ) → Ends ((sent_parts s ++ rest) ++ c)
sent_ends sent.Nothing rest c = refl
sent_ends (sent.Computed e) rest c = refl
sent_ends (sent.Answer x) rest c = refl
