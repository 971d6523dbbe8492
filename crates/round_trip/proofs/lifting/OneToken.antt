-- Words of one token are a text of their terminal.
use Rattle.std.proofs.Common.{◌≡◌, ℕ, ◌≤◌, ◌^◌, true, false, Bool, cond, List, [], ◌∷◌, codes, decimal, refl, arith}
use Rattle.std.specs.Str.{bytes_eq}
use Rattle.std.proofs.lemmas.Bool.{le-leb}
use Rattle.hh_base.specs.Keyword.{is_keyword, keyword_text}
use Rattle.hh_base.specs.Literal as literal
use Rattle.hh_base.specs.Text.{IsText}
use Rattle.module_tree.specs.SourceWords.{is_written_name}
use Rattle.grammar.specs.Language as l
use Rattle.module_token.specs.Tokens.{TextToken}
use Rattle.module_token.proofs.Unquoted.{value_of_quoted}
use Rattle.hh_base.specs.declared.keyword.Keyword.{Keyword}
use Rattle.module_token.specs.declared.punct.Punct.{Punct}
use Rattle.module_token.specs.declared.token.TokenKind.{TokenKind}
use Rattle.module_token.specs.declared.token.TokenKind.TheVariants as token
use Rattle.module_token.specs.Spelling.{punct_text}
use Rattle.expression_reader.specs.declared.terminal.Terminal.{Terminal}
use Rattle.expression_reader.specs.declared.terminal.Terminal.TheVariants as t
use Rattle.expression_reader.specs.Cursor.{spelled, value_of}
use Rattle.expression_reader.specs.Terminals.{terminal, is_name, word}
use Rattle.expression_reader.specs.Trees.{TextAt}
use Rattle.round_trip.proofs.Lexemes.{IsLexeme, Spells}
use Rattle.module_reader.specs.Reading.{to_grammar}
use Rattle.expression_reader.specs.Rules as g
use Rattle.expression_reader.specs.Rules.{Lang}
use Rattle.round_trip.proofs.lifting.Lifting.{Lifts, Lifted}
use Rattle.round_trip.proofs.lifting.TokenKinds.{look, only_plain, only_word, only_keyword, only_punct, only_number, only_quoted}

-- the word is a token of this kind alone
abbrev Only : TokenKind → List ℕ → Type 0
Only kind w = (what : TokenKind) → IsLexeme w what → what ≡ kind

-- ---- one token, by what is told of it

-- each token that the word spells is a text of the language
abbrev Spelled : {A : Type 0} → (A → Type 0) → Lang A → List ℕ → Type 0
Spelled {A} P s w = (t : TextToken) → t.text ≡ w → IsLexeme w t.what
    → (a : A) × s a (to_grammar t ∷ []) (0 ∷ []) × P a

module _ {A : Type 0} {P : A → Type 0} (s : Lang A) {w : List ℕ} (f : Spelled P s w) where
  plainly_lifted : (ts : List TextToken) → Spells (w ∷ []) ts → Lifted P s ts
  plainly_lifted [] h = absurd h
  plainly_lifted (t ∷ []) h = let x = f t h.0 h.1 in record {
    tree = x.0;
    marks = 0 ∷ [];
    is_text = x.1;
    few = (omega arith, tt);
    told = x.2;
  }
  plainly_lifted (t ∷ u ∷ ts) h = absurd h.2

  marked_lifted : (ts : List TextToken) → Spells (w ∷ []) ts → Lifted P (l.counted s) ts
  marked_lifted [] h = absurd h
  marked_lifted (t ∷ []) h = let x = f t h.0 h.1 in record {
    tree = x.0;
    marks = 1 ∷ [];
    is_text = (x.1, refl);
    few = (omega arith, tt);
    told = x.2;
  }
  marked_lifted (t ∷ u ∷ ts) h = absurd h.2

  lifts_plainly : Lifts P s (w ∷ [])
  lifts_plainly = record { lift = plainly_lifted }

  lifts_counted : Lifts P (l.counted s) (w ∷ [])
  lifts_counted = record { lift = marked_lifted }

-- ---- terminals

abbrev pub Any : {A : Type 0} → A → Type 0
Any a = Unit {0}

terminal_spelled : (a : Terminal) (kind : TokenKind) (w : List ℕ) → terminal kind w ≡ a → Only kind w
    → Spelled Any (l.token a) w
terminal_spelled a kind w same only t e h =
    (t.place, (to_grammar t, refl, rw (e, only t.what h) same, refl, refl), tt)

pub lifts_keyword : (keyword : Keyword) → Lifts Any (g.keyword keyword) (keyword_text keyword ∷ [])
lifts_keyword keyword = lifts_plainly (g.keyword keyword) (terminal_spelled (t.Keyword keyword)
    (token.Keyword keyword) (keyword_text keyword) refl (only_keyword keyword))

pub lifts_punct : (mark : Punct) → Lifts Any (g.punct mark) (punct_text mark ∷ [])
lifts_punct mark = lifts_plainly (g.punct mark) (terminal_spelled (t.Punct mark) (token.Punct mark)
    (punct_text mark) refl (only_punct mark))

pub lifts_keyword_mark : (keyword : Keyword) → Lifts Any (l.counted_token (t.Keyword keyword))
    (keyword_text keyword ∷ [])
lifts_keyword_mark keyword = lifts_counted (g.keyword keyword)
    (terminal_spelled (t.Keyword keyword) (token.Keyword keyword) (keyword_text keyword) refl
    (only_keyword keyword))

pub lifts_punct_mark : (mark : Punct) → Lifts Any (l.counted_token (t.Punct mark)) (punct_text mark ∷ [])
lifts_punct_mark mark = lifts_counted (g.punct mark) (terminal_spelled (t.Punct mark) (token.Punct mark)
    (punct_text mark) refl (only_punct mark))

-- ---- words that mean something behind `.` or `combine`

lifts_word : (a : Terminal) (w : List ℕ) → word w ≡ a → look w ≡ 3 → is_keyword w ≡ false
    → Lifts Any (l.token a) (w ∷ [])
lifts_word a w same first plain = lifts_plainly (l.token a) (terminal_spelled a token.Word w same
    (λ what e. only_plain w what first plain e))

pub lifts_now : Lifts Any (l.token t.Now) (codes "now" ∷ [])
unfolding word is_keyword
lifts_now = lifts_word t.Now (codes "now") refl refl refl

pub lifts_pre : Lifts Any (l.token t.Pre) (codes "pre" ∷ [])
unfolding word is_keyword
lifts_pre = lifts_word t.Pre (codes "pre") refl refl refl

pub lifts_nowval : Lifts Any (l.token t.NowVal) (codes "nowval" ∷ [])
unfolding word is_keyword
lifts_nowval = lifts_word t.NowVal (codes "nowval") refl refl refl

pub lifts_preval : Lifts Any (l.token t.PreVal) (codes "preval" ∷ [])
unfolding word is_keyword
lifts_preval = lifts_word t.PreVal (codes "preval") refl refl refl

pub lifts_plus : Lifts Any (l.token t.Plus) (codes "plus" ∷ [])
unfolding word is_keyword
lifts_plus = lifts_word t.Plus (codes "plus") refl refl refl

pub lifts_min : Lifts Any (l.token t.Min) (codes "min" ∷ [])
unfolding word is_keyword
lifts_min = lifts_word t.Min (codes "min") refl refl refl

pub lifts_max : Lifts Any (l.token t.Max) (codes "max" ∷ [])
unfolding word is_keyword
lifts_max = lifts_word t.Max (codes "max") refl refl refl

pub lifts_and : Lifts Any (l.token t.And) (codes "and" ∷ [])
unfolding word is_keyword
lifts_and = lifts_word t.And (codes "and") refl refl refl

pub lifts_or : Lifts Any (l.token t.Or) (codes "or" ∷ [])
unfolding word is_keyword
lifts_or = lifts_word t.Or (codes "or") refl refl refl

-- ---- names, quoted texts and numbers

record IsNameKind (a : Terminal) : Type 0 where
  is : is_name a ≡ true

name_kind : (a : Terminal) → is_name a ≡ true → IsNameKind a
name_kind a h = record { is = h }

either_name : (b : Bool) (x y : Terminal) → is_name x ≡ true → IsNameKind y → IsNameKind (cond b x y)
either_name true x y h g = name_kind x h
either_name false x y h g = g

word_kind : (w : List ℕ) → IsNameKind (word w)
unfolding word
word_kind w =
    either_name (bytes_eq w (codes "now")) t.Now _ refl (
    either_name (bytes_eq w (codes "pre")) t.Pre _ refl (
    either_name (bytes_eq w (codes "nowval")) t.NowVal _ refl (
    either_name (bytes_eq w (codes "preval")) t.PreVal _ refl (
    either_name (bytes_eq w (codes "plus")) t.Plus _ refl (
    either_name (bytes_eq w (codes "min")) t.Min _ refl (
    either_name (bytes_eq w (codes "max")) t.Max _ refl (
    either_name (bytes_eq w (codes "and")) t.And _ refl (
    either_name (bytes_eq w (codes "or")) t.Or _ refl (
    name_kind t.Word refl)))))))))

pub word_is_name : (w : List ℕ) → is_name (word w) ≡ true
word_is_name w = (word_kind w).is

name_spelled : (w : List ℕ) → is_written_name w ≡ true → Spelled (λ (n : TextAt). n.1 ≡ w) g.name w
name_spelled w n t e h = (
  (t.place, spelled t.what t.text),
  (
    to_grammar t,
    refl,
    rw (e, only_word w t.what n h)
        (word_is_name w),
    refl,
    refl,
  ),
  rw (e, only_word w t.what n h) refl,
)

pub lifts_name : (w : List ℕ) → is_written_name w ≡ true → Lifts (λ (n : TextAt). n.1 ≡ w) g.name (w ∷ [])
lifts_name w n = lifts_plainly g.name (name_spelled w n)

pub lifts_name_mark : (w : List ℕ) → is_written_name w ≡ true
    → Lifts (λ (n : TextAt). n.1 ≡ w) (l.counted g.name) (w ∷ [])
lifts_name_mark w n = lifts_counted g.name (name_spelled w n)

quoted_spelled : (v : List ℕ) → IsText v → Spelled (λ (n : TextAt). n.1 ≡ v) g.quoted (literal.quoted v)
quoted_spelled v x t e h = (
  (t.place, spelled t.what t.text),
  (to_grammar t, refl, rw (only_quoted v t.what h) refl, refl, refl),
  rw
      (e, only_quoted v t.what h) (value_of_quoted v (literal.quoted v) x refl),
)

pub lifts_quoted : (v : List ℕ) → IsText v → Lifts (λ (n : TextAt). n.1 ≡ v) g.quoted (literal.quoted v ∷ [])
lifts_quoted v x = lifts_plainly g.quoted (quoted_spelled v x)

pub lifts_quoted_mark : (v : List ℕ) → IsText v → Lifts (λ (n : TextAt). n.1 ≡ v) (l.counted g.quoted)
    (literal.quoted v ∷ [])
lifts_quoted_mark v x = lifts_counted g.quoted (quoted_spelled v x)

module _ (least most n : ℕ) (low : least ≤ n) (high : n ≤ most) (small : n ≤ 2 ^ 63) where
  number_spelled : Spelled (λ (z : ℕ × ℕ). z.1 ≡ n) (g.number least most) (decimal n)
  number_spelled t e h =
      let kind = only_number n t.what small h in (
        (t.place, value_of t.what),
        (
          to_grammar t,
          refl,
          rw kind refl,
          rw kind
              (rw (le-leb least n low, le-leb n most high) refl),
          refl,
          refl,
        ),
        rw kind refl,
      )

  pub lifts_number : Lifts (λ (z : ℕ × ℕ). z.1 ≡ n) (g.number least most) (decimal n ∷ [])
  lifts_number = lifts_plainly (g.number least most) number_spelled

  pub lifts_number_mark : Lifts (λ (z : ℕ × ℕ). z.1 ≡ n) (l.counted (g.number least most)) (decimal n ∷ [])
  lifts_number_mark = lifts_counted (g.number least most) number_spelled
