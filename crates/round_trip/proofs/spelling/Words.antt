-- Words that are tokens before any blank, and lists of them.
use Rattle.std.proofs.Common.{◌≡◌, ℕ, ◌≤◌, ◌^◌, Bool, true, List, [], ◌∷◌, ◌++◌, length, map, Option, Some, None, refl}
use Rattle.std.specs.Prelude.{◌&&◌, not, nat_le}
use Rattle.std.specs.Fmt.{decimal}
use Rattle.std.specs.List.{AllByRecursion, list_all}
use Rattle.std.proofs.lemmas.Bool.{leb-true}
use Rattle.hh_base.specs.Keyword.{is_keyword, keyword_text}
use Rattle.hh_base.specs.Literal.{quoted}
use Rattle.hh_base.specs.Text.{IsText}
use Rattle.module_tree.specs.SourceForms as tests
use Rattle.module_tree.specs.SourceWords.{is_written_name, is_written_text}
use Rattle.hh_base.specs.declared.keyword.Keyword.{Keyword}
use Rattle.module_token.specs.declared.punct.Punct.{Punct}
use Rattle.module_token.specs.declared.punct.Punct.TheVariants as p
use Rattle.module_token.specs.declared.token.TokenKind.{TokenKind}
use Rattle.module_token.specs.declared.token.TokenKind.TheVariants as token
use Rattle.module_token.specs.Spelling.{punct_text}
use Rattle.round_trip.proofs.Lexemes.{IsLexeme}
use Rattle.module_printer.specs.ExpressionTokens.{Lexemes, in_parentheses}
use Rattle.module_printer.specs.SourceTokens.{behind, comma_separated, if_there}
use Rattle.round_trip.proofs.spelling.Blanks.{and_true, is_plain, plain_word}

-- a token before any blank
pub record IsSpelt (w : List ℕ) : Type 0 where
  pub of : (what : TokenKind) × IsLexeme w what

-- each of them is
pub record Spelt (ws : List (List ℕ)) : Type 0 where
  pub all : AllByRecursion IsSpelt ws

-- ---- one word

pub name : (w : List ℕ) → is_written_name w ≡ true → IsSpelt w
name w h = record { of = (token.Word, h) }

pub keyword : (k : Keyword) → IsSpelt (keyword_text k)
keyword k = record { of = (token.Keyword k, refl) }

pub mark : (m : Punct) → IsSpelt (punct_text m)
mark m = record { of = (token.Punct m, refl) }

-- of ASCII letters, and no keyword
pub plain : (w : List ℕ) → (is_plain w && nat_le (length w) 255 && not (is_keyword w)) ≡ true → IsSpelt w
plain w h =
    let q = and_true _ _ h in
    let r = and_true _ _ q.0 in
    let is = plain_word w r.0 in
    name w (rw (is.utf8, is.letters, r.1, q.1) refl)

pub number : (n : ℕ) → n ≤ 2 ^ 63 → IsSpelt (decimal n)
number n h = record { of = (token.Number n, (refl, h)) }

pub text : (t : List ℕ) → is_written_text t ≡ true → IsSpelt (quoted t)
text t h =
    let q = and_true _ _ h in
    let r = and_true _ _ q.0 in
    let is : IsText t = record { utf8 = r.0; bytes = r.1; short = leb-true (length t) 4096 q.1 } in
    record { of = (token.Quoted, (t, is, refl)) }

-- ---- lists of words

pub none : Spelt []
none = record { all = tt }

pub more : {w : List ℕ} {ws : List (List ℕ)} → IsSpelt w → Spelt ws → Spelt (w ∷ ws)
more h g = record { all = (h, g.all) }

pub single : {w : List ℕ} → IsSpelt w → Spelt (w ∷ [])
single h = more h none

pub both : {xs ys : List (List ℕ)} → Spelt xs → Spelt ys → Spelt (xs ++ ys)
both {xs} {ys} h g = record { all = after xs h.all }
  where
    after : (xs : List (List ℕ)) → AllByRecursion IsSpelt xs → AllByRecursion IsSpelt (xs ++ ys)
    after [] h = g.all
    after (x ∷ xs) h = (h.0, after xs h.1)

-- with a mark at the end
pub closed : {xs : List (List ℕ)} → Spelt xs → (m : Punct) → Spelt (xs ++ punct_text m ∷ [])
closed h m = both h (single (mark m))

pub enclosed : {xs : List (List ℕ)} → Spelt xs → Spelt (in_parentheses xs)
enclosed h = more (mark p.LeftParen) (closed h p.RightParen)

-- ---- lists of lists of words

behind_each : {A : Type 0} (m : Punct) (words : A → Lexemes) (xs : List A)
    → AllByRecursion (λ a. Spelt (words a)) xs → Spelt (behind (punct_text m) (map words xs))
behind_each m words [] h = none
behind_each m words (a ∷ xs) h = more (mark m) (both h.0 (behind_each m words xs h.1))

pub commas : {A : Type 0} (words : A → Lexemes) (xs : List A) → AllByRecursion (λ a. Spelt (words a)) xs
    → Spelt (comma_separated (map words xs))
commas words [] h = none
commas words (a ∷ xs) h = both h.0 (behind_each p.Comma words xs h.1)

-- ---- tests

pub all_passed : {A : Type 0} (P : A → Type 0) (test : A → Bool) → ((a : A) → test a ≡ true → P a)
    → (xs : List A) → list_all test xs ≡ true → AllByRecursion P xs
all_passed P test f [] h = tt
all_passed P test f (a ∷ xs) h = let q = and_true (test a) (list_all test xs) h in
    (f a q.0, all_passed P test f xs q.1)

pub optional : {A : Type 0} (words : A → Lexemes) (test : A → Bool)
    → ((a : A) → test a ≡ true → Spelt (words a)) → (x : Option A) → tests.if_there test x ≡ true
    → Spelt (if_there words x)
optional words test f None h = none
optional words test f (Some a) h = f a h
