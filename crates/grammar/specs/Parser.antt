-- Reading by recursive descent: a reader takes tokens off the front of its input, or refuses it. This
-- project's own.
use Rattle.std.specs.Prelude.{◌≡◌, ℕ, zero, suc, ◌+◌, Bool, if◌then◌else◌, nat_lt, is_none, List, [], ◌∷◌}
use Rattle.std.specs.Prelude.{length, Option, Some, None, Result, Ok, Err}
use Rattle.grammar.specs.Tokens.{Tok, Alphabet, is, kind_of, place_of, passes, in_range}
use Rattle.grammar.specs.Fault.{Fault, Unexpected, EndOfText, Deep, Large, Refusal}

-- What is still to be read, how many leaves and operators of the outermost expression were read, and the
-- size of the whole text.
pub record Unread (K : Type 0) : Type 0 where
  pub rest : List (Tok K)
  pub count : ℕ
  pub size : ℕ

abbrev pub Parsed : Type 0 → Type 0 → Type 0
Parsed K A = Result (A × Unread K) Refusal

abbrev pub Parser : Type 0 → Type 0 → Type 0
Parser K A = Unread K → Parsed K A

-- a reader at the beginning of a text
abbrev pub start : {K : Type 0} → List (Tok K) → ℕ → Unread K
start ts size = record { rest = ts; count = 0; size = size }

abbrev pub and_then : {K A B : Type 0} → Parsed K A → (A → Parser K B) → Parsed K B
and_then (Ok p) f = f p.0 p.1
and_then (Err e) f = Err e

-- one after the other
infixl 10 ◌>>=◌
abbrev pub ◌>>=◌ : {K A B : Type 0} → Parser K A → (A → Parser K B) → Parser K B
p >>= f = λ i. and_then (p i) f

infixl 10 ◌>>◌
abbrev pub ◌>>◌ : {K A B : Type 0} → Parser K A → Parser K B → Parser K B
p >> q = p >>= (λ _. q)

-- takes nothing
abbrev pub pure : {K A : Type 0} → A → Parser K A
pure a = λ i. Ok (a, i)

-- ---- the next token

abbrev pub text_of : {K : Type 0} → List (Tok K) → List ℕ
text_of [] = []
text_of (t ∷ ts) = t.text

abbrev pub value_of : {K : Type 0} → List (Tok K) → ℕ
value_of [] = 0
value_of (t ∷ ts) = t.value

abbrev pub tail_of : {K : Type 0} → List (Tok K) → List (Tok K)
tail_of [] = []
tail_of (t ∷ ts) = ts

unfoldable pub kind : {K : Type 0} → Unread K → Option K
kind i = kind_of i.rest

unfoldable pub place : {K : Type 0} → Unread K → ℕ
place i = place_of i.size i.rest

unfoldable pub text : {K : Type 0} → Unread K → List ℕ
text i = text_of i.rest

unfoldable pub value : {K : Type 0} → Unread K → ℕ
value i = value_of i.rest

-- the input behind the next token
unfoldable pub next : {K : Type 0} → Unread K → Unread K
next i = record i { rest = tail_of i.rest }

-- the next token has a kind of the set
unfoldable pub sees : {K : Type 0} → (K → Bool) → Unread K → Bool
sees test i = passes test (kind i)

-- ---- refusals

abbrev pub why : {K : Type 0} → Option K → Fault
why None = EndOfText
why (Some a) = Unexpected

-- the refusal of the next token, or of the end
unfoldable pub refusal : {K : Type 0} → Unread K → Refusal
refusal i = record { place = place i; fault = why (kind i) }

abbrev pub refuse : {K A : Type 0} → Parser K A
refuse = λ i. Err (refusal i)

unfoldable pub fail : {K A : Type 0} → Fault → Parser K A
fail f = λ i. Err (record { place = place i; fault = f })

-- ---- one token

-- whatever it is
unfoldable pub skipped : {K : Type 0} → Parser K (Unit {0})
skipped = λ i. Ok (tt, next i)

-- a token of a kind of the set, and what is made of its place, text and value
unfoldable pub one : {K A : Type 0} → (K → Bool) → (ℕ → List ℕ → ℕ → A) → Parser K A
one test make = λ i. if sees test i then Ok (make (place i) (text i) (value i), next i) else refuse i

-- a token of this kind, which gives its place
unfoldable pub take : {K : Type 0} → Alphabet K → K → Parser K ℕ
take al a = λ i. if sees (is al a) i then Ok (place i, next i) else refuse i

-- a token that may be a name, which gives its place and its text
unfoldable pub name : {K : Type 0} → (K → Bool) → Parser K (ℕ × List ℕ)
name test = λ i. if sees test i then Ok ((place i, text i), next i) else refuse i

-- a token whose value is in a range. Any other value is refused as this fault: as OutOfRange of the same
-- range, or as Unexpected
unfoldable pub ranged : {K A : Type 0} → (K → Bool) → ℕ → ℕ → Fault → (ℕ → List ℕ → ℕ → A) → Parser K A
ranged test least most f make = λ i. if sees test i then (if in_range least most (value i) then Ok
    (make (place i) (text i) (value i), next i) else fail f i) else refuse i

-- what is read is a leaf or an operator, if one more may be
unfoldable pub counted : {K A : Type 0} → Alphabet K → Parser K A → Parser K A
counted al p = λ i. and_then (p i) (λ a j. if nat_lt j.count al.most_counted then Ok
    (a, record j { count = j.count + 1 }) else fail Large i)

-- a token of this kind, which is a leaf or an operator
unfoldable pub counted_token : {K : Type 0} → Alphabet K → K → Parser K ℕ
counted_token al a = counted al (take al a)

-- what is read, and where it begins
unfoldable pub placed : {K A : Type 0} → Parser K A → Parser K (ℕ × A)
placed p = λ i. and_then (p i) (λ a. pure (place i, a))

-- nothing is left
unfoldable pub finish : {K : Type 0} → Parser K (Unit {0})
finish = λ i. if is_none (kind i) then Ok (tt, i) else refuse i

-- a text that nothing follows
abbrev pub whole : {K A : Type 0} → Parser K A → Parser K A
whole p = do
  a ← p
  finish
  pure a

-- ---- choices, brackets, expressions

-- the first where the next token passes the test
abbrev pub if_next : {K A : Type 0} → (K → Bool) → Parser K A → Parser K A → Parser K A
if_next test p q i = if sees test i then p i else q i

-- why no bracket of this kind can be opened
unfoldable pub too_deep : {K : Type 0} → Alphabet K → K → Unread K → Refusal
too_deep al a i = record { place = place i; fault = if sees (is al a) i then Deep else why (kind i) }

-- where no bracket of this kind can be opened
abbrev pub closed : {K A : Type 0} → Alphabet K → K → Parser K A
closed al a = λ i. Err (too_deep al a i)

-- an opening bracket of this kind, where so many may be opened: its place, and how many may be behind it
unfoldable pub opening : {K : Type 0} → Alphabet K → ℕ → K → Parser K (ℕ × ℕ)
opening al zero a = closed al a
opening al (suc room) a = take al a >>= λ place. pure (place, room)

-- what begins with one: the rest by how many are left, and by the bracket's place
unfoldable pub opened : {K A : Type 0} → Alphabet K → ℕ → K → (ℕ → ℕ → Parser K A) → Parser K A
opened al room a rest = opening al room a >>= λ bracket. rest bracket.1 bracket.0

-- an outermost expression counts its leaves and operators from 0
abbrev pub outer : {K A : Type 0} → Parser K A → Parser K A
outer p = λ i. p (record i { count = 0 })

-- ---- lists: while the next token passes the test. An item that takes no token would end it

-- one more item, and those behind it
abbrev pub turn : {K A : Type 0} → Parser K (List A) → Parser K A → Parser K (List A)
turn more p i = and_then (p i) (λ x j. if nat_lt (length j.rest) (length i.rest) then and_then (more j)
    (λ xs. pure (x ∷ xs)) else Err (refusal i))

unfoldable pub many_for : {K A : Type 0} → ℕ → (K → Bool) → Parser K A → Parser K (List A)
many_for zero starts p i = if sees starts i then turn refuse p i else Ok ([], i)
many_for (suc n) starts p i = if sees starts i then turn (many_for n starts p) p i else Ok ([], i)

unfoldable pub many : {K A : Type 0} → (K → Bool) → Parser K A → Parser K (List A)
many starts p = λ i. many_for (length i.rest) starts p i

-- ---- what a function that reads ensures

-- the reader refuses, and stands at the token that it refuses, or at the end
pub record Refuses {K A : Type 0} (outcome : Parsed K A) (r : Refusal) (new : Unread K) : Type 0 where
  pub refused : outcome ≡ Err r
  pub stands : place new ≡ r.place

-- The result is the outcome, unless memory runs out. `seen` tells what refusal an error is, None for want of
-- memory.
abbrev pub Reads : {K A E : Type 0} → (E → Option Refusal) → Parsed K A → Result A E → Unread K → Type 0
Reads seen outcome (Ok a) new = outcome ≡ Ok (a, new)
Reads seen outcome (Err e) new = (r : Refusal) → seen e ≡ Some r → Refuses outcome r new

-- the same for a whole text, of which nothing is left to be read
abbrev pub Exact : {K A E : Type 0} → (E → Option Refusal) → Parsed K A → Result A E → Type 0
Exact {K} seen outcome result = (new : Unread K) × Reads seen outcome result new
