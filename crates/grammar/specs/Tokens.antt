-- Tokens, and what a grammar knows of their kinds. This project's own.
use Rattle.std.specs.Prelude.{◌≡◌, ℕ, zero, suc, ◌==◌, nat_le, Bool, true, false, not, ◌&&◌, if◌then◌else◌}
use Rattle.std.specs.Prelude.{List, [], ◌∷◌, Option, Some, None}

-- A token of a kind of K: where it begins, what is written there, and its value where it is a number.
pub record Tok (K : Type 0) : Type 0 where
  pub place : ℕ
  pub kind : K
  pub text : List ℕ
  pub value : ℕ

-- what stands at this place of a list, from 0
abbrev pub nth : {X : Type 0} → List X → ℕ → Option X
nth [] n = None
nth (x ∷ xs) zero = Some x
nth (x ∷ xs) (suc n) = nth xs n

-- The kinds of tokens: a number for each, by which they are told apart, and the list of all in the order of
-- these numbers; which are brackets; how many brackets may be open at once, and how many leaves and
-- operators an outermost expression may have.
pub record Alphabet (K : Type 0) : Type 0 where
  pub class : K → ℕ
  pub kinds : List K
  pub is_listed : (a : K) → nth kinds (class a) ≡ Some a
  pub opens : K → Bool
  pub closes : K → Bool
  pub most_open : ℕ
  pub most_counted : ℕ

-- ---- sets of kinds, as tests

-- this kind alone
abbrev pub is : {K : Type 0} → Alphabet K → K → K → Bool
is al a b = al.class b == al.class a

abbrev pub never : {K : Type 0} → K → Bool
never a = false

abbrev pub always : {K : Type 0} → K → Bool
always a = true

-- no bracket
abbrev pub is_plain : {K : Type 0} → Alphabet K → K → Bool
is_plain al a = not (al.opens a) && not (al.closes a)

-- a bracket that opens, and one that closes
abbrev pub is_opening : {K : Type 0} → Alphabet K → K → Bool
is_opening al a = al.opens a && not (al.closes a)

abbrev pub is_closing : {K : Type 0} → Alphabet K → K → Bool
is_closing al a = al.closes a && not (al.opens a)

-- ---- lists of tokens

-- the kind of the next token, None at the end
abbrev pub kind_of : {K : Type 0} → List (Tok K) → Option K
kind_of [] = None
kind_of (t ∷ ts) = Some t.kind

-- where the next token stands, in a text of this size
abbrev pub place_of : {K : Type 0} → ℕ → List (Tok K) → ℕ
place_of size [] = size
place_of size (t ∷ ts) = t.place

-- there is a next token, and its kind is of the set
abbrev pub passes : {K : Type 0} → (K → Bool) → Option K → Bool
passes test None = false
passes test (Some a) = test a

-- how many tokens have a kind of the set
abbrev pub how_many : {K : Type 0} → (K → Bool) → List (Tok K) → ℕ
how_many test [] = 0
how_many test (t ∷ ts) = if test t.kind then suc (how_many test ts) else how_many test ts

-- a value between two bounds, each of which may be met
abbrev pub in_range : ℕ → ℕ → ℕ → Bool
in_range least most value = nat_le least value && nat_le value most
