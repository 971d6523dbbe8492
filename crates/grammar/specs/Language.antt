-- Languages: which texts stand for which trees. A text is a list of tokens. The last list, the counts, has a
-- number for each token of the text: inside an expression 1 for a leaf or operator and 0 for any other
-- token; outside expressions the rank, which tells of a leaf or operator that it is the n-th of its
-- outermost expression, from 1, and is 0 for any other token. This project's own.
use Rattle.std.specs.Prelude.{◌≡◌, ℕ, zero, suc, true, Bool, List, [], ◌∷◌, ◌++◌, ◌⊎◌}
use Rattle.grammar.specs.Tokens.{Tok, in_range}

abbrev pub Lang : Type 0 → Type 0 → Type 1
Lang K A = A → List (Tok K) → List ℕ → Type 0

-- one token of this kind, which gives its place
abbrev pub token : {K : Type 0} → K → Lang K ℕ
token {K} a place text ms = (t : Tok K) × (text ≡ t ∷ []) × (t.kind ≡ a) × (place ≡ t.place) × (ms ≡ 0 ∷ [])

-- one token of a kind of the set, and what is made of its place, text and value
abbrev pub one : {K A : Type 0} → (K → Bool) → (ℕ → List ℕ → ℕ → A) → Lang K A
one {K} test make a text ms = (t : Tok K) × (text ≡ t ∷ []) × (test t.kind ≡ true)
    × (a ≡ make t.place t.text t.value) × (ms ≡ 0 ∷ [])

-- one that may be a name, which gives its place and its text
abbrev pub name : {K : Type 0} → (K → Bool) → Lang K (ℕ × List ℕ)
name test = one test (λ place text value. (place, text))

-- one whose value is in a range
abbrev pub ranged : {K A : Type 0} → (K → Bool) → ℕ → ℕ → (ℕ → List ℕ → ℕ → A) → Lang K A
ranged {K} test least most make a text ms =
    (t : Tok K) × (text ≡ t ∷ []) × (test t.kind ≡ true) × (in_range least most t.value ≡ true)
    × (a ≡ make t.place t.text t.value) × (ms ≡ 0 ∷ [])

-- a text of one token, which is a leaf or an operator
abbrev pub counted : {K A : Type 0} → Lang K A → Lang K A
counted s a text ms = s a text (0 ∷ []) × (ms ≡ 1 ∷ [])

-- one token of this kind, which is a leaf or an operator
abbrev pub counted_token : {K : Type 0} → K → Lang K ℕ
counted_token a = counted (token a)

-- one after the other
infixl 10 ◌>>=◌
abbrev pub ◌>>=◌ : {K A B : Type 0} → Lang K A → (A → Lang K B) → Lang K B
◌>>=◌ {K} {A} {B} first second b text ms = (a : A) × (x : List (Tok K)) × (y : List (Tok K)) × (p : List ℕ)
    × (q : List ℕ) × (text ≡ x ++ y) × (ms ≡ p ++ q) × first a x p × second a b y q

infixl 10 ◌>>◌
abbrev pub ◌>>◌ : {K A B : Type 0} → Lang K A → Lang K B → Lang K B
first >> second = first >>= (λ _. second)

-- the empty text
abbrev pub pure : {K A : Type 0} → A → Lang K A
pure a b text ms = (b ≡ a) × (text ≡ []) × (ms ≡ [])

-- one or the other
infixr 5 ◌or◌
abbrev pub ◌or◌ : {K A : Type 0} → Lang K A → Lang K A → Lang K A
(first or second) a text ms = first a text ms ⊎ second a text ms

-- any number of times
abbrev pub many : {K A : Type 0} → Lang K A → Lang K (List A)
many item [] text ms = (text ≡ []) × (ms ≡ [])
many {K} item (x ∷ xs) text ms = (u : List (Tok K)) × (v : List (Tok K)) × (p : List ℕ) × (q : List ℕ)
    × (text ≡ u ++ v) × (ms ≡ p ++ q) × item x u p × many item xs v q

-- a text and the place of its first token
abbrev pub placed : {K A : Type 0} → Lang K A → Lang K (ℕ × A)
placed {K} s a text ms = (first : Tok K) × (rest : List (Tok K)) × (text ≡ first ∷ rest)
    × (a.0 ≡ first.place) × s a.1 text ms

-- no text
abbrev pub nothing : {K A : Type 0} → Lang K A
nothing a text ms = ⊥

-- what begins with an opening bracket of this kind, where so many may be opened: the rest by how many are
-- left, and by the bracket's place
abbrev pub opened : {K A : Type 0} → ℕ → K → (ℕ → ℕ → Lang K A) → Lang K A
opened zero a rest = nothing
opened (suc room) a rest = token a >>= rest room

-- the ranks of counted tokens, where so many leaves and operators stand before them
abbrev pub ranks : ℕ → List ℕ → List ℕ
ranks c [] = []
ranks c (zero ∷ ms) = 0 ∷ ranks c ms
ranks c (suc m ∷ ms) = suc c ∷ ranks (suc c) ms

-- an outermost expression
abbrev pub outer : {K A : Type 0} → Lang K A → Lang K A
outer s a text ks = (ms : List ℕ) × s a text ms × (ks ≡ ranks 0 ms)
