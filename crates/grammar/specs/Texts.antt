-- What is promised of reading a whole text: its tree, or the first fault. `texts room` is the grammar of a
-- whole text in which at most `room` brackets are open at once. This project's own.
use Rattle.std.specs.Prelude.{◌≡◌, ℕ, suc, ◌+◌, ◌<◌, ◌≤◌, true, false, List, [], ◌∷◌, ◌++◌, length, Option}
use Rattle.std.specs.Prelude.{None, Result, Ok, Err}
use Rattle.std.specs.List.{AllByRecursion}
use Rattle.grammar.specs.Tokens.{Tok, Alphabet, place_of, how_many, in_range}
use Rattle.grammar.specs.Fault.{Fault, Unexpected, EndOfText, Deep, Large, OutOfRange, Refusal}
use Rattle.grammar.specs.Language.{Lang}

-- ---- texts, by their limits

-- a text of the grammar, with any number of brackets more than may be open, and the ranks of its tokens
abbrev pub Counts : {K A : Type 0} → Alphabet K → (ℕ → Lang K A) → A → List (Tok K) → List ℕ → Type 0
Counts al texts a ts ks = (more : ℕ) × texts (al.most_open + more) a ts ks

-- a text of the grammar, however deep its brackets and large its expressions
abbrev pub Text : {K A : Type 0} → Alphabet K → (ℕ → Lang K A) → A → List (Tok K) → Type 0
Text al texts a ts = (ks : List ℕ) × Counts al texts a ts ks

-- one with at most so many brackets open as may be
abbrev pub Shallow : {K A : Type 0} → Alphabet K → (ℕ → Lang K A) → A → List (Tok K) → Type 0
Shallow al texts a ts = (ks : List ℕ) × texts al.most_open a ts ks

-- no leaf or operator is past the limit
abbrev pub Few : {K : Type 0} → Alphabet K → List ℕ → Type 0
Few al ks = AllByRecursion (λ k. k ≤ al.most_counted) ks

-- one within both limits
abbrev pub Within : {K A : Type 0} → Alphabet K → (ℕ → Lang K A) → A → List (Tok K) → Type 0
Within al texts a ts = (ks : List ℕ) × texts al.most_open a ts ks × Few al ks

-- ---- the first fault

-- some text of the grammar begins with these tokens
abbrev pub Viable : {K A : Type 0} → Alphabet K → (ℕ → Lang K A) → List (Tok K) → Type 0
Viable {K} {A} al texts ts = (a : A) × (more : List (Tok K)) × Text al texts a (ts ++ more)

-- No limit was passed in these tokens: each bracket that opens is one that may be opened, and some text of
-- the grammar begins with the tokens in which none of them is a leaf or operator past the limit.
pub record Clean {K A : Type 0} (al : Alphabet K) (texts : ℕ → Lang K A) (before : List (Tok K)) : Type 0
  where
    pub brackets : (b : List (Tok K)) (t : Tok K) (c : List (Tok K)) → before ≡ b ++ t ∷ c
        → al.opens t.kind ≡ true → how_many al.opens b < how_many al.closes b + al.most_open
    pub leaves : (a : A) × (more : List (Tok K)) × (front : List ℕ) × (back : List ℕ)
        × Counts al texts a (before ++ more) (front ++ back) × (length front ≡ length before) × Few al front

-- the token is the first leaf or operator past the limit, in an outermost expression of some text that
-- begins with these tokens and it
abbrev pub IsPastLimit : {K A : Type 0} → Alphabet K → (ℕ → Lang K A) → List (Tok K) → Tok K → Type 0
IsPastLimit {K} {A} al texts before t =
    (a : A) × (more : List (Tok K)) × (front : List ℕ) × (back : List ℕ)
    × Counts al texts a (before ++ t ∷ more) (front ++ suc al.most_counted ∷ back)
    × (length front ≡ length before)

-- what each fault says of the tokens before it and from it on
abbrev pub FaultAt : {K A : Type 0} → Alphabet K → (ℕ → Lang K A) → Fault → List (Tok K) → List (Tok K)
    → Type 0
FaultAt al texts Unexpected before [] = ⊥
FaultAt al texts Unexpected before (t ∷ after) = Viable al texts before × ¬ Viable al texts (before ++ t ∷ [])
FaultAt {A = A} al texts EndOfText before [] = Viable al texts before × ((a : A) → ¬ Text al texts a before)
FaultAt al texts EndOfText before (t ∷ after) = ⊥
FaultAt al texts Deep before [] = ⊥
FaultAt {K} {A} al texts Deep before (t ∷ after) =
    (al.opens t.kind ≡ true) × (how_many al.opens before ≡ how_many al.closes before + al.most_open)
    × Viable al texts (before ++ t ∷ [])
    × ((a : A) (more : List (Tok K)) → ¬ Shallow al texts a ((before ++ t ∷ []) ++ more))
FaultAt al texts Large before [] = ⊥
FaultAt {K} {A} al texts Large before (t ∷ after) = IsPastLimit al texts before t
    × ((a : A) (more : List (Tok K)) → ¬ Within al texts a ((before ++ t ∷ []) ++ more))
FaultAt al texts (OutOfRange least most) before [] = ⊥
FaultAt {K} al texts (OutOfRange least most) before (t ∷ after) =
    (in_range least most t.value ≡ false)
    × ((u : Tok K) → u.kind ≡ t.kind → (in_range least most u.value ≡ true
    → Viable al texts (before ++ u ∷ [])) × (in_range least most u.value ≡ false
    → ¬ Viable al texts (before ++ u ∷ [])))

-- The refusal is the first fault of a text of this size: it has its cause where it stands, and no limit was
-- passed before it.
abbrev pub FirstFault : {K A : Type 0} → Alphabet K → (ℕ → Lang K A) → ℕ → List (Tok K) → Refusal → Type 0
FirstFault {K} al texts size ts r =
    (before : List (Tok K)) × (after : List (Tok K)) × (ts ≡ before ++ after) × (r.place ≡ place_of size after)
    × Clean al texts before × FaultAt al texts r.fault before after

-- a text with this tree is read as it, unless memory runs out
abbrev pub ReadAs : {A E R : Type 0} → (E → Option R) → A → Result A E → Type 0
ReadAs seen a (Ok found) = found ≡ a
ReadAs seen a (Err e) = seen e ≡ None
