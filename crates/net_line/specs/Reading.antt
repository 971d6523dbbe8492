-- Reading off the front of a text. Bridges to the reader, and no part of a promise. (This project's own.)
use Rattle.std.specs.Prelude.{◌≡◌, ℕ, zero, suc, ◌+◌, ◌==◌, ◌||◌, ◌&&◌, not, Bool, true, false}
use Rattle.std.specs.Prelude.{if◌then◌else◌, Option, Some, None}
use Rattle.std.specs.Prelude.{List, [], ◌∷◌, ◌++◌, take, drop, Result, Ok, Err}
use Rattle.hh_base.specs.Bytes.{space, line_feed, quote, backslash}
use Rattle.net_line.specs.declared.fault.LineFault.{LineFault}
use Rattle.net_line.specs.declared.fault.LineFault.TheVariants.{Formless}

-- what was read and what is left, if the text begins so
abbrev pub Read : Type 0 → Type 0
Read A = Option (A × List ℕ)

abbrev pub Reader : Type 0 → Type 0
Reader A = List ℕ → Read A

abbrev pub and_then : {A B : Type 0} → Read A → (A → Reader B) → Read B
and_then (Some p) f = f p.0 p.1
and_then None f = None

-- one after the other
infixl 10 ◌>>=◌
abbrev pub ◌>>=◌ : {A B : Type 0} → Reader A → (A → Reader B) → Reader B
p >>= f = λ text. and_then (p text) f

-- takes nothing
abbrev pub pure : {A : Type 0} → A → Reader A
pure a = λ text. Some (a, text)

abbrev pub lift : {A : Type 0} → Option A → Reader A
lift (Some a) = λ text. Some (a, text)
lift None = λ text. None

-- only where this holds
abbrev pub only_if : {A : Type 0} → Bool → A → Reader A
only_if true a = λ text. Some (a, text)
only_if false a = λ text. None

-- a part ends before a space and before the end of its line
abbrev pub ends : ℕ → Bool
ends b = (b == space) || (b == line_feed)

-- a space or the end of a line follows
abbrev pub Ends : List ℕ → Type 0
Ends [] = ⊥
Ends (b ∷ bs) = ends b ≡ true

-- the bytes of one part
abbrev pub plain : List ℕ → Bool
plain [] = true
plain (b ∷ bs) = not (ends b) && plain bs

abbrev pub word_len : List ℕ → ℕ
word_len [] = 0
word_len (b ∷ bs) = if ends b then 0 else 1 + word_len bs

-- what is quoted goes up to the next quote that no backslash stands before
abbrev pub quoted_len : Bool → List ℕ → ℕ
quoted_len escaped [] = 0
quoted_len true (b ∷ bs) = 1 + quoted_len false bs
quoted_len false (b ∷ bs) = 1 + (if b == quote then 0 else quoted_len (b == backslash) bs)

abbrev pub part_len : List ℕ → ℕ
part_len [] = 0
part_len (b ∷ bs) = if b == quote then 1 + quoted_len false bs else word_len (b ∷ bs)

abbrev pub cut_at : ℕ → Reader (List ℕ)
cut_at n text = Some (take n text, drop n text)

-- the first part of a line
abbrev pub word : Reader (List ℕ)
word text = cut_at (word_len text) text

-- a space and a part
abbrev pub part : Reader (List ℕ)
part [] = None
part (b ∷ bs) = if b == space then cut_at (part_len bs) bs else None

-- the end of a line
abbrev pub line_end : Reader (Unit {0})
line_end [] = None
line_end (b ∷ bs) = if b == line_feed then Some (tt, bs) else None

-- a space and a part that means something
abbrev pub part_as : {A : Type 0} → (List ℕ → Option A) → Reader A
part_as f = part >>= λ w. lift (f w)

-- the same of the first part of a line
abbrev pub word_as : {A : Type 0} → (List ℕ → Option A) → Reader A
word_as f = word >>= λ w. lift (f w)

-- so many, one after the other
abbrev pub times : {A : Type 0} → ℕ → Reader A → Reader (List A)
times zero p = pure []
times (suc n) p = p >>= λ a. times n p >>= λ rest. pure (a ∷ rest)

-- how many parts there are and the parts, by what reads a count
abbrev pub counted : {A : Type 0} → Reader ℕ → Reader A → Reader (List A)
counted count p = count >>= λ n. times n p

-- a bridge to the loop: what was read stands before what is read
abbrev pub behind : {A : Type 0} → List A → Read (List A) → Read (List A)
behind done None = None
behind done (Some p) = Some (done ++ p.0, p.1)

-- what a function that reads ensures: it reads as the reader does, unless memory runs out
abbrev pub Reads : {A : Type 0} → Read A → Result A LineFault → List ℕ → Type 0
Reads outcome (Ok a) left = outcome ≡ Some (a, left)
Reads outcome (Err e) left = e ≡ Formless → outcome ≡ None

-- the same of what a part means
abbrev pub Decodes : {A : Type 0} → Option A → Result A LineFault → Type 0
Decodes meant (Ok a) = meant ≡ Some a
Decodes meant (Err e) = e ≡ Formless → meant ≡ None
