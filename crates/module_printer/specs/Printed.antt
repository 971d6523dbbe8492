-- The text that is printed of a tree: a line for each of its declarations, with one space between
-- neighbouring tokens. This project's own.
use Rattle.std.specs.Prelude.{◌≡◌, ℕ, List, [], ◌∷◌, ◌++◌, Result, OnOk}
use Rattle.std.specs.List.{flat_map}
use Rattle.hh_base.specs.Bytes.{line_feed, space}
use Rattle.module_tree.specs.declared.source.Part.{Part}
use Rattle.module_printer.specs.ExpressionTokens.{Lexemes}
use Rattle.module_printer.specs.SourceTokens.{tokens_of_part}

-- each token behind a space
abbrev pub spaced : Lexemes → List ℕ
spaced = flat_map (λ t. space ∷ t)

-- one space between neighbours, and one LF at the end
abbrev pub line_of : Lexemes → List ℕ
line_of [] = line_feed ∷ []
line_of (t ∷ ts) = t ++ spaced ts ++ line_feed ∷ []

abbrev pub printed : List (Part (List ℕ)) → List ℕ
printed = flat_map (λ t. line_of (tokens_of_part t))

-- ---- what a call writes, where memory does not run out

-- these bytes behind those that were written before
abbrev pub Appends : {A E : Type 0} → Result A E → (old new : List ℕ) → List ℕ → Type 0
Appends result old new bytes = OnOk result (new ≡ old ++ bytes)

-- these tokens, each behind a space
abbrev pub Writes : {A E : Type 0} → Result A E → (old new : List ℕ) → Lexemes → Type 0
Writes result old new tokens = Appends result old new (spaced tokens)
