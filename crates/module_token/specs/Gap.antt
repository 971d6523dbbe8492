-- What may stand between tokens: blanks and comments. This project's own.
use Rattle.std.specs.Prelude.{◌≡◌, ◌≢◌, ℕ, ◌==◌, ◌||◌, ◌&&◌, ◌⊎◌, Bool, true, false, List, [], ◌∷◌, ◌++◌}
use Rattle.std.specs.Prelude.{codes}
use Rattle.std.specs.List.{AllByRecursion}
use Rattle.hh_base.specs.Bytes.{space, tab, line_feed}
use Rattle.module_token.specs.Bytes.{byte}

abbrev pub carriage_return : ℕ
carriage_return = 13

-- space, tab, LF and CR
abbrev pub is_blank : ℕ → Bool
is_blank c = ((c == space) || (c == tab)) || ((c == line_feed) || (c == carriage_return))

abbrev pub IsBlank : List ℕ → Type 0
IsBlank gap = (c : ℕ) × (gap ≡ c ∷ []) × (is_blank c ≡ true)

-- nothing follows, or an LF
abbrev pub EndsLine : List ℕ → Type 0
EndsLine [] = Unit {0}
EndsLine (b ∷ bs) = b ≡ line_feed

-- `//` and all that stands before the next LF or the end
abbrev pub IsLineComment : List ℕ → List ℕ → Type 0
IsLineComment gap rest = (body : List ℕ) × (gap ≡ codes "//" ++ body)
    × AllByRecursion (λ b. b ≢ line_feed) body × EndsLine rest

abbrev pub begins_with : ℕ → List ℕ → Bool
begins_with c [] = false
begins_with c (b ∷ bs) = b == c

-- `*/` stands first
abbrev pub starts_close : List ℕ → Bool
starts_close [] = false
starts_close (b ∷ bs) = (b == byte (codes "*")) && begins_with (byte (codes "/")) bs

-- `*/` stands somewhere
abbrev pub has_close : List ℕ → Bool
has_close [] = false
has_close (b ∷ bs) = starts_close (b ∷ bs) || has_close bs

-- `/*` and all that follows to the end of the next `*/`
abbrev pub IsBlockComment : List ℕ → Type 0
IsBlockComment gap = (body : List ℕ) × (gap ≡ codes "/*" ++ (body ++ codes "*/"))
    × (has_close (body ++ codes "*") ≡ false)

-- a blank or a comment, before what follows
abbrev pub IsGap : List ℕ → List ℕ → Type 0
IsGap gap rest = IsBlank gap ⊎ IsLineComment gap rest ⊎ IsBlockComment gap

-- `//` or `/*` stands first
abbrev pub begins_comment : List ℕ → Bool
begins_comment [] = false
begins_comment (b ∷ bs) = (b == byte (codes "/")) && (begins_with (byte (codes "/")) bs
    || begins_with (byte (codes "*")) bs)
