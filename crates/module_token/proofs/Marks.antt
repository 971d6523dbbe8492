-- Marks: how they are spelled and how they are found.
use Rattle.std.proofs.Common.{◌≡◌, ℕ, Bool, true, false, [], ◌∷◌, Option, Some, None, refl, sym, ap, ◌∙◌}
use Rattle.std.proofs.Common.{arith}
use Rattle.std.specs.Prelude.{◌==◌, ◌&&◌, nat_lt, if◌then◌else◌}
use Rattle.std.proofs.lemmas.Bool.Decides.{nat_tests}
use Rattle.module_token.specs.declared.punct.Punct.{Punct}
use Rattle.module_token.specs.declared.punct.Punct.TheVariants as p
use Rattle.std.specs.Char.{is_ascii_digit, is_ascii_alphabetic}
use Rattle.module_token.specs.Gap.{is_blank}
use Rattle.module_token.specs.Front.{short_mark, long_mark}
use Rattle.module_token.specs.Spelling.{punct_text}

-- a chain of tests gives the mark of the test that holds
short_step : (b c : ℕ) (here mark : Punct) (others : Option Punct) → punct_text here ≡ c ∷ []
    → (others ≡ Some mark → punct_text mark ≡ b ∷ []) → (t : Bool) → (b == c) ≡ t
    → (if t then Some here else others) ≡ Some mark → punct_text mark ≡ b ∷ []
short_step b c here mark others is more true e h = ap punct_text (sym (same h)) ∙ is
    ∙ ap (λ d. d ∷ []) (sym (equal b c e))
  where
    same : {x y : Punct} → Some x ≡ Some y → x ≡ y
    same h = cc

    equal : (b c : ℕ) → (b == c) ≡ true → b ≡ c
    equal b c e = grind (arith, nat_tests)
short_step b c here mark others is more false e h = more h

no_mark : (mark : Punct) (b : ℕ) → None ≡ Some mark → punct_text mark ≡ b ∷ []
no_mark mark b h = absurd (let no : ⊥ = cc in no)

pub short_spelled : (b : ℕ) (mark : Punct) → short_mark b ≡ Some mark → punct_text mark ≡ b ∷ []
short_spelled b mark h =
    short_step b 40 p.LeftParen mark _ refl (λ e. short_step b 41 p.RightParen mark _ refl
    (λ e. short_step b 123 p.LeftBrace mark _ refl
    (λ e. short_step b 125 p.RightBrace mark _ refl
    (λ e. short_step b 44 p.Comma mark _ refl (λ e. short_step b 59 p.Semicolon mark _ refl
    (λ e. short_step b 58 p.Colon mark _ refl (λ e. short_step b 46 p.Dot mark _ refl
    (λ e. short_step b 61 p.Equal mark _ refl (λ e. short_step b 63 p.Question mark _ refl
    (λ e. short_step b 43 p.Plus mark _ refl (λ e. short_step b 45 p.Minus mark _ refl
    (λ e. short_step b 42 p.Star mark _ refl (λ e. short_step b 47 p.Slash mark _ refl
    (λ e. short_step b 37 p.Percent mark _ refl
    (λ e. short_step b 33 p.Not mark _ refl (λ e. short_step b 60 p.Less mark _ refl
    (λ e. short_step b 62 p.Greater mark _ refl (no_mark mark b) (b == 62) refl e) (b == 60) refl e)
    (b == 33) refl e) (b == 37) refl e) (b == 47) refl e) (b == 42) refl e) (b == 45) refl e)
    (b == 43) refl e) (b == 63) refl e) (b == 61) refl e) (b == 46) refl e) (b == 58) refl e)
    (b == 59) refl e) (b == 44) refl e) (b == 125) refl e) (b == 123) refl e) (b == 41) refl e)
    (b == 40) refl h

long_step : (b d x y : ℕ) (here mark : Punct) (others : Option Punct) → punct_text here ≡ x ∷ y ∷ []
    → (others ≡ Some mark → punct_text mark ≡ b ∷ d ∷ []) → (t : Bool) → ((b == x) && (d == y)) ≡ t
    → (if t then Some here else others) ≡ Some mark → punct_text mark ≡ b ∷ d ∷ []
long_step b d x y here mark others is more true e h = ap punct_text (sym (same h)) ∙ is
    ∙ (let q = equal b d x y e in ap (λ c. c ∷ y ∷ []) (sym q.0) ∙ ap (λ c. b ∷ c ∷ []) (sym q.1))
  where
    same : {x y : Punct} → Some x ≡ Some y → x ≡ y
    same h = cc

    equal : (b d x y : ℕ) → ((b == x) && (d == y)) ≡ true → (b ≡ x) × (d ≡ y)
    equal b d x y e = grind (arith, nat_tests)
long_step b d x y here mark others is more false e h = more h

no_long : (mark : Punct) (b d : ℕ) → None ≡ Some mark → punct_text mark ≡ b ∷ d ∷ []
no_long mark b d h = absurd (let no : ⊥ = cc in no)

pub long_spelled : (b d : ℕ) (mark : Punct) → long_mark b d ≡ Some mark → punct_text mark ≡ b ∷ d ∷ []
long_spelled b d mark h =
    long_step b d 61 61 p.EqualEqual mark _ refl (λ e. long_step b d 33 61 p.NotEqual mark _ refl
    (λ e. long_step b d 60 61 p.LessEqual mark _ refl
    (λ e. long_step b d 62 61 p.GreaterEqual mark _ refl
    (λ e. long_step b d 38 38 p.And mark _ refl
    (λ e. long_step b d 124 124 p.Or mark _ refl (no_long mark b d) ((b == 124) && (d == 124)) refl e)
    ((b == 38) && (d == 38)) refl e) ((b == 62) && (d == 61)) refl e) ((b == 60) && (d == 61)) refl e)
    ((b == 33) && (d == 61)) refl e) ((b == 61) && (d == 61)) refl h

-- no byte that begins a gap, a number, a quoted text or a word
abbrev pub Sign : ℕ → Type 0
Sign b = (nat_lt b 128 ≡ true) × (is_blank b ≡ false) × (is_ascii_digit b ≡ false) × ((b == 34) ≡ false)
    × (is_ascii_alphabetic b ≡ false) × ((b == 95) ≡ false)

-- a mark has one byte or two, and is found by them
pub data Shape (mark : Punct) : Type 0 where
  one : (b : ℕ) → punct_text mark ≡ b ∷ [] → short_mark b ≡ Some mark → Sign b → Shape mark
  two : (b d : ℕ) → punct_text mark ≡ b ∷ d ∷ [] → long_mark b d ≡ Some mark → Sign b → Shape mark

pub shape : (mark : Punct) → Shape mark
shape p.LeftParen = one 40 refl refl (refl, refl, refl, refl, refl, refl)
shape p.RightParen = one 41 refl refl (refl, refl, refl, refl, refl, refl)
shape p.LeftBrace = one 123 refl refl (refl, refl, refl, refl, refl, refl)
shape p.RightBrace = one 125 refl refl (refl, refl, refl, refl, refl, refl)
shape p.Comma = one 44 refl refl (refl, refl, refl, refl, refl, refl)
shape p.Semicolon = one 59 refl refl (refl, refl, refl, refl, refl, refl)
shape p.Colon = one 58 refl refl (refl, refl, refl, refl, refl, refl)
shape p.Dot = one 46 refl refl (refl, refl, refl, refl, refl, refl)
shape p.Equal = one 61 refl refl (refl, refl, refl, refl, refl, refl)
shape p.Question = one 63 refl refl (refl, refl, refl, refl, refl, refl)
shape p.Plus = one 43 refl refl (refl, refl, refl, refl, refl, refl)
shape p.Minus = one 45 refl refl (refl, refl, refl, refl, refl, refl)
shape p.Star = one 42 refl refl (refl, refl, refl, refl, refl, refl)
shape p.Slash = one 47 refl refl (refl, refl, refl, refl, refl, refl)
shape p.Percent = one 37 refl refl (refl, refl, refl, refl, refl, refl)
shape p.Not = one 33 refl refl (refl, refl, refl, refl, refl, refl)
shape p.Less = one 60 refl refl (refl, refl, refl, refl, refl, refl)
shape p.Greater = one 62 refl refl (refl, refl, refl, refl, refl, refl)
shape p.EqualEqual = two 61 61 refl refl (refl, refl, refl, refl, refl, refl)
shape p.NotEqual = two 33 61 refl refl (refl, refl, refl, refl, refl, refl)
shape p.LessEqual = two 60 61 refl refl (refl, refl, refl, refl, refl, refl)
shape p.GreaterEqual = two 62 61 refl refl (refl, refl, refl, refl, refl, refl)
shape p.And = two 38 38 refl refl (refl, refl, refl, refl, refl, refl)
shape p.Or = two 124 124 refl refl (refl, refl, refl, refl, refl, refl)
