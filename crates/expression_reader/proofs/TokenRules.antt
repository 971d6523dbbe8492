-- Each rule of one token is read as its language.
use Rattle.std.proofs.Common.{◌≡◌, ℕ, Bool, true, false, refl}
use Rattle.hh_base.specs.declared.keyword.Keyword.{Keyword}
use Rattle.module_token.specs.declared.punct.Punct.{Punct}
use Rattle.grammar.specs.Tokens.{never, is_plain, in_range}
use Rattle.grammar.specs.Fault.{Fault}
use Rattle.grammar.proofs.Bundle.{Level, Good}
use Rattle.grammar.proofs.Levels.{inner_level, outer_level}
use Rattle.grammar.proofs.Sequences.{good_then, good_pure}
use Rattle.grammar.proofs.OneToken.{OfRange, single_name, single_ranged, good_take, good_one}
use Rattle.expression_reader.specs.declared.terminal.Terminal.{Terminal}
use Rattle.expression_reader.specs.declared.terminal.Terminal.TheVariants as t
use Rattle.expression_reader.specs.Terminals.{symbols, is_name, is_keyword, is_punct}
use Rattle.expression_reader.specs.Trees.{name_at}
use Rattle.expression_reader.specs.Rules as g
use Rattle.expression_reader.specs.Rules.{Lang, is_quoted, is_number}
use Rattle.expression_reader.specs.Reference as p
use Rattle.expression_reader.specs.Reference.{Parser}

-- The bundle of the grammar's rules: at a level of counting, with n brackets that may be opened, in a
-- language that may have x more.
abbrev pub Rule : Level → (x n : ℕ) {A : Type 0} → Parser A → Lang A → Bool → (Terminal → Bool)
    → (Terminal → Bool) → Type 0
Rule v x n p s empty first cont = Good symbols x v n n p s empty first cont

-- inside an expression, and around expressions
abbrev pub In : (x n : ℕ) {A : Type 0} → Parser A → Lang A → Bool → (Terminal → Bool) → (Terminal → Bool)
    → Type 0
In = Rule (inner_level symbols)

abbrev pub Out : (x n : ℕ) {A : Type 0} → Parser A → Lang A → Bool → (Terminal → Bool) → (Terminal → Bool)
    → Type 0
Out = Rule (outer_level symbols)

module _ {v : Level} {x n : ℕ} where
  pub good_keyword : (word : Keyword) → Rule v x n (p.keyword word) (g.keyword word) false
      (is_keyword word) never
  good_keyword word = good_take (t.Keyword word) refl

  pub good_punct : (mark : Punct) → is_plain symbols (t.Punct mark) ≡ true
      → Rule v x n (p.punct mark) (g.punct mark) false (is_punct mark) never
  good_punct mark e = good_take (t.Punct mark) e

  pub good_name : Rule v x n p.name g.name false is_name never
  good_name = good_one (single_name is_name t.Word refl) refl

  pub good_named : Rule v x n p.named g.named false is_name never
  good_named = good_then good_name (λ m. good_pure (name_at m) never) refl

  pub good_quoted : Rule v x n p.quoted g.quoted false is_quoted never
  good_quoted = good_one (single_name is_quoted t.Quoted refl) refl

  pub good_number : (least most : ℕ) (f : Fault) → OfRange least most f → in_range least most least ≡ true
      → Rule v x n (p.number least most f) (g.number least most) false is_number never
  good_number least most f of_range fits = good_one (single_ranged is_number least most f
      (λ place text value. (place, value)) of_range least fits t.Number refl) refl
