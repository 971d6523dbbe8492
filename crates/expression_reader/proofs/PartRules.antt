-- Each rule for parts of any kind is read as its language, by how its parts are.
use Rattle.std.proofs.Common.{◌≡◌, ℕ, Bool, true, false, [], ◌∷◌, Some, None, refl}
use Rattle.std.specs.Prelude.{◌||◌}
use Rattle.module_token.specs.declared.punct.Punct.TheVariants as k
use Rattle.grammar.specs.Tokens.{never}
use Rattle.grammar.specs.Language as l
use Rattle.grammar.specs.Parser.{◌>>=◌, pure}
use Rattle.grammar.proofs.Bundle.{Level, Sample}
use Rattle.grammar.proofs.Sequences.{good_seq, good_then, good_pure, fit, or_then, sample_seq, sample_pure, sample_token}
use Rattle.grammar.proofs.OneToken.{good_close}
use Rattle.grammar.proofs.Choices.{good_or, splits, repeats}
use Rattle.grammar.proofs.Combined.{fit_any, good_made, good_several}
use Rattle.grammar.proofs.Nesting.{deeper, good_opened}
use Rattle.expression_reader.specs.declared.terminal.Terminal.{Terminal}
use Rattle.expression_reader.specs.declared.terminal.Terminal.TheVariants as t
use Rattle.expression_reader.specs.Terminals.{symbols, is_punct, is_in_round}
use Rattle.expression_reader.specs.Rules as g
use Rattle.expression_reader.specs.Rules.{Lang}
use Rattle.expression_reader.specs.Reference as p
use Rattle.expression_reader.specs.Reference.{Parser}
use Rattle.expression_reader.proofs.TokenRules.{Rule, good_punct}

module _ {v : Level} {x n : ℕ} {A : Type 0} {part : Parser A} {parts : Lang A} {first c1 : Terminal
    → Bool} where
  pub good_optional : (test cont : Terminal → Bool) → Rule v x n part parts false first c1
      → splits symbols test true first c1 never cont cont ≡ true
      → Rule v x n (p.optional test part) (g.optional parts) true (λ a. first a || never a) cont
  good_optional test cont h e = good_or test cont (good_made (λ a. Some a) h) (good_pure None cont) e

  pub good_behind_comma : Rule v x n part parts false first c1
      → Rule v x n (p.behind_comma part) (g.behind_comma parts) false (is_punct k.Comma) c1
  good_behind_comma h = good_then (good_punct k.Comma refl) (λ w. h) (fit_any symbols false first c1)

  -- another comma may not stand behind an item, but behind the list
  pub good_listed : (cont : Terminal → Bool) → Rule v x n part parts false first c1
      → repeats symbols (is_punct k.Comma) (is_punct k.Comma) c1 cont ≡ true
      → fit symbols true (or_then true (is_punct k.Comma) never) c1 cont ≡ true
      → Rule v x n (p.listed part) (g.listed parts) false first cont
  unfolding p.listed
  good_listed cont h e1 e2 = good_several (λ a more. a ∷ more) (is_punct k.Comma) cont h
      (good_behind_comma h) e1 e2

  -- the same behind a bracket, which is closed behind the list
  pub good_listed_or_none : Rule v x n part parts false first c1
      → repeats symbols (is_punct k.Comma) (is_punct k.Comma) c1 is_in_round ≡ true
      → fit symbols true (or_then true (is_punct k.Comma) never) c1 is_in_round ≡ true
      → splits symbols is_in_round true first is_in_round never is_in_round is_in_round ≡ true
      → Rule v x n (p.listed_or_none part) (g.listed_or_none parts) true
      (λ a. first a || never a) is_in_round
  unfolding p.listed_or_none
  good_listed_or_none h e1 e2 e3 = good_or is_in_round is_in_round (good_listed is_in_round h e1 e2)
      (good_pure [] is_in_round) e3

-- ---- brackets

sample_closed : {A : Type 0} (s : Lang A) (a : Terminal) → Sample s
    → Sample (l.◌>>=◌ s (λ y. l.◌>>=◌ (l.token a) (λ w. l.pure y)))
sample_closed s a w = sample_seq s w (λ y. sample_seq (l.token a) (sample_token a) (λ w. sample_pure y))

module _ {v : Level} {A : Type 0} {part : ℕ → Parser A} {parts : ℕ
    → Lang A} {empty : Bool} {first cont : Terminal → Bool} (n x : ℕ) (texts : (m : ℕ) → Sample (parts m))
    (h : (m : ℕ) → Rule v x m (part m) (parts (deeper m x)) empty first cont) where
  pub good_in_round : fit symbols false (is_punct k.RightParen) cont never ≡ true
      → Rule v x n (p.in_round part n) (g.in_round parts (deeper n x)) false (is_punct k.LeftParen) never
  unfolding p.in_round
  good_in_round e = good_opened n x (t.Punct k.LeftParen) (λ left place. ◌>>=◌ (part left)
      (λ a. ◌>>=◌ (p.punct k.RightParen) (λ w. pure a))) (λ left place. l.◌>>=◌ (parts left)
      (λ a. l.◌>>=◌ (g.punct k.RightParen) (λ w. l.pure a))) refl
      (λ m eq place. good_seq (h m) (λ a. good_then (good_close (t.Punct k.RightParen) refl)
      (λ w. good_pure a never) refl) e) (λ m place. sample_closed (parts m) (t.Punct k.RightParen)
      (texts m))

  pub good_in_curly : fit symbols false (is_punct k.RightBrace) cont never ≡ true
      → Rule v x n (p.in_curly part n) (g.in_curly parts (deeper n x)) false (is_punct k.LeftBrace) never
  unfolding p.in_curly
  good_in_curly e = good_opened n x (t.Punct k.LeftBrace) (λ left place. ◌>>=◌ (part left)
      (λ a. ◌>>=◌ (p.punct k.RightBrace) (λ w. pure a))) (λ left place. l.◌>>=◌ (parts left)
      (λ a. l.◌>>=◌ (g.punct k.RightBrace) (λ w. l.pure a))) refl
      (λ m eq place. good_seq (h m) (λ a. good_then (good_close (t.Punct k.RightBrace) refl)
      (λ w. good_pure a never) refl) e) (λ m place. sample_closed (parts m) (t.Punct k.RightBrace)
      (texts m))
