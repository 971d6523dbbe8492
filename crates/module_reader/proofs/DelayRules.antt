-- Each rule of delays is read as its language.
use Rattle.std.proofs.Common.{ℕ, Bool, false, refl, arith}
use Rattle.std.specs.Prelude.{◌||◌}
use Rattle.hh_base.specs.declared.keyword.Keyword.TheVariants as w
use Rattle.module_token.specs.declared.punct.Punct.TheVariants as k
use Rattle.module_tree.specs.declared.source.Delay.TheVariants as delay
use Rattle.module_tree.specs.declared.source.Later.TheVariants as plain
use Rattle.grammar.specs.Tokens.{never}
use Rattle.grammar.specs.Fault.{OutOfRange}
use Rattle.grammar.proofs.Bundle.{Sample}
use Rattle.grammar.proofs.Sequences.{good_then, good_pure, sample_seq, sample_pure, sample_token}
use Rattle.grammar.proofs.Levels.{outer_level}
use Rattle.grammar.proofs.Choices.{good_or}
use Rattle.grammar.proofs.Combined.{good_made}
use Rattle.grammar.proofs.Nesting.{deeper}
use Rattle.expression_reader.specs.declared.terminal.Terminal.{Terminal}
use Rattle.expression_reader.specs.declared.terminal.Terminal.TheVariants as t
use Rattle.expression_reader.specs.Terminals.{symbols, is_keyword, is_punct}
use Rattle.expression_reader.specs.Rules as eg
use Rattle.module_reader.specs.Rules as g
use Rattle.expression_reader.specs.Rules.{is_number}
use Rattle.module_reader.specs.Reference as p
use Rattle.expression_reader.proofs.TokenRules.{Out, good_keyword, good_punct, good_number}
use Rattle.expression_reader.proofs.PartRules.{good_in_round}
use Rattle.expression_reader.proofs.ExpressionRules.{behind_expression, good_outermost, sample_outermost}
use Rattle.expression_reader.proofs.ExpressionRules.{good_test}

abbrev pub begins_plain : Terminal → Bool
begins_plain a = is_punct k.LeftParen a || is_keyword w.Count a

abbrev pub begins_delay : Terminal → Bool
begins_delay a = is_keyword w.Immediate a || begins_plain a

sample_times : (room : ℕ) → Sample (g.times room)
sample_times room =
    let one : Sample (eg.number 1 64) = (good_number {v = outer_level symbols} {x = 1} {n = 0} 1 64
    (OutOfRange 1 64) (refl, refl) refl).sample (omega arith) in
    sample_seq (eg.number 1 64) one (λ m. sample_seq (eg.punct k.Comma) (sample_token (t.Punct k.Comma))
    (λ c. sample_seq (eg.outermost room) (sample_outermost room) (λ a. sample_pure (m.1, a))))

module _ (n x : ℕ) where
  good_once : Out x n (p.once n) (g.once (deeper n x)) false (is_punct k.LeftParen) never
  unfolding p.once
  good_once = good_made (λ a. plain.Once a) (good_test n x)

  good_times : Out x n (p.times n) (g.times (deeper n x)) false is_number behind_expression
  unfolding p.times
  good_times = good_then (good_number 1 64 (OutOfRange 1 64) (refl, refl) refl)
      (λ m. good_then (good_punct k.Comma refl) (λ c. good_then (good_outermost n x)
      (λ a. good_pure (m.1, a) behind_expression) refl) refl) refl

module _ (n x : ℕ) where
  good_count : Out x n (p.count n) (g.count (deeper n x)) false (is_keyword w.Count) never
  unfolding p.count
  good_count = good_then (good_keyword w.Count) (λ m. good_made (λ c. plain.Count c.0 c.1)
      (good_in_round n x sample_times (λ left. good_times left x) refl)) refl

  pub good_later : Out x n (p.later n) (g.later (deeper n x)) false begins_plain never
  unfolding p.later
  good_later = good_or (is_punct k.LeftParen) never (good_once n x) good_count refl

  good_later_delay : Out x n (p.later_delay n) (g.later_delay (deeper n x)) false begins_plain never
  unfolding p.later_delay
  good_later_delay = good_made (λ a. delay.Later a) good_later

  good_immediate : Out x n (p.immediate n) (g.immediate (deeper n x)) false (is_keyword w.Immediate) never
  unfolding p.immediate
  good_immediate = good_then (good_keyword w.Immediate) (λ m. good_made (λ a. delay.Immediate a)
      (good_test n x)) refl

  pub good_delay : Out x n (p.delay n) (g.delay (deeper n x)) false begins_delay never
  unfolding p.delay
  good_delay = good_or (is_keyword w.Immediate) never good_immediate good_later_delay refl
