-- What is read of an item of a list takes a token: by that loops end.
use Rattle.std.proofs.Common.{ℕ, Bool, false}
use Rattle.host_expr.specs.declared.expr.Expr.{Expr}
use Rattle.grammar.proofs.Bundle.{shorter}
use Rattle.grammar.proofs.Sequences.{good_then}
use Rattle.grammar.proofs.Combined.{good_made, fit_any}
use Rattle.expression_reader.specs.declared.terminal.Terminal.{Terminal}
use Rattle.expression_reader.specs.declared.operator.Grouping.{Grouping}
use Rattle.expression_reader.specs.declared.operator.Grouping.TheVariants as grouping
use Rattle.expression_reader.specs.Terminals.{symbols}
use Rattle.expression_reader.specs.Trees.{Name}
use Rattle.expression_reader.specs.Rules.{Lang}
use Rattle.expression_reader.specs.Reference as p
use Rattle.expression_reader.specs.Reference.{Parser, Takes}
use Rattle.expression_reader.proofs.TokenRules.{In}
use Rattle.expression_reader.proofs.PartRules.{good_behind_comma}
use Rattle.expression_reader.proofs.ExpressionRules.{begins_expression, good_operator, good_factor, good_product, good_comparison, good_both, good_inside, good_outermost}

pub argument_takes : (room : ℕ) → Takes (p.behind_comma (p.outermost room))
argument_takes room = shorter (good_behind_comma (good_outermost room 0))

term_takes_by : {x n : ℕ} {ip : Parser (Expr Name)} {il : Lang (Expr Name)} {cont : Terminal → Bool}
    (lv : Grouping) → In x n ip il false begins_expression cont → Takes (p.term (p.operator lv) ip)
unfolding p.term
term_takes_by {cont = cont} lv h = shorter (good_then (good_operator lv) (λ m. good_made (λ a. (m, a)) h)
    (fit_any symbols false begins_expression cont))

pub term_takes : (lv : Grouping) (room : ℕ) → Takes (p.term (p.operator lv) (p.between lv (p.inside room)))
term_takes grouping.Either room = term_takes_by grouping.Either (good_both (good_inside room 0))
term_takes grouping.Both room = term_takes_by grouping.Both (good_comparison (good_inside room 0))
term_takes grouping.Sum room = term_takes_by grouping.Sum (good_product (good_inside room 0))
term_takes grouping.Product room = term_takes_by grouping.Product (good_factor (good_inside room 0))
