-- Each rule of expressions is read as its language.
use Rattle.std.proofs.Common.{◌≡◌, ℕ, zero, suc, ◌<◌, pos, Bool, true, false, Option, Some, None, refl, sym, subst, arith}
use Rattle.std.specs.Prelude.{◌||◌}
use Rattle.hh_base.specs.declared.keyword.Keyword.{Keyword}
use Rattle.hh_base.specs.declared.keyword.Keyword.TheVariants as w
use Rattle.module_token.specs.declared.punct.Punct.{Punct}
use Rattle.module_token.specs.declared.punct.Punct.TheVariants as k
use Rattle.host_expr.specs.declared.expr.Expr.{Expr}
use Rattle.host_expr.specs.declared.expr.ExprNode.TheVariants as e
use Rattle.host_expr.specs.declared.expr.Op.TheVariants as op
use Rattle.host_expr.specs.declared.expr.Rel.TheVariants as rel
use Rattle.grammar.specs.Tokens.{is, is_plain, never}
use Rattle.grammar.specs.Fault.{OutOfRange}
use Rattle.grammar.specs.Language as l
use Rattle.grammar.specs.Parser.{Unread, ◌>>=◌, pure, kind, if_next, sees, too_deep}
use Rattle.grammar.proofs.Bundle.{Sample}
use Rattle.grammar.proofs.Sequences.{good_seq, good_then, good_pure, fit, or_then, sample_seq, sample_none, sample_pure, sample_token, sample_left, sample_right, sample_outer}
use Rattle.grammar.proofs.OneToken.{single_ranged, single_name, good_counted_token, good_take, good_open, good_close, good_counted}
use Rattle.grammar.proofs.Choices.{good_or, good_by, repeats}
use Rattle.grammar.proofs.Combined.{fit_any, good_made, good_several}
use Rattle.grammar.proofs.Nesting.{deeper, good_nothing, good_closed, taken_first}
use Rattle.grammar.proofs.Outermost.{good_outer}
use Rattle.grammar.proofs.Places.{placed_sample, good_placed}
use Rattle.expression_reader.specs.declared.terminal.Terminal.{Terminal}
use Rattle.expression_reader.specs.declared.terminal.Terminal.TheVariants as t
use Rattle.expression_reader.specs.declared.operator.Grouping.{Grouping}
use Rattle.expression_reader.specs.declared.operator.Grouping.TheVariants as grouping
use Rattle.expression_reader.specs.declared.operator.Operator.{Operator}
use Rattle.expression_reader.specs.declared.operator.Operator.TheVariants as o
use Rattle.expression_reader.specs.declared.operator.Access.{Access}
use Rattle.expression_reader.specs.declared.operator.Access.TheVariants as reading
use Rattle.expression_reader.specs.Terminals.{symbols, is_name, is_keyword, is_punct}
use Rattle.expression_reader.specs.Trees.{Name, node, expr_at, accessed, chained, compared, chosen}
use Rattle.expression_reader.specs.Rules as g
use Rattle.expression_reader.specs.Rules.{Lang, is_quoted, is_number, largest}
use Rattle.expression_reader.specs.Reference as p
use Rattle.expression_reader.specs.Reference.{Parser, operates, relates}
use Rattle.expression_reader.proofs.TokenRules.{In, Out, good_punct}
use Rattle.expression_reader.proofs.PartRules.{good_optional, good_in_round}

-- ---- leaves

module _ {x n : ℕ} where
  good_number_leaf : In x n p.number_leaf g.number_leaf false is_number never
  unfolding p.number_leaf
  good_number_leaf = good_then
      (good_counted (single_ranged is_number 0 largest (OutOfRange 0 largest)
      (λ place text value. (place, value)) (refl, refl) 0 refl t.Number refl) refl)
      (λ m. good_pure (node m.0 (e.Int (pos m.1))) never) refl

  good_truth_leaf : (word : Keyword) (b : Bool) → In x n (p.truth_leaf word b) (g.truth_leaf word b) false
      (is_keyword word) never
  unfolding p.truth_leaf
  good_truth_leaf word b = good_made (λ m. node m (e.Bool b)) (good_counted_token (t.Keyword word) refl)

  good_text_leaf : In x n p.text_leaf g.text_leaf false is_quoted never
  unfolding p.text_leaf
  good_text_leaf = good_then (good_counted (single_name is_quoted t.Quoted refl) refl)
      (λ q. good_pure (node q.0 (e.Text q.1)) never) refl

  good_access_by : (a : Terminal) (what : Access) → is_plain symbols a ≡ true
      → In x n (p.access_by a what) (g.access_by a what) false (is symbols a) never
  good_access_by a what plain = good_made (λ m. what) (good_take a plain)

  good_access : In x n p.access g.access false (λ a. is symbols t.Now a
      || (is symbols t.Pre a || (is symbols t.NowVal a || is symbols t.PreVal a))) never
  unfolding p.access
  good_access = good_or (is symbols t.Now) never (good_access_by t.Now reading.Now refl)
      (good_or (is symbols t.Pre) never (good_access_by t.Pre reading.Pre refl)
      (good_or (is symbols t.NowVal) never (good_access_by t.NowVal reading.NowVal refl)
      (good_access_by t.PreVal reading.PreVal refl) refl) refl) refl

  good_behind_name : In x n p.behind_name (l.◌or◌ g.behind_dot (l.pure reading.Parameter)) true
      (λ a. is_punct k.Dot a || never a) (is_punct k.Dot)
  unfolding p.behind_name
  good_behind_name = good_or (is_punct k.Dot) (is_punct k.Dot)
      (good_then (good_punct k.Dot refl) (λ m. good_access) refl)
      (good_pure reading.Parameter (is_punct k.Dot)) refl

  good_name_leaf : In x n p.name_leaf g.name_leaf false is_name (is_punct k.Dot)
  unfolding p.name_leaf
  good_name_leaf = good_then (good_counted (single_name is_name t.Word refl) refl)
      (λ m. good_seq good_behind_name (λ a. good_pure (node m.0 (accessed a m.1)) (is_punct k.Dot)) refl) refl

  -- ---- operators

  good_binary : (mark : Punct) (operator : Operator) → is_plain symbols (t.Punct mark) ≡ true
      → In x n (p.binary mark operator) (g.binary mark operator) false (is_punct mark) never
  unfolding p.binary
  good_binary mark operator plain = good_made (λ m. (m, operator)) (good_counted_token (t.Punct mark) plain)

  pub good_operator : (lv : Grouping) → In x n (p.operator lv) (g.operator lv) false (operates lv) never
  unfolding p.operator
  good_operator grouping.Either = good_binary k.Or o.Or refl
  good_operator grouping.Both = good_binary k.And o.And refl
  good_operator grouping.Sum = good_or (is_punct k.Plus) never (good_binary k.Plus (o.Arith op.Add) refl)
      (good_binary k.Minus (o.Arith op.Sub) refl) refl
  good_operator grouping.Product = good_or (is_punct k.Star) never (good_binary k.Star (o.Arith op.Mul) refl)
      (good_or (is_punct k.Slash) never (good_binary k.Slash (o.Arith op.Div) refl)
      (good_binary k.Percent (o.Arith op.Rem) refl) refl) refl

  good_relation : In x n p.relation g.relation false relates never
  unfolding p.relation
  good_relation = good_or (is_punct k.EqualEqual) never (good_binary k.EqualEqual (o.Compare rel.Eq) refl)
      (good_or (is_punct k.NotEqual) never (good_binary k.NotEqual (o.Compare rel.Ne) refl)
      (good_or (is_punct k.Less) never (good_binary k.Less (o.Compare rel.Lt) refl)
      (good_or (is_punct k.LessEqual) never (good_binary k.LessEqual (o.Compare rel.Le) refl)
      (good_or (is_punct k.Greater) never (good_binary k.Greater (o.Compare rel.Gt) refl)
      (good_binary k.GreaterEqual (o.Compare rel.Ge) refl) refl) refl) refl) refl) refl

-- ---- by what stands in round brackets

-- what begins an operand, and what may not stand behind the rules of expressions, from the tightest
abbrev atoms : Terminal → Bool
atoms a = is_number a
    || (is_keyword w.True a
    || (is_keyword w.False a || (is_quoted a || (is_name a || is_punct k.LeftParen a))))

abbrev pub begins_expression : Terminal → Bool
begins_expression a = is_punct k.Not a || (is_punct k.Minus a || atoms a)

abbrev behind_product : Terminal → Bool
behind_product a = is_punct k.Dot a || operates grouping.Product a

abbrev behind_sum : Terminal → Bool
behind_sum a = behind_product a || operates grouping.Sum a

abbrev behind_comparison : Terminal → Bool
behind_comparison a = behind_sum a || relates a

abbrev behind_conjunction : Terminal → Bool
behind_conjunction a = behind_comparison a || operates grouping.Both a

abbrev behind_disjunction : Terminal → Bool
behind_disjunction a = behind_conjunction a || operates grouping.Either a

abbrev pub behind_expression : Terminal → Bool
behind_expression a = behind_disjunction a || is_punct k.Question a

atom_as : (inside : Parser (Expr Name)) (i : Unread Terminal) (a : Option Terminal) → kind i ≡ a
    → p.operand inside i ≡ if_next is_number p.number_leaf (if_next (is_keyword w.True)
    (p.truth_leaf w.True true) (if_next (is_keyword w.False) (p.truth_leaf w.False false)
    (if_next is_quoted p.text_leaf (if_next is_name p.name_leaf inside)))) i
unfolding p.operand sees
atom_as inside i (Some (t.Keyword w.True)) h = rw h refl
atom_as inside i (Some (t.Keyword w.False)) h = rw h refl
atom_as inside i (Some (t.Keyword _)) h = rw h refl
atom_as inside i (Some (t.Punct k.LeftParen)) h = rw h refl
atom_as inside i (Some (t.Punct _)) h = rw h refl
atom_as inside i _ h = rw h refl

abbrev pub Inside : (x n : ℕ) → Parser (Expr Name) → Lang (Expr Name) → Type 0
Inside x n ip il = In x n ip il false (is_punct k.LeftParen) never

-- operators of a level, and operands
good_chain : {x n : ℕ} {ip : Parser (Expr Name)} {il : Lang (Expr Name)} {first c1 : Terminal → Bool}
    (lv : Grouping) (cont : Terminal → Bool) → In x n ip il false first c1
    → repeats symbols (operates lv) (operates lv) c1 cont ≡ true
    → fit symbols true (or_then true (operates lv) never) c1 cont ≡ true
    → In x n (p.chain lv ip) (g.chain (g.operator lv) il) false first cont
unfolding p.chain p.term
good_chain {first = first} {c1} lv cont h e1 e2 = good_several chained (operates lv) cont h
    (good_then (good_operator lv) (λ m. good_made (λ a. (m, a)) h) (fit_any symbols false first c1)) e1 e2

module _ {x n : ℕ} {ip : Parser (Expr Name)} {il : Lang (Expr Name)} (h : Inside x n ip il) where
  good_operand : In x n (p.operand ip) (g.operand il) false atoms (is_punct k.Dot)
  good_operand = good_by
      (if_next is_number p.number_leaf (if_next (is_keyword w.True) (p.truth_leaf w.True true)
      (if_next (is_keyword w.False) (p.truth_leaf w.False false)
      (if_next is_quoted p.text_leaf (if_next is_name p.name_leaf ip))))) (p.operand ip) (g.operand il)
      (λ i. atom_as ip i (kind i) refl) (good_or is_number (is_punct k.Dot) good_number_leaf
      (good_or (is_keyword w.True) (is_punct k.Dot) (good_truth_leaf w.True true)
      (good_or (is_keyword w.False) (is_punct k.Dot) (good_truth_leaf w.False false)
      (good_or is_quoted (is_punct k.Dot) good_text_leaf (good_or is_name
      (is_punct k.Dot) good_name_leaf h refl) refl) refl) refl) refl)

  good_negated : In x n (p.negated ip) (g.negated il) false (is_punct k.Not) (is_punct k.Dot)
  unfolding p.negated
  good_negated = good_then (good_counted_token (t.Punct k.Not) refl)
      (λ m. good_then good_operand (λ a. good_pure (node m (e.Not a)) (is_punct k.Dot)) refl) refl

  good_negative : In x n (p.negative ip) (g.negative il) false (is_punct k.Minus) (is_punct k.Dot)
  unfolding p.negative
  good_negative = good_then (good_counted_token (t.Punct k.Minus) refl)
      (λ m. good_then good_operand (λ a. good_pure (node m (e.Neg a)) (is_punct k.Dot)) refl) refl

  pub good_factor : In x n (p.factor ip) (g.factor il) false begins_expression (is_punct k.Dot)
  unfolding p.factor
  good_factor = good_or (is_punct k.Not) (is_punct k.Dot) good_negated
      (good_or (is_punct k.Minus) (is_punct k.Dot) good_negative good_operand refl) refl

  pub good_product : In x n (p.product ip) (g.product il) false begins_expression behind_product
  good_product = good_chain grouping.Product behind_product good_factor refl refl

  good_sum : In x n (p.sum ip) (g.sum il) false begins_expression behind_sum
  good_sum = good_chain grouping.Sum behind_sum good_product refl refl

  pub good_comparison : In x n (p.comparison ip) (g.comparison il) false begins_expression behind_comparison
  unfolding p.comparison p.term
  good_comparison = good_then good_sum
      (λ a. good_seq (good_optional relates behind_comparison
      (good_then good_relation (λ m. good_made (λ b. (m, b)) good_sum) refl) refl)
      (λ b. good_pure (compared a b) behind_comparison) refl) refl

  pub good_both : In x n (p.both ip) (g.both il) false begins_expression behind_conjunction
  good_both = good_chain grouping.Both behind_conjunction good_comparison refl refl

  good_either : In x n (p.either ip) (g.either il) false begins_expression behind_disjunction
  good_either = good_chain grouping.Either behind_disjunction good_both refl refl

  good_branches : In x n (p.branches ip) (g.branches il) false (is_punct k.Question) behind_disjunction
  unfolding p.branches
  good_branches = good_then (good_counted_token (t.Punct k.Question) refl)
      (λ m. good_then good_either (λ a. good_then (good_punct k.Colon refl)
      (λ c. good_then good_either (λ b. good_pure (m, a, b) behind_disjunction) refl) refl) refl) refl

  good_expression : In x n (p.expression ip) (g.expression il) false begins_expression behind_expression
  unfolding p.expression
  good_expression = good_then good_either
      (λ a. good_seq (good_optional (is_punct k.Question) behind_expression good_branches refl)
      (λ b. good_pure (chosen a b) behind_expression) refl) refl

-- ---- brackets

sample_integer : Sample g.number_leaf
sample_integer = (good_number_leaf {x = 1} {n = 0}).sample (omega arith)

sample_chain : (lv : Grouping) (operand : Lang (Expr Name)) → Sample operand
    → Sample (g.chain (g.operator lv) operand)
sample_chain lv operand y = sample_seq operand y (λ a. sample_seq (l.many (g.term (g.operator lv) operand))
    (sample_none (g.term (g.operator lv) operand)) (λ more. sample_pure (chained a more)))

sample_optional : {A : Type 0} (part : Lang A) → Sample (g.optional part)
sample_optional part = sample_right (g.some part) (l.pure None) (sample_pure None)

sample_expr : (il : Lang (Expr Name)) → Sample (g.expression il)
sample_expr il =
    let unary : Sample (g.factor il) = sample_right (g.negated il) (l.◌or◌ (g.negative il) (g.operand il))
    (sample_right (g.negative il) (g.operand il) (sample_left g.number_leaf _ sample_integer)) in
    let sum : Sample (g.sum il) = sample_chain grouping.Sum (g.product il)
    (sample_chain grouping.Product (g.factor il) unary) in
    let comparison : Sample (g.comparison il) = sample_seq (g.sum il) sum
    (λ a. sample_seq _ (sample_optional (g.term g.relation (g.sum il))) (λ b. sample_pure (compared a b)))
    in
    sample_seq (g.either il) (sample_chain grouping.Either (g.both il)
    (sample_chain grouping.Both (g.comparison il) comparison))
    (λ a. sample_seq _ (sample_optional (g.branches il)) (λ b. sample_pure (chosen a b)))

-- an expression, and the bracket that closes
abbrev closed_behind : Parser (Expr Name) → Parser (Expr Name)
closed_behind part = ◌>>=◌ part (λ a. ◌>>=◌ (p.punct k.RightParen) (λ w. pure a))

pub good_inside : (n x : ℕ) → Inside x n (p.inside n) (g.inside (deeper n x))
unfolding p.inside p.in_round
good_inside zero zero = good_nothing (p.inside 0) (λ i. (too_deep symbols (t.Punct k.LeftParen) i, refl))
good_inside zero (suc x) = good_closed {al = symbols} (t.Punct k.LeftParen)
    (λ place. l.◌>>=◌ (g.expression (g.inside x)) (λ y. l.◌>>=◌ (g.punct k.RightParen) (λ w. l.pure y))) refl
    (let lt : 0 < suc x = omega arith in lt)
    (λ place. sample_seq (g.expression (g.inside x)) (sample_expr (g.inside x))
    (λ y. sample_seq (g.punct k.RightParen) (sample_token (t.Punct k.RightParen)) (λ w. sample_pure y)))
good_inside (suc n) x =
    subst (λ q. Inside x (suc n) q (g.inside (deeper (suc n) x)))
    (sym (taken_first symbols (t.Punct k.LeftParen) n (λ left place. closed_behind
    (p.expression (p.inside n)))))
    (good_then (good_open (t.Punct k.LeftParen) refl) (λ place. good_then (good_expression (good_inside n x))
    (λ y. good_then (good_close (t.Punct k.RightParen) refl) (λ w. good_pure y never) refl) refl) refl)

pub good_outermost : (n x : ℕ) → Out x n (p.outermost n) (g.outermost (deeper n x)) false begins_expression
    behind_expression
unfolding p.outermost
good_outermost n x = good_then (good_outer (good_placed (good_expression (good_inside n x))))
    (λ a. good_pure (expr_at a) behind_expression) refl

pub sample_outermost : (room : ℕ) → Sample (g.outermost room)
sample_outermost room =
    let first : Sample (l.placed (g.expression (g.inside room))) =
    placed_sample (g.expression (g.inside room)) begins_expression
    (good_expression (good_inside 0 room)).begins (sample_expr (g.inside room)) in
    sample_seq (l.outer (l.placed (g.expression (g.inside room))))
    (sample_outer (l.placed (g.expression (g.inside room))) first) (λ a. sample_pure (expr_at a))

pub good_test : (n x : ℕ) → Out x n (p.bracketed_test n) (g.test (deeper n x)) false (is_punct k.LeftParen) never
unfolding p.bracketed_test
good_test n x = good_in_round n x sample_outermost (λ m. good_outermost m x) refl
