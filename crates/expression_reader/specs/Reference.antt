-- A bridge from the code to the grammar, and no part of a promise of `read` but one (`by_rule`): what each
-- reading function does, rule by rule of Rules. It chooses by the next token, within the limits, and the laws
-- of proofs/ say that it reads what its rule says, or refuses it with the first fault. This project's own.
use Rattle.std.specs.Prelude.{◌≡◌, ◌<◌, length, Ok, ℕ, zero, suc, ◌||◌, pos, Bool, true, false, List, [], ◌∷◌}
use Rattle.std.specs.Prelude.{Option, Some, None}
use Rattle.hh_base.specs.declared.keyword.Keyword.{Keyword}
use Rattle.hh_base.specs.declared.keyword.Keyword.TheVariants as word
use Rattle.module_token.specs.declared.punct.Punct.{Punct}
use Rattle.module_token.specs.declared.punct.Punct.TheVariants as mark
use Rattle.host_expr.specs.declared.expr.Expr.{Expr}
use Rattle.host_expr.specs.declared.expr.ExprNode.TheVariants as leaf
use Rattle.host_expr.specs.declared.expr.Op.TheVariants as op
use Rattle.host_expr.specs.declared.expr.Rel.TheVariants as rel
use Rattle.module_tree.specs.declared.source.NameAt.{NameAt}
use Rattle.module_tree.specs.declared.source.ExprAt.{ExprAt}
use Rattle.module_tree.specs.declared.limits.TheConstants.{COUNT_LIMIT}
use Rattle.grammar.specs.Fault.{Fault, OutOfRange}
use Rattle.grammar.specs.Parser as parser
use Rattle.grammar.specs.Parser.{Unread, ◌>>=◌, ◌>>◌, pure, if_next, many, closed, take}
use Rattle.expression_reader.specs.declared.terminal.Terminal.{Terminal}
use Rattle.expression_reader.specs.declared.terminal.Terminal.TheVariants as terminal
use Rattle.expression_reader.specs.declared.operator.Grouping.{Grouping}
use Rattle.expression_reader.specs.declared.operator.Grouping.TheVariants as grouping
use Rattle.expression_reader.specs.declared.operator.Operator.{Operator}
use Rattle.expression_reader.specs.declared.operator.Operator.TheVariants as sign
use Rattle.expression_reader.specs.declared.operator.Access.{Access}
use Rattle.expression_reader.specs.declared.operator.Access.TheVariants as reading
use Rattle.grammar.specs.Tokens.{is}
use Rattle.expression_reader.specs.Terminals.{symbols, is_name, is_punct, is_in_round}
use Rattle.expression_reader.specs.Trees.{Name, TextAt, name_at, node, expr_at, accessed, Term, Branches}
use Rattle.expression_reader.specs.Trees.{chained, compared, chosen}
use Rattle.expression_reader.specs.Rules.{is_quoted, is_number, largest}

abbrev pub Parser : Type 0 → Type 0
Parser A = parser.Parser Terminal A

-- what is read by it leaves fewer tokens than there were
abbrev pub Takes : {A : Type 0} → Parser A → Type 0
Takes {A} item = (i : Unread Terminal) (q : A × Unread Terminal) → item i ≡ Ok q
    → length q.1.rest < length i.rest

-- ---- tokens

abbrev pub keyword : Keyword → Parser ℕ
keyword which = take symbols (terminal.Keyword which)

abbrev pub punct : Punct → Parser ℕ
punct which = take symbols (terminal.Punct which)

abbrev pub name : Parser TextAt
name = parser.name is_name

abbrev pub named : Parser (NameAt Name)
named = do
  written ← name
  pure (name_at written)

abbrev pub quoted : Parser TextAt
quoted = parser.name is_quoted

-- a number within these bounds. Any other is refused as this fault
abbrev pub number : ℕ → ℕ → Fault → Parser (ℕ × ℕ)
number least most fault = parser.ranged is_number least most fault (λ place text value. (place, value))

-- how often something is waited for
abbrev pub how_often : Parser (ℕ × ℕ)
how_often = number 1 COUNT_LIMIT (OutOfRange 1 COUNT_LIMIT)

-- the number of a leaf
abbrev pub leaf_number : Parser (ℕ × ℕ)
leaf_number = number 0 largest (OutOfRange 0 largest)

-- ---- parts

abbrev pub some : {A : Type 0} → Parser A → Parser (Option A)
some part = do
  found ← part
  pure (Some found)

-- once where the next token passes the test
abbrev pub optional : {A : Type 0} → (Terminal → Bool) → Parser A → Parser (Option A)
optional test part = if_next test (some part) (pure None)

abbrev pub behind_comma : {A : Type 0} → Parser A → Parser A
behind_comma item = do
  punct mark.Comma
  item

-- one or more, with commas between them
unfoldable pub listed : {A : Type 0} → Parser A → Parser (List A)
listed item = do
  first ← item
  others ← many (is_punct mark.Comma) (behind_comma item)
  pure (first ∷ others)

-- the same, or none
unfoldable pub listed_or_none : {A : Type 0} → Parser A → Parser (List A)
listed_or_none item = if_next is_in_round (listed item) (pure [])

unfoldable pub in_round : {A : Type 0} → (ℕ → Parser A) → ℕ → Parser A
in_round part room = parser.opened symbols room (terminal.Punct mark.LeftParen)
    (λ left place. do found ← part left; punct mark.RightParen; pure found)

unfoldable pub in_curly : {A : Type 0} → (ℕ → Parser A) → ℕ → Parser A
in_curly part room = parser.opened symbols room (terminal.Punct mark.LeftBrace)
    (λ left place. do found ← part left; punct mark.RightBrace; pure found)

-- ---- expressions, by what stands in round brackets

unfoldable pub number_leaf : Parser (Expr Name)
number_leaf = do
  written ← parser.counted symbols leaf_number
  pure (node written.0 (leaf.Int (pos written.1)))

unfoldable pub truth_leaf : Keyword → Bool → Parser (Expr Name)
truth_leaf which value = do
  place ← parser.counted_token symbols (terminal.Keyword which)
  pure (node place (leaf.Bool value))

unfoldable pub text_leaf : Parser (Expr Name)
text_leaf = do
  written ← parser.counted symbols quoted
  pure (node written.0 (leaf.Text written.1))

abbrev pub access_by : Terminal → Access → Parser Access
access_by which what = do
  take symbols which
  pure what

unfoldable pub access : Parser Access
access =
    if_next (is symbols terminal.Now) (access_by terminal.Now reading.Now) (
    if_next (is symbols terminal.Pre) (access_by terminal.Pre reading.Pre) (
    if_next (is symbols terminal.NowVal) (access_by terminal.NowVal reading.NowVal) (
    access_by terminal.PreVal reading.PreVal)))

abbrev pub behind_dot : Parser Access
behind_dot = do
  punct mark.Dot
  access

unfoldable pub behind_name : Parser Access
behind_name = if_next (is_punct mark.Dot) behind_dot (pure reading.Parameter)

-- a name with its dot and word is one leaf
unfoldable pub name_leaf : Parser (Expr Name)
name_leaf = do
  read ← parser.counted symbols name
  what ← behind_name
  pure (node read.0 (accessed what read.1))

abbrev pub operand_by : Parser (Expr Name) → Option Terminal → Parser (Expr Name)
operand_by inside (Some terminal.Number) = number_leaf
operand_by inside (Some (terminal.Keyword word.True)) = truth_leaf word.True true
operand_by inside (Some (terminal.Keyword word.False)) = truth_leaf word.False false
operand_by inside (Some terminal.Quoted) = text_leaf
operand_by inside (Some (terminal.Punct k)) = inside
operand_by inside (Some (terminal.Keyword k)) = inside
operand_by inside (Some _) = name_leaf
operand_by inside None = inside

unfoldable pub operand : Parser (Expr Name) → Parser (Expr Name)
operand inside = λ i. operand_by inside (parser.kind i) i

unfoldable pub negated : Parser (Expr Name) → Parser (Expr Name)
negated inside = do
  place ← parser.counted_token symbols (terminal.Punct mark.Not)
  operand ← operand inside
  pure (node place (leaf.Not operand))

unfoldable pub negative : Parser (Expr Name) → Parser (Expr Name)
negative inside = do
  place ← parser.counted_token symbols (terminal.Punct mark.Minus)
  operand ← operand inside
  pure (node place (leaf.Neg operand))

unfoldable pub factor : Parser (Expr Name) → Parser (Expr Name)
factor inside = if_next (is_punct mark.Not) (negated inside) (if_next (is_punct mark.Minus) (negative inside)
    (operand inside))

unfoldable pub binary : Punct → Operator → Parser (ℕ × Operator)
binary which operator = do
  place ← parser.counted_token symbols (terminal.Punct which)
  pure (place, operator)

unfoldable pub operator : Grouping → Parser (ℕ × Operator)
operator grouping.Either = binary mark.Or sign.Or
operator grouping.Both = binary mark.And sign.And
operator grouping.Sum = if_next (is_punct mark.Plus) (binary mark.Plus (sign.Arith op.Add))
    (binary mark.Minus (sign.Arith op.Sub))
operator grouping.Product =
    if_next (is_punct mark.Star) (binary mark.Star (sign.Arith op.Mul)) (
    if_next (is_punct mark.Slash) (binary mark.Slash (sign.Arith op.Div)) (
    binary mark.Percent (sign.Arith op.Rem)))

unfoldable pub relation : Parser (ℕ × Operator)
relation =
    if_next (is_punct mark.EqualEqual) (binary mark.EqualEqual (sign.Compare rel.Eq)) (
    if_next (is_punct mark.NotEqual) (binary mark.NotEqual (sign.Compare rel.Ne)) (
    if_next (is_punct mark.Less) (binary mark.Less (sign.Compare rel.Lt)) (
    if_next (is_punct mark.LessEqual) (binary mark.LessEqual (sign.Compare rel.Le)) (
    if_next (is_punct mark.Greater) (binary mark.Greater (sign.Compare rel.Gt)) (
    binary mark.GreaterEqual (sign.Compare rel.Ge))))))

-- the operators of each level, and those that compare
abbrev pub operates : Grouping → Terminal → Bool
operates grouping.Either a = is_punct mark.Or a
operates grouping.Both a = is_punct mark.And a
operates grouping.Sum a = is_punct mark.Plus a || is_punct mark.Minus a
operates grouping.Product a = is_punct mark.Star a || (is_punct mark.Slash a || is_punct mark.Percent a)

abbrev pub relates : Terminal → Bool
relates a =
    is_punct mark.EqualEqual a || (is_punct mark.NotEqual a ||
    (is_punct mark.Less a || (is_punct mark.LessEqual a
    || (is_punct mark.Greater a || is_punct mark.GreaterEqual a))))

-- an operator, and the operand behind it
unfoldable pub term : Parser (ℕ × Operator) → Parser (Expr Name) → Parser Term
term operator between = do
  joining ← operator
  right ← between
  pure (joining, right)

unfoldable pub chain : Grouping → Parser (Expr Name) → Parser (Expr Name)
chain group between = do
  first ← between
  terms ← many (operates group) (term (operator group) between)
  pure (chained first terms)

abbrev pub product : Parser (Expr Name) → Parser (Expr Name)
product inside = chain grouping.Product (factor inside)

abbrev pub sum : Parser (Expr Name) → Parser (Expr Name)
sum inside = chain grouping.Sum (product inside)

unfoldable pub comparison : Parser (Expr Name) → Parser (Expr Name)
comparison inside = do
  left ← sum inside
  right ← optional relates (term relation (sum inside))
  pure (compared left right)

abbrev pub both : Parser (Expr Name) → Parser (Expr Name)
both inside = chain grouping.Both (comparison inside)

abbrev pub either : Parser (Expr Name) → Parser (Expr Name)
either inside = chain grouping.Either (both inside)

-- what stands between the operators of a level
abbrev pub between : Grouping → Parser (Expr Name) → Parser (Expr Name)
between grouping.Either inside = both inside
between grouping.Both inside = comparison inside
between grouping.Sum inside = product inside
between grouping.Product inside = factor inside

unfoldable pub branches : Parser (Expr Name) → Parser Branches
branches inside = do
  place ← parser.counted_token symbols (terminal.Punct mark.Question)
  first ← either inside
  punct mark.Colon
  second ← either inside
  pure (place, first, second)

unfoldable pub expression : Parser (Expr Name) → Parser (Expr Name)
expression inside = do
  test ← either inside
  choice ← optional (is_punct mark.Question) (branches inside)
  pure (chosen test choice)

unfoldable pub inside : ℕ → Parser (Expr Name)
inside zero = closed symbols (terminal.Punct mark.LeftParen)
inside (suc room) = in_round (λ left. expression (inside room)) (suc room)

-- an outermost expression, and the place of its first token
unfoldable pub outermost : ℕ → Parser (ExprAt Name)
outermost room = do
  found ← parser.outer (parser.placed (expression (inside room)))
  pure (expr_at found)

unfoldable pub bracketed_test : ℕ → Parser (ExprAt Name)
bracketed_test room = in_round outermost room

abbrev pub arguments : ℕ → Parser (List (ExprAt Name))
arguments left = listed_or_none (outermost left)
