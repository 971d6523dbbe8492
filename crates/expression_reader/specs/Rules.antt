-- The grammar of tokens, lists and expressions: each production stands over its rule, in the notation of
-- docs/LANGUAGE.md. The number `room` says how many brackets may still be opened. This project's own, after
-- HipHop.js.
use Rattle.std.specs.Prelude.{ℕ, zero, suc, ◌^◌, ◌-◌, pos, Bool, true, false, List, [], ◌∷◌, Option, Some, None}
use Rattle.hh_base.specs.declared.keyword.Keyword.{Keyword}
use Rattle.hh_base.specs.declared.keyword.Keyword.TheVariants as word
use Rattle.module_token.specs.declared.punct.Punct.{Punct}
use Rattle.module_token.specs.declared.punct.Punct.TheVariants as mark
use Rattle.host_expr.specs.declared.expr.Expr.{Expr}
use Rattle.host_expr.specs.declared.expr.ExprNode.TheVariants as leaf
use Rattle.host_expr.specs.declared.expr.Op.TheVariants as op
use Rattle.host_expr.specs.declared.expr.Rel.TheVariants as rel
use Rattle.module_tree.specs.declared.source.NameAt.{NameAt}
use Rattle.module_tree.specs.declared.source.ExprAt.{ExprAt}
use Rattle.grammar.specs.Language as language
use Rattle.grammar.specs.Language.{◌>>=◌, ◌>>◌, pure, ◌or◌, many, nothing}
use Rattle.expression_reader.specs.declared.terminal.Terminal.{Terminal}
use Rattle.expression_reader.specs.declared.terminal.Terminal.TheVariants as terminal
use Rattle.expression_reader.specs.declared.operator.Grouping.{Grouping}
use Rattle.expression_reader.specs.declared.operator.Grouping.TheVariants as grouping
use Rattle.expression_reader.specs.declared.operator.Operator.{Operator}
use Rattle.expression_reader.specs.declared.operator.Operator.TheVariants as sign
use Rattle.expression_reader.specs.declared.operator.Access.{Access}
use Rattle.expression_reader.specs.declared.operator.Access.TheVariants as reading
use Rattle.expression_reader.specs.Terminals.{is_name}
use Rattle.expression_reader.specs.Trees.{Name, TextAt, name_at, node, expr_at, accessed, Term, Branches}
use Rattle.expression_reader.specs.Trees.{chained, compared, chosen}

abbrev pub Lang : Type 0 → Type 1
Lang A = language.Lang Terminal A

-- ---- tokens

-- a keyword, which gives its place
abbrev pub keyword : Keyword → Lang ℕ
keyword which = language.token (terminal.Keyword which)

-- a punctuation mark, which gives its place
abbrev pub punct : Punct → Lang ℕ
punct which = language.token (terminal.Punct which)

-- NAME, which gives its place and its text
abbrev pub name : Lang TextAt
name = language.name is_name

abbrev pub is_quoted : Terminal → Bool
is_quoted terminal.Quoted = true
is_quoted _ = false

abbrev pub is_number : Terminal → Bool
is_number terminal.Number = true
is_number _ = false

-- TEXT, which gives its place and its value
abbrev pub quoted : Lang TextAt
quoted = language.name is_quoted

-- NAME, as where it stands
abbrev pub named : Lang (NameAt Name)
named = do
  written ← name
  pure (name_at written)

-- NUMBER within these bounds, which gives its place and its value
abbrev pub number : ℕ → ℕ → Lang (ℕ × ℕ)
number least most = language.ranged is_number least most (λ place text value. (place, value))

-- ---- parts

abbrev pub some : {A : Type 0} → Lang A → Lang (Option A)
some part = do
  found ← part
  pure (Some found)

-- part?
abbrev pub optional : {A : Type 0} → Lang A → Lang (Option A)
optional part = some part or pure None

-- "," item
abbrev pub behind_comma : {A : Type 0} → Lang A → Lang A
behind_comma item = do
  punct mark.Comma
  item

-- list(item)
abbrev pub listed : {A : Type 0} → Lang A → Lang (List A)
listed item = do
  first ← item
  others ← many (behind_comma item)
  pure (first ∷ others)

-- list(item)?
abbrev pub listed_or_none : {A : Type 0} → Lang A → Lang (List A)
listed_or_none item = listed item or pure []

-- "(" part ")"
abbrev pub in_round : {A : Type 0} → (ℕ → Lang A) → ℕ → Lang A
in_round part room = language.opened room (terminal.Punct mark.LeftParen)
    (λ left place. do found ← part left; punct mark.RightParen; pure found)

-- "{" part "}"
abbrev pub in_curly : {A : Type 0} → (ℕ → Lang A) → ℕ → Lang A
in_curly part room = language.opened room (terminal.Punct mark.LeftBrace)
    (λ left place. do found ← part left; punct mark.RightBrace; pure found)

-- ---- expressions, by what stands in round brackets

abbrev pub largest : ℕ
largest = 2 ^ 63 - 1

-- NUMBER
abbrev pub number_leaf : Lang (Expr Name)
number_leaf = do
  written ← language.counted (number 0 largest)
  pure (node written.0 (leaf.Int (pos written.1)))

-- "true" | "false", by the word
abbrev pub truth_leaf : Keyword → Bool → Lang (Expr Name)
truth_leaf which value = do
  place ← language.counted_token (terminal.Keyword which)
  pure (node place (leaf.Bool value))

-- TEXT
abbrev pub text_leaf : Lang (Expr Name)
text_leaf = do
  written ← language.counted quoted
  pure (node written.0 (leaf.Text written.1))

-- the word, and what it reads of a signal
abbrev pub access_by : Terminal → Access → Lang Access
access_by which what = do
  language.token which
  pure what

-- "now" | "pre" | "nowval" | "preval"
abbrev pub access : Lang Access
access =
    access_by terminal.Now reading.Now or access_by terminal.Pre reading.Pre
    or access_by terminal.NowVal reading.NowVal or access_by terminal.PreVal reading.PreVal

-- "." ("now" | "pre" | "nowval" | "preval")
abbrev pub behind_dot : Lang Access
behind_dot = do
  punct mark.Dot
  access

-- NAME ("." ("now" | "pre" | "nowval" | "preval"))?, which is one leaf
abbrev pub name_leaf : Lang (Expr Name)
name_leaf = do
  read ← language.counted name
  what ← behind_dot or pure reading.Parameter
  pure (node read.0 (accessed what read.1))

-- operand : NUMBER | "true" | "false" | TEXT | NAME ("." ("now" | "pre" | "nowval" | "preval"))?
--   | "(" expression ")"
abbrev pub operand : Lang (Expr Name) → Lang (Expr Name)
operand inside =
    number_leaf or truth_leaf word.True true or truth_leaf word.False false
    or text_leaf or name_leaf or inside

-- "!" operand
abbrev pub negated : Lang (Expr Name) → Lang (Expr Name)
negated inside = do
  place ← language.counted_token (terminal.Punct mark.Not)
  operand ← operand inside
  pure (node place (leaf.Not operand))

-- "-" operand
abbrev pub negative : Lang (Expr Name) → Lang (Expr Name)
negative inside = do
  place ← language.counted_token (terminal.Punct mark.Minus)
  operand ← operand inside
  pure (node place (leaf.Neg operand))

-- factor : ("!" | "-")? operand
abbrev pub factor : Lang (Expr Name) → Lang (Expr Name)
factor inside = negated inside or negative inside or operand inside

-- the mark, which stands for the operator
abbrev pub binary : Punct → Operator → Lang (ℕ × Operator)
binary which operator = do
  place ← language.counted_token (terminal.Punct which)
  pure (place, operator)

-- "||", "&&", "+" | "-", and "*" | "/" | "%", by what they group
abbrev pub operator : Grouping → Lang (ℕ × Operator)
operator grouping.Either = binary mark.Or sign.Or
operator grouping.Both = binary mark.And sign.And
operator grouping.Sum = binary mark.Plus (sign.Arith op.Add) or binary mark.Minus (sign.Arith op.Sub)
operator grouping.Product =
    binary mark.Star (sign.Arith op.Mul) or binary mark.Slash (sign.Arith op.Div)
    or binary mark.Percent (sign.Arith op.Rem)

-- "==" | "!=" | "<" | "<=" | ">" | ">="
abbrev pub relation : Lang (ℕ × Operator)
relation =
    binary mark.EqualEqual (sign.Compare rel.Eq) or binary mark.NotEqual (sign.Compare rel.Ne)
    or binary mark.Less (sign.Compare rel.Lt) or binary mark.LessEqual (sign.Compare rel.Le)
    or binary mark.Greater (sign.Compare rel.Gt) or binary mark.GreaterEqual (sign.Compare rel.Ge)

-- operator between
abbrev pub term : Lang (ℕ × Operator) → Lang (Expr Name) → Lang Term
term operator between = do
  joining ← operator
  right ← between
  pure (joining, right)

-- between (operator between)*
abbrev pub chain : Lang (ℕ × Operator) → Lang (Expr Name) → Lang (Expr Name)
chain operator between = do
  first ← between
  terms ← many (term operator between)
  pure (chained first terms)

-- product : factor (("*" | "/" | "%") factor)*
abbrev pub product : Lang (Expr Name) → Lang (Expr Name)
product inside = chain (operator grouping.Product) (factor inside)

-- sum : product (("+" | "-") product)*
abbrev pub sum : Lang (Expr Name) → Lang (Expr Name)
sum inside = chain (operator grouping.Sum) (product inside)

-- comparison : sum (("==" | "!=" | "<" | "<=" | ">" | ">=") sum)?
abbrev pub comparison : Lang (Expr Name) → Lang (Expr Name)
comparison inside = do
  left ← sum inside
  right ← optional (term relation (sum inside))
  pure (compared left right)

-- both : comparison ("&&" comparison)*
abbrev pub both : Lang (Expr Name) → Lang (Expr Name)
both inside = chain (operator grouping.Both) (comparison inside)

-- either : both ("||" both)*
abbrev pub either : Lang (Expr Name) → Lang (Expr Name)
either inside = chain (operator grouping.Either) (both inside)

-- "?" either ":" either
abbrev pub branches : Lang (Expr Name) → Lang Branches
branches inside = do
  place ← language.counted_token (terminal.Punct mark.Question)
  first ← either inside
  punct mark.Colon
  second ← either inside
  pure (place, first, second)

-- expression : either ("?" either ":" either)?
abbrev pub expression : Lang (Expr Name) → Lang (Expr Name)
expression inside = do
  test ← either inside
  choice ← optional (branches inside)
  pure (chosen test choice)

-- "(" expression ")", where so many brackets may be opened
abbrev pub inside : ℕ → Lang (Expr Name)
inside zero = nothing
inside (suc room) = in_round (λ left. expression (inside room)) (suc room)

-- expression, and the place of its first token. Its leaves and operators are counted from 1.
abbrev pub outermost : ℕ → Lang (ExprAt Name)
outermost room = do
  found ← language.outer (language.placed (expression (inside room)))
  pure (expr_at found)

-- test : "(" expression ")"
abbrev pub test : ℕ → Lang (ExprAt Name)
test room = in_round outermost room

-- list(expression)?
abbrev pub arguments : ℕ → Lang (List (ExprAt Name))
arguments left = listed_or_none (outermost left)
