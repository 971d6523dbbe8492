-- An expression in prefix form: the word of each node and behind it its operands from left to right, each
-- part with the space before it. (This project's own.)
use Rattle.std.specs.Prelude.{ℕ, List, ◌++◌, codes, decimal}
use Rattle.hh_base.specs.Literal.{printed as literal}
use Rattle.hh_base.specs.declared.value.Pos.{Pos}
use Rattle.hh_base.specs.declared.value.Value.TheVariants as value
use Rattle.host_expr.specs.declared.expr.Op.{Op}
use Rattle.host_expr.specs.declared.expr.Op.TheVariants as op
use Rattle.host_expr.specs.declared.expr.Rel.{Rel}
use Rattle.host_expr.specs.declared.expr.Rel.TheVariants as rel
use Rattle.host_expr.specs.Expression.{Expression, Int, Flag, Text, Now, Pre, NowVal, PreVal, Arg, Not}
use Rattle.host_expr.specs.Expression.{Neg, Arith, Compare, And, Or, Choose}
use Rattle.net_text.specs.Parts.{spaced, number}

abbrev pub op_word : Op → List ℕ
op_word op.Add = codes "add"
op_word op.Sub = codes "sub"
op_word op.Mul = codes "mul"
op_word op.Div = codes "div"
op_word op.Rem = codes "rem"

abbrev pub rel_word : Rel → List ℕ
rel_word rel.Eq = codes "eq"
rel_word rel.Ne = codes "ne"
rel_word rel.Lt = codes "lt"
rel_word rel.Le = codes "le"
rel_word rel.Gt = codes "gt"
rel_word rel.Ge = codes "ge"

-- an operator of arithmetic and its place in the input
abbrev pub placed_word : List ℕ → Pos → List ℕ
placed_word word p = word ++ codes "@" ++ decimal p.0

-- what stands for a node before its operands
abbrev pub node_word : Expression → List ℕ
node_word (Int n) = literal (value.Int n)
node_word (Flag b) = literal (value.Bool b)
node_word (Text t) = literal (value.Text t)
node_word (Now s) = codes "now" ++ number s
node_word (Pre s) = codes "pre" ++ number s
node_word (NowVal s) = codes "nowval" ++ number s
node_word (PreVal s) = codes "preval" ++ number s
node_word (Arg n) = codes "arg" ++ number n
node_word (Not a) = codes "not"
node_word (Neg p a) = placed_word (codes "neg") p
node_word (Arith p o a b) = placed_word (op_word o) p
node_word (Compare r a b) = rel_word r
node_word (And a b) = codes "all"
node_word (Or a b) = codes "any"
node_word (Choose a b c) = codes "choose"

-- the whole
abbrev pub expression_text : Expression → List ℕ
expression_text (Not a) = spaced (node_word (Not a)) ++ expression_text a
expression_text (Neg p a) = spaced (node_word (Neg p a)) ++ expression_text a
expression_text (Arith p o a b) =
    spaced (node_word (Arith p o a b)) ++ expression_text a ++ expression_text b
expression_text (Compare r a b) =
    spaced (node_word (Compare r a b)) ++ expression_text a ++ expression_text b
expression_text (And a b) = spaced (node_word (And a b)) ++ expression_text a ++ expression_text b
expression_text (Or a b) = spaced (node_word (Or a b)) ++ expression_text a ++ expression_text b
expression_text (Choose a b c) =
    spaced (node_word (Choose a b c)) ++ expression_text a ++ expression_text b ++ expression_text c
expression_text e = spaced (node_word e)
