-- The tokens of values and expressions, each as its text, with exactly the parentheses that are needed. This
-- project's own.
use Rattle.std.specs.Prelude.{ℕ, suc, Bool, ℤ, pos, negsuc, List, [], ◌∷◌, ◌++◌, codes, if◌then◌else◌}
use Rattle.std.specs.Fmt.{decimal}
use Rattle.hh_base.specs.Literal.{quoted}
use Rattle.hh_base.specs.declared.value.Value.{Value}
use Rattle.hh_base.specs.declared.value.Value.TheVariants as value
use Rattle.host_expr.specs.declared.expr.Op.{Op}
use Rattle.host_expr.specs.declared.expr.Op.TheVariants as op
use Rattle.host_expr.specs.declared.expr.Rel.{Rel}
use Rattle.host_expr.specs.declared.expr.Rel.TheVariants as rel
use Rattle.host_expr.specs.declared.expr.Expr.{Expr}
use Rattle.host_expr.specs.declared.expr.ExprNode.{ExprNode}
use Rattle.host_expr.specs.declared.expr.ExprNode.TheOpen as e
use Rattle.module_tree.specs.Parentheses.{Levelled, levelled, levelled_node}

-- the texts of tokens, in order
abbrev pub Lexemes : Type 0
Lexemes = List (List ℕ)

-- a number below zero is two tokens
abbrev pub tokens_of_integer : ℤ → Lexemes
tokens_of_integer (pos n) = decimal n ∷ []
tokens_of_integer (negsuc n) = codes "-" ∷ decimal (suc n) ∷ []

abbrev pub token_of_truth : Bool → List ℕ
token_of_truth b = if b then codes "true" else codes "false"

abbrev pub tokens_of_value : Value → Lexemes
tokens_of_value value.Unit = codes "unit" ∷ []
tokens_of_value (value.Int n) = tokens_of_integer n
tokens_of_value (value.Bool b) = token_of_truth b ∷ []
tokens_of_value (value.Text t) = quoted t ∷ []

abbrev pub token_of_op : Op → List ℕ
token_of_op op.Add = codes "+"
token_of_op op.Sub = codes "-"
token_of_op op.Mul = codes "*"
token_of_op op.Div = codes "/"
token_of_op op.Rem = codes "%"

abbrev pub token_of_rel : Rel → List ℕ
token_of_rel rel.Eq = codes "=="
token_of_rel rel.Ne = codes "!="
token_of_rel rel.Lt = codes "<"
token_of_rel rel.Le = codes "<="
token_of_rel rel.Gt = codes ">"
token_of_rel rel.Ge = codes ">="

abbrev pub in_parentheses : Lexemes → Lexemes
in_parentheses ts = codes "(" ∷ ts ++ codes ")" ∷ []

-- a signal's name, and the word that says what is read of it
abbrev pub tokens_of_read : List ℕ → List ℕ → Lexemes
tokens_of_read name word = name ∷ codes "." ∷ word ∷ []

-- a node, with the tokens of its operands as they stand in the text
abbrev pub node_step : e.ExprNode-F (List ℕ) Lexemes Lexemes → Lexemes
node_step (e.Int n) = tokens_of_integer n
node_step (e.Bool b) = token_of_truth b ∷ []
node_step (e.Text t) = quoted t ∷ []
node_step (e.Now n) = tokens_of_read n (codes "now")
node_step (e.Pre n) = tokens_of_read n (codes "pre")
node_step (e.NowVal n) = tokens_of_read n (codes "nowval")
node_step (e.PreVal n) = tokens_of_read n (codes "preval")
node_step (e.Arg n) = n ∷ []
node_step (e.Not a) = codes "!" ∷ a
node_step (e.Neg a) = codes "-" ∷ a
node_step (e.Arith o a b) = a ++ token_of_op o ∷ b
node_step (e.Compare r a b) = a ++ token_of_rel r ∷ b
node_step (e.And a b) = a ++ codes "&&" ∷ b
node_step (e.Or a b) = a ++ codes "||" ∷ b
node_step (e.Choose a b c) = a ++ (codes "?" ∷ b) ++ (codes ":" ∷ c)

-- the tokens of an expression, and its level
abbrev pub written : Expr (List ℕ) → Levelled Lexemes
written = levelled in_parentheses node_step

abbrev pub written_node : ExprNode (List ℕ) → Levelled Lexemes
written_node = levelled_node in_parentheses node_step

abbrev pub tokens_of_expression : Expr (List ℕ) → Lexemes
tokens_of_expression x = (written x).value
