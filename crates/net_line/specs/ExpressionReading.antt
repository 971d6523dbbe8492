-- The reading of expressions. A bridge to the reader, and no part of a promise. (This project's own.)
use Rattle.std.specs.Prelude.{◌≡◌, ℕ, zero, suc, ◌==◌, ◌||◌, Bool, true, false, if◌then◌else◌}
use Rattle.std.specs.Prelude.{Option, Some, None, List, [], ◌∷◌, codes}
use Rattle.std.specs.Str.{bytes_eq}
use Rattle.hh_base.specs.declared.value.Pos.{Pos}
use Rattle.hh_base.specs.declared.value.Value.{Value}
use Rattle.hh_base.specs.declared.value.Value.TheVariants as value
use Rattle.host_expr.specs.declared.expr.Op.TheVariants as op
use Rattle.host_expr.specs.declared.expr.Rel.TheVariants as rel
use Rattle.host_expr.specs.declared.expr.Expr.{Expr, roll-Expr}
use Rattle.host_expr.specs.declared.expr.ExprNode.{ExprNode}
use Rattle.host_expr.specs.declared.expr.ExprNode.TheVariants as node
use Rattle.net_line.specs.declared.word.Access.{Access}
use Rattle.net_line.specs.declared.word.Access.TheVariants as access
use Rattle.net_line.specs.declared.word.Unary.{Unary}
use Rattle.net_line.specs.declared.word.Unary.TheVariants as unary
use Rattle.net_line.specs.declared.word.Binary.{Binary}
use Rattle.net_line.specs.declared.word.Binary.TheVariants as binary
use Rattle.net_line.specs.declared.word.NodeWord.{NodeWord}
use Rattle.net_line.specs.declared.word.NodeWord.TheVariants as word
use Rattle.net_line.specs.Decoding.{number_of}
use Rattle.net_line.specs.Literals.{literal_of, starts_number}
use Rattle.hh_base.specs.Bytes.{quote}
use Rattle.net_line.specs.Reading.{Reader, ◌>>=◌, pure, lift, part, part_as}

-- an operator of arithmetic at a place
abbrev pub placed_word : List ℕ → ℕ → Option NodeWord
placed_word w p =
    if bytes_eq w (codes "add@") then Some (word.Binary (binary.Arith op.Add p))
    else if bytes_eq w (codes "sub@") then Some (word.Binary (binary.Arith op.Sub p))
    else if bytes_eq w (codes "mul@") then Some (word.Binary (binary.Arith op.Mul p))
    else if bytes_eq w (codes "div@") then Some (word.Binary (binary.Arith op.Div p))
    else if bytes_eq w (codes "rem@") then Some (word.Binary (binary.Arith op.Rem p))
    else if bytes_eq w (codes "neg@") then Some (word.Unary (unary.Neg p))
    else None

abbrev pub at_place : List ℕ → Option ℕ → Option NodeWord
at_place w (Some p) = placed_word w p
at_place w None = None

abbrev pub placed_of : List ℕ → Option NodeWord
placed_of (a ∷ b ∷ c ∷ d ∷ digits) = at_place (a ∷ b ∷ c ∷ d ∷ []) (number_of digits)
placed_of _ = None

abbrev pub access_of : List ℕ → Option NodeWord
access_of w =
    if bytes_eq w (codes "now") then Some (word.Reads access.Now)
    else if bytes_eq w (codes "pre") then Some (word.Reads access.Pre)
    else if bytes_eq w (codes "nowval") then Some (word.Reads access.NowVal)
    else if bytes_eq w (codes "preval") then Some (word.Reads access.PreVal)
    else if bytes_eq w (codes "arg") then Some (word.Reads access.Arg)
    else None

abbrev pub logic_of : List ℕ → Option NodeWord
logic_of w =
    if bytes_eq w (codes "not") then Some (word.Unary unary.Not)
    else if bytes_eq w (codes "all") then Some (word.Binary binary.And)
    else if bytes_eq w (codes "any") then Some (word.Binary binary.Or)
    else if bytes_eq w (codes "choose") then Some word.Choose
    else None

abbrev pub relation_of : List ℕ → Option NodeWord
relation_of w =
    if bytes_eq w (codes "eq") then Some (word.Binary (binary.Compare rel.Eq))
    else if bytes_eq w (codes "ne") then Some (word.Binary (binary.Compare rel.Ne))
    else if bytes_eq w (codes "lt") then Some (word.Binary (binary.Compare rel.Lt))
    else if bytes_eq w (codes "le") then Some (word.Binary (binary.Compare rel.Le))
    else if bytes_eq w (codes "gt") then Some (word.Binary (binary.Compare rel.Gt))
    else if bytes_eq w (codes "ge") then Some (word.Binary (binary.Compare rel.Ge))
    else None

-- the first that is there; what is no word may be a literal
abbrev pub first_found : Option NodeWord → Option NodeWord → Option NodeWord
first_found (Some w) other = Some w
first_found None other = other

abbrev pub or_literal : Option NodeWord → NodeWord
or_literal (Some w) = w
or_literal None = word.Literal

abbrev pub starts_literal : List ℕ → Bool
starts_literal [] = false
starts_literal (b ∷ bs) = (b == quote) || starts_number b

abbrev pub spelled_node : List ℕ → NodeWord
spelled_node w = or_literal (first_found (access_of w) (first_found (logic_of w) (first_found (relation_of w)
    (placed_of w))))

abbrev pub node_word : List ℕ → NodeWord
node_word w = if starts_literal w then word.Literal else spelled_node w

abbrev pub at_pos : ℕ → ExprNode ℕ → Expr ℕ
at_pos p e = roll-Expr ℕ (record { pos = record { 0 = p }; node = e })

abbrev pub constant : Value → Option (Expr ℕ)
constant value.Unit = None
constant (value.Int n) = Some (at_pos 0 (node.Int n))
constant (value.Bool b) = Some (at_pos 0 (node.Bool b))
constant (value.Text t) = Some (at_pos 0 (node.Text t))

abbrev pub constant_of : Option Value → Option (Expr ℕ)
constant_of (Some v) = constant v
constant_of None = None

abbrev pub accessed : Access → ℕ → Expr ℕ
accessed access.Now n = at_pos 0 (node.Now n)
accessed access.Pre n = at_pos 0 (node.Pre n)
accessed access.NowVal n = at_pos 0 (node.NowVal n)
accessed access.PreVal n = at_pos 0 (node.PreVal n)
accessed access.Arg n = at_pos 0 (node.Arg n)

abbrev pub of_one : Unary → Expr ℕ → Expr ℕ
of_one unary.Not a = at_pos 0 (node.Not a)
of_one (unary.Neg p) a = at_pos p (node.Neg a)

abbrev pub of_two : Binary → Expr ℕ → Expr ℕ → Expr ℕ
of_two (binary.Arith op p) a b = at_pos p (node.Arith op a b)
of_two (binary.Compare rel) a b = at_pos 0 (node.Compare rel a b)
of_two binary.And a b = at_pos 0 (node.And a b)
of_two binary.Or a b = at_pos 0 (node.Or a b)

-- an expression and how many leaves and operators more may stand, by how many may stand
abbrev pub Operand : Type 0
Operand = ℕ → Reader (Expr ℕ × ℕ)

abbrev pub of_three : Expr ℕ → Expr ℕ → Expr ℕ → Expr ℕ
of_three a b c = at_pos 0 (node.Choose a b c)

abbrev pub one_operand : Operand → Unary → Operand
one_operand operand u room = operand room >>= λ a. pure (of_one u a.0, a.1)

abbrev pub two_operands : Operand → Binary → Operand
two_operands operand o room = operand room >>= λ a. operand a.1 >>= λ b. pure (of_two o a.0 b.0, b.1)

abbrev pub three_operands : Operand → Operand
three_operands operand room =
    operand room >>= λ a. operand a.1 >>= λ b. operand b.1 >>= λ c. pure (of_three a.0 b.0 c.0, c.1)

abbrev pub with_operands : Operand → NodeWord → List ℕ → Operand
with_operands operand word.Literal w room = lift (constant_of (literal_of w)) >>= λ e. pure (e, room)
with_operands operand (word.Reads a) w room = part_as number_of >>= λ n. pure (accessed a n, room)
with_operands operand (word.Unary u) w room = one_operand operand u room
with_operands operand (word.Binary o) w room = two_operands operand o room
with_operands operand word.Choose w room = three_operands operand room

abbrev pub expression : ℕ → Operand
expression zero room = λ text. None
expression (suc depth) zero = λ text. None
expression (suc depth) (suc room) = part >>= λ w. with_operands (expression depth) (node_word w) w room
