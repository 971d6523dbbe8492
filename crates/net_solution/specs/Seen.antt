-- What is known of signals in a reaction of nets, and what an expression gives then. (This project's own.)
use Rattle.std.specs.Prelude.{◌≡◌, ℕ, Bool, true, cond, ◌&&◌, []}
use Rattle.hh_base.specs.declared.value.Value.TheVariants as value
use Rattle.host_expr.specs.declared.cell.Cell.{Cell}
use Rattle.host_expr.specs.declared.cell.Cell.TheVariants as cell
use Rattle.host_expr.specs.declared.cell.SigCell.{SigCell}
use Rattle.host_expr.specs.Environment.{Env}
use Rattle.host_expr.specs.Knows.{TriBelow, CellBelow}
use Rattle.host_expr.specs.Expression.{Expression, Pre, PreVal, Not, Neg, Arith, Compare, And}
use Rattle.host_expr.specs.Expression.{Or, Choose}
use Rattle.host_expr.specs.Evaluation.{eval_of}
use Rattle.net_solution.specs.declared.valuation.Before.{Before}

-- a signal's cell, and whether its previous status, and its base value, which stands as its previous value,
-- are known
pub record Seen : Type 0 where
  pub cell : SigCell
  pub known : Before

abbrev pub View : Type 0
View = ℕ → Seen

abbrev pub cells_seen : View → Env
cells_seen V s = (V s).cell

abbrev pub known_seen : View → ℕ → Before
known_seen V s = (V s).known

abbrev pub base_seen : Seen → Cell
base_seen c = cond c.known.base (cell.Known c.cell.preval) cell.Unknown

-- each previous status and base value that the expression reads is known, also in a part that is not taken
abbrev pub before_known : Expression → (ℕ → Before) → Bool
before_known (Pre s) known = (known s).pre
before_known (PreVal s) known = (known s).base
before_known (Not a) known = before_known a known
before_known (Neg p a) known = before_known a known
before_known (Arith p op a b) known = before_known a known && before_known b known
before_known (Compare rel a b) known = before_known a known && before_known b known
before_known (And a b) known = before_known a known && before_known b known
before_known (Or a b) known = before_known a known && before_known b known
before_known (Choose a b c) known = before_known a known && before_known b known && before_known c known
before_known _ known = true

-- unknown exactly where something that it reads is unknown; else the value or the first fault
abbrev pub expression_value : Expression → View → Cell
expression_value e V = cond (before_known e (known_seen V)) (eval_of e (cells_seen V) []) cell.Unknown

-- the second knows all that the first does
pub record SeenBelow (c d : Seen) : Type 0 where
  pub status : TriBelow c.cell.status d.cell.status
  pub value : CellBelow c.cell.value d.cell.value
  pub pre : c.known.pre ≡ true → (d.known.pre ≡ true) × (c.cell.pre ≡ d.cell.pre)
  pub base : c.known.base ≡ true → (d.known.base ≡ true) × (c.cell.preval ≡ d.cell.preval)

abbrev pub ViewBelow : View → View → Type 0
ViewBelow V W = (s : ℕ) → SeenBelow (V s) (W s)
