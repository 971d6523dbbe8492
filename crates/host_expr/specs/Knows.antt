-- What it means to know more of a signal, of an environment and of a value: the order of information.
-- (Berry, The Constructive
-- Semantics of Pure Esterel, widened by values.)
use Rattle.std.specs.Prelude.{◌≡◌, ℕ, List}
use Rattle.hh_base.specs.declared.value.Tri.{Tri}
use Rattle.hh_base.specs.declared.value.Tri.TheVariants.{Unknown, Zero, One}
use Rattle.hh_base.specs.declared.value.Value.{Value}
use Rattle.host_expr.specs.declared.cell.Cell.{Cell}
use Rattle.host_expr.specs.declared.cell.Cell.TheVariants as cell
use Rattle.host_expr.specs.declared.cell.SigCell.{SigCell}
use Rattle.host_expr.specs.Expression.{Expression}
use Rattle.host_expr.specs.Environment.{Env}
use Rattle.host_expr.specs.Evaluation.{eval_of}

-- the first is unknown, or the two are the same
abbrev pub TriBelow : Tri → Tri → Type 0
TriBelow Unknown y = Unit {0}
TriBelow Zero y = y ≡ Zero
TriBelow One y = y ≡ One

abbrev pub CellBelow : Cell → Cell → Type 0
CellBelow cell.Unknown d = Unit {0}
CellBelow (cell.Known v) d = d ≡ cell.Known v
CellBelow (cell.Faulted p k) d = d ≡ cell.Faulted p k

-- the previous status and value are always known
pub record SignalBelow (c d : SigCell) : Type 0 where
  pub status : TriBelow c.status d.status
  pub value : CellBelow c.value d.value
  pub pre : c.pre ≡ d.pre
  pub preval : c.preval ≡ d.preval

-- F knows all that E knows
pub record EnvBelow (E F : Env) : Type 0 where
  pub at : (s : ℕ) → SignalBelow (E s) (F s)

-- Law: where more is known, an expression that was known keeps its value.
abbrev pub EvaluationRises : Type 0
EvaluationRises =
    (e : Expression) (E F : Env) (args : List Value) → EnvBelow E F
    → CellBelow (eval_of e E args) (eval_of e F args)
