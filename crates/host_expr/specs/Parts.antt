-- The value and the cell that a part of an evaluation stands for. (This project's own.)
use Rattle.std.specs.Prelude.{ℕ, List, Option, Some, None, Result, Ok, Err, ℤ}
use Rattle.hh_base.specs.declared.value.Pos.{Pos}
use Rattle.hh_base.specs.declared.value.FaultKind.{FaultKind}
use Rattle.hh_base.specs.declared.value.Value.{Value}
use Rattle.hh_base.specs.declared.value.Value.TheVariants as value
use Rattle.host_expr.specs.declared.expr.Op.{Op}
use Rattle.host_expr.specs.declared.expr.Op.TheVariants.{Add}
use Rattle.host_expr.specs.declared.cell.Cell.{Cell}
use Rattle.host_expr.specs.declared.cell.Cell.TheVariants as cell
use Rattle.host_expr.specs.declared.part.Datum.{Datum}
use Rattle.host_expr.specs.declared.part.Datum.TheVariants as datum
use Rattle.host_expr.specs.declared.part.Part.{Part}
use Rattle.host_expr.specs.declared.part.Part.TheVariants as part

abbrev pub value_of : Datum → Value
value_of datum.Unit = value.Unit
value_of (datum.Int n) = value.Int n
value_of (datum.Bool b) = value.Bool b
value_of (datum.Lent t) = value.Text t.now
value_of (datum.Joined t) = value.Text t

abbrev pub cell_of : Part → Cell
cell_of part.Unknown = cell.Unknown
cell_of (part.Known d) = cell.Known (value_of d)
cell_of (part.Faulted p k) = cell.Faulted p k

-- the text of a value that is one
abbrev pub text_in : Value → Option (List ℕ)
text_in (value.Text t) = Some t
text_in _ = None

-- the text that is added, where the operator is `+` and the value a text
abbrev pub added : Op → Value → Option (List ℕ)
added Add v = text_in v
added _ v = None

-- the outcome of an operator at this position
abbrev pub number_or_fault : Pos → Result ℤ FaultKind → Cell
number_or_fault p (Ok n) = cell.Known (value.Int n)
number_or_fault p (Err k) = cell.Faulted p k
