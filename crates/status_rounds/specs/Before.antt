-- The interface before a reaction. (This project's own.)
use Rattle.std.specs.Prelude.{Bool, List, map}
use Rattle.hh_base.specs.declared.value.Value.{Value}
use Rattle.host_expr.specs.declared.cell.SigCell.{SigCell}
use Rattle.host_expr.specs.Environment.{unsolved}
use Rattle.hh_term.specs.Reaction.{Last}

abbrev pub last_at : Bool × Value → Last
last_at c = record { status = c.0; val = c.1 }

abbrev pub lasts_of : List (Bool × Value) → List Last
lasts_of = map last_at

-- of a signal nothing is known but these
abbrev pub cell_after : Bool × Value → SigCell
cell_after c = unsolved c.0 c.1
