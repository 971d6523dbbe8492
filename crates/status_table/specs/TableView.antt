-- The table that a `Statuses` of the code stands for.
use Rattle.std.specs.Prelude.{map, slice_get}
use Rattle.status_table.specs.declared.state.Statuses.{Statuses}
use Rattle.status_table.specs.Flat.{Cells}
use Rattle.status_table.specs.Walking.{in_row}

abbrev pub cells_in : Statuses → Cells
cells_in t s n = in_row (slice_get (map (λ r. r.items) t.rows.items) n) s
