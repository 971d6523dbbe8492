use Rattle.std.proofs.Common.{◌≡◌, length}
use Rattle.status_table.specs.TableView.{cells_in}
use Rattle.status_table.specs.Walking.{AllPut}
use Rattle.status_rounds.specs.Rounds.{HasPlace, shape_of}
use Rattle.status_rounds.proofs.Taking.{Taking}
use Rattle.status_rounds.proofs.round.put_raises.Given as goal

abbrev pub invariant-loop-raise : goal.invariant-loop-raise
invariant-loop-raise l = record {
  places : AllPut (λ s n v. HasPlace (shape_of l.table) s n) l.raised.items;
  shape : shape_of l.table ≡ shape_of l.initial.table;
  taking : Taking l.initial.raised.items l.raised.items (cells_in l.initial.table) (cells_in l.table);
}

abbrev pub decreases-loop-raise : goal.decreases-loop-raise
decreases-loop-raise l = length l.raised.items
