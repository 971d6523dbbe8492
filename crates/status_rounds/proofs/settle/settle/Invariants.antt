use Rattle.std.proofs.Common.{◌+◌, length}
use Rattle.host_expr.specs.Environment.{env_of}
use Rattle.hh_term.specs.MustCan.{table_of}
use Rattle.hh_term.specs.ProgramView.{kernel_of}
use Rattle.hh_term.specs.Reaction.{outers_from}
use Rattle.hh_term.specs.Views.{control_in}
use Rattle.status_table.specs.TableView.{cells_in}
use Rattle.status_rounds.specs.Before.{lasts_of}
use Rattle.status_rounds.specs.Loops.{loops_round}
use Rattle.status_rounds.specs.Rounds.{Ready}
use Rattle.status_rounds.proofs.Sound.{Sound}
use Rattle.status_rounds.proofs.Unknowns.{left_in}
use Rattle.status_rounds.proofs.settle.settle.Given as goal

abbrev pub invariant-rounds : goal.invariant-rounds
invariant-rounds l = record {
  ready : Ready (kernel_of l.program) l.table l.pass;
  sound : Sound (table_of (kernel_of l.program)) (outers_from 0 l.inputs (lasts_of l.before.cells.items))
      (kernel_of l.program).statement (control_in l.marked) (env_of l.pass.cells.signals.items)
      (cells_in l.table);
}

abbrev pub decreases-rounds : goal.decreases-rounds
decreases-rounds l = left_in (kernel_of l.program).interface (length (kernel_of l.program).signals)
    (loops_round (kernel_of l.program).statement + 1) (env_of l.pass.cells.signals.items) (cells_in l.table)
