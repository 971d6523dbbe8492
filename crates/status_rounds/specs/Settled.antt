-- What rounds come to: the interface is solved as the reaction has it, and the table gives its step. (This
-- project's own.)
use Rattle.std.specs.Prelude.{◌≡◌, ◌<◌, List, [], length}
use Rattle.host_expr.specs.Environment.{env_of, blank}
use Rattle.hh_term.specs.Kernel.{Kernel}
use Rattle.hh_term.specs.Selection.{Control}
use Rattle.hh_term.specs.MustCan.{table_of}
use Rattle.hh_term.specs.Reaction.{Outer, solved, program_must_can, program_step}
use Rattle.status_table.specs.TableView.{cells_in}
use Rattle.status_table.specs.Walking.{Fits}
use Rattle.status_table.specs.WholeProgram.{program_flat_step}
use Rattle.status_rounds.specs.declared.settle.Settled.{Settled}

pub record IsSettled (K : Kernel) (c : Control) (os : List Outer) (s : Settled) : Type 0 where
  pub env : env_of s.cells.signals.items ≡ solved (table_of K) os (program_must_can (table_of K) K.statement
      c) blank
  pub step : program_flat_step (table_of K) (cells_in s.table) K.statement c (env_of s.cells.signals.items) ≡
      program_step (table_of K) K.statement c (env_of s.cells.signals.items)
  pub args : s.cells.args.items ≡ []
  pub signals : length s.cells.signals.items ≡ length K.signals
  pub levels : 0 < length s.table.rows.items
  pub fits : Fits (length s.cells.signals.items) (length s.table.rows.items) 0 K.statement
