use Rattle.std.proofs.Common.{◌≡◌, length}
use Rattle.host_expr.specs.Environment.{env_of}
use Rattle.status_rounds.proofs.opening.opened.Given as goal

abbrev pub invariant-loop-signal : goal.invariant-loop-signal
invariant-loop-signal l = record {
  env : env_of l.cells.items ≡ env_of l.initial.cells.items;
  len : length l.cells.items ≡ l.signal;
}
