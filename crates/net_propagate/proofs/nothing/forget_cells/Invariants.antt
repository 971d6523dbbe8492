use Rattle.std.proofs.Common.{◌≡◌, length, false}
use Rattle.hh_base.specs.declared.value.Value.TheVariants as value
use Rattle.host_expr.specs.Environment.{unsolved}
use Rattle.net_propagate.proofs.Stepping.{IsClear}
use Rattle.net_propagate.proofs.nothing.forget_cells.Given as goal

abbrev pub invariant-cells : goal.invariant-cells
invariant-cells l = record {
  room : length l.cells.items ≡ length l.fn.cells.items;
  clear : IsClear (unsolved false value.Unit) l.cells.items l.signal;
}
