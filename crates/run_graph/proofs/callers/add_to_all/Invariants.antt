use Rattle.std.proofs.Common.{◌≡◌, length, take}
use Rattle.run_graph.specs.Callers.{AddsCaller}
use Rattle.run_graph.proofs.callers.add_to_all.Given as goal

abbrev pub invariant-called : goal.invariant-called
invariant-called l = record {
  added : AddsCaller l.fn.callers.items l.callers.items (take l.callee-index l.called) l.caller;
  size : length l.callers.items ≡ length l.fn.callers.items;
}
