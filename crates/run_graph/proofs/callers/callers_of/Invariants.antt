use Rattle.std.proofs.Common.{◌≡◌, ℕ, ◌&&◌, length}
use Rattle.std.specs.Prelude.{nat_lt}
use Rattle.module_tree.specs.Runs.{is_among}
use Rattle.run_graph.specs.Reach.{callees}
use Rattle.run_graph.proofs.callers.callers_of.Given as goal

abbrev pub invariant-modules : goal.invariant-modules
invariant-modules l = record {
  callers : (m n : ℕ) → is_among (callees l.callers.items n) m ≡ (nat_lt m l.caller
      && is_among (callees l.runs m) n);
  size : length l.callers.items ≡ length l.runs;
}
