use Rattle.std.proofs.Common.{◌≡◌, ◌++◌}
use Rattle.scenario_make.specs.Make.{branch_line, lines_up_to, number_of}
use Rattle.scenario_make.proofs.make.add_branches.Given as goal

abbrev pub invariant-branches : goal.invariant-branches
invariant-branches l = record {
  number : l.number ≡ number_of l.seed l.before;
  lines : l.text.items ≡ l.fn.text.items ++ lines_up_to l.before (branch_line l.seed);
}
