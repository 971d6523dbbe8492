use Rattle.std.proofs.Common.{reverse}
use Rattle.run_graph.specs.Search.{IsSearch, StaySeen}
use Rattle.run_graph.specs.Work.{work_left}
use Rattle.run_graph.proofs.search.Search.run.Given as goal

abbrev pub invariant-steps : goal.invariant-steps
invariant-steps l = record {
  search : IsSearch l.runs l.self.seen.items (reverse l.self.path) (reverse l.self.finished);
  kept : StaySeen l.fn.self.seen.items l.self.seen.items;
}

abbrev pub decreases-steps : goal.decreases-steps
decreases-steps l = work_left l.runs l.self.seen.items l.self.path
