use Rattle.std.proofs.Common.{◌≡◌, ℕ, ◌<◌, [], true, Some, reverse, slice_get}
use Rattle.run_graph.specs.Search.{IsSearch}
use Rattle.run_graph.proofs.search.finish_order.Given as goal

abbrev pub invariant-modules : goal.invariant-modules
invariant-modules l = record {
  search : IsSearch l.runs l.search.seen.items [] (reverse l.search.finished);
  ended : l.search.path ≡ [];
  seen : (m : ℕ) → m < l.at → slice_get l.search.seen.items m ≡ Some true;
}
