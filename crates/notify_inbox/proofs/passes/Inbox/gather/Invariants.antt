use Rattle.std.proofs.Common.{◌≡◌, map, All}
use Rattle.notify_inbox.specs.Views.{gathering}
use Rattle.notify_inbox.specs.Calls.{take_view, posts_in, IsTakePassOf, IsPostPassOf}
use Rattle.notify_inbox.proofs.passes.Inbox.gather.Given as goal

abbrev pub invariant-loop-poster : goal.invariant-loop-poster
invariant-loop-poster l = record {
  own : IsTakePassOf l.self l.pass;
  posters : All (λ p. IsPostPassOf l.self p) l.posters.items;
  gathered : gathering (take_view l.pass) (map posts_in l.posters.items)
      ≡ gathering (take_view l.fn.pass) (map posts_in l.fn.posters.items);
  empties : l.pass.empties ≡ l.fn.pass.empties;
}

abbrev pub decreases-loop-poster : goal.decreases-loop-poster
decreases-loop-poster l = goal.left-loop-poster l
