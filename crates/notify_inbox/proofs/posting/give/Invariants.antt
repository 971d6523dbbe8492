use Rattle.std.proofs.Common.{◌≡◌, ◌-◌, length, All}
use Rattle.crossbeam_queue.specs.Passes.{view, IsPassOf}
use Rattle.notify_inbox.specs.Views.{poster, taker}
use Rattle.notify_inbox.specs.Calls.{post_view}
use Rattle.notify_inbox.proofs.posting.give.Given as goal

abbrev pub invariant-loop : goal.invariant-loop
invariant-loop l = record {
  own : IsPassOf l.queue l.taking;
  taker : view l.taking ≡ taker (16 - l.counter);
  count : length l.passes.items ≡ l.counter;
  posters : All (λ p. IsPassOf l.queue p.pass × (post_view p ≡ poster)) l.passes.items;
}
