use Rattle.std.proofs.Common.{rules}
use Rattle.std.proofs.lemmas.List.Sorted.{answers_always, IsNonDecreasingBy-from_sort_by_key}
use Rattle.touch_order.proofs.Ordered.{sorted_is}
use Rattle.touch_order.proofs.order.put_in_order.Goals as goal

pub returns : goal.returns
returns c =
    sorted_is c.args.touches.now.items c.sort_by_key.new.self.items
    (IsNonDecreasingBy-from_sort_by_key (λ t. t.site) _ c.in_ok-sort_by_key.ensures.sorted
    (λ a r q k. search rules))
    (c.sort_by_key.ensures.stable (λ t. t.site) (answers_always _ _ _ (λ f a r g h. search rules)))
