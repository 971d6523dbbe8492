use Rattle.std.proofs.Common.{ℕ, List, sym, ap, ◌∙◌}
use Rattle.module_tree.specs.declared.source.Part.{Part}
use Rattle.module_tree.specs.Runs.{runs_of, is_callees_first}
use Rattle.module_link.specs.Resolved.{resolved_parts}
use Rattle.link_resolve.proofs.LinkedTrees.{tree_in_range, tree_has_no_cycle, tree_is_linked}
use Rattle.link_resolve.proofs.resolve.resolve.Goals as goal

pub callees_first-requires-clause-in_range : goal.callees_first-requires-clause-in_range
callees_first-requires-clause-in_range c = tree_in_range c.args.modules.now c.as_slice.result.now
    c.parts.ensures.source c.requires
    (c.as_slice.ensures ∙ c.in_ok-parts.ensures ∙ ap resolved_parts c.parts.ensures.parts)

pub callees_first-requires-clause-no_cycle : goal.callees_first-requires-clause-no_cycle
callees_first-requires-clause-no_cycle c = tree_has_no_cycle c.args.modules.now c.as_slice.result.now
    c.parts.ensures.source c.requires
    (c.as_slice.ensures ∙ c.in_ok-parts.ensures ∙ ap resolved_parts c.parts.ensures.parts)

pub new-requires-clause-linked : goal.new-requires-clause-linked
new-requires-clause-linked c = tree_is_linked c.args.modules.now c.in_ok-parts.parts c.parts.ensures.source
    c.parts.ensures.names c.requires (c.in_ok-parts.ensures ∙ ap resolved_parts c.parts.ensures.parts)

pub new-requires-clause-order : goal.new-requires-clause-order
new-requires-clause-order c =
    ap (λ (tree : List (Part ℕ)). is_callees_first (runs_of tree) c.in_ok-order.order.items)
    (sym c.as_slice.ensures) ∙ c.in_ok-order.ensures

pub returns : goal.returns
returns c = c.new.ensures ∙ c.in_ok-parts.ensures ∙ ap resolved_parts c.parts.ensures.parts
