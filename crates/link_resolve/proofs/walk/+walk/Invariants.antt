use Rattle.std.proofs.Common.{map, take}
use Rattle.module_link.specs.Resolved.{resolved_block, each}
use Rattle.link_resolve.specs.Walking.{Resolves, resolved_node}
use Rattle.link_resolve.proofs.walk.+walk.Given as goal

abbrev pub invariant-branches-branches : goal.invariant-branches-branches
invariant-branches-branches l = Resolves (each (map (resolved_block l.text.parts.now)
    (take l.block-index l.blocks))) l.fn.places l.places l.branches.items

abbrev pub invariant-resolve_block-statements : goal.invariant-resolve_block-statements
invariant-resolve_block-statements l = Resolves (each (map (resolved_node l.text.parts.now)
    (take l.node-index l.node-items))) l.fn.places l.places l.statements.items
