use Rattle.std.proofs.Common.{map, take}
use Rattle.module_tree.specs.Parts.{block_walk, in_order}
use Rattle.link_resolve.specs.CalleesAdded.{AddsCallees, node_walk}
use Rattle.link_resolve.proofs.callees.+callees.Given as goal

abbrev pub invariant-add_of_blocks-each_block : goal.invariant-add_of_blocks-each_block
invariant-add_of_blocks-each_block l = AddsCallees (in_order (map block_walk (take l.block-index l.blocks)))
    l.fn.callees l.callees

abbrev pub invariant-add_of_nodes-each_node : goal.invariant-add_of_nodes-each_node
invariant-add_of_nodes-each_node l = AddsCallees (in_order (map node_walk (take l.node-index l.nodes)))
    l.fn.callees l.callees
