use Rattle.std.proofs.Common.{map, take}
use Rattle.module_tree.specs.Parts.{in_order, block_walk}
use Rattle.link_faults.specs.Walks.{Follows, IsReady, node_walk}
use Rattle.link_verdict.proofs.blocks.+walk.Given as goal

abbrev pub invariant-over_blocks-each : goal.invariant-over_blocks-each
invariant-over_blocks-each l = record {
  ready : IsReady l.walker;
  follows : Follows l.text.parts.now (in_order (map block_walk (take l.block-index l.blocks))) l.fn.walker
      l.walker;
}

abbrev pub invariant-over_nodes-each_node : goal.invariant-over_nodes-each_node
invariant-over_nodes-each_node l = record {
  ready : IsReady l.walker;
  follows : Follows l.text.parts.now (in_order (map node_walk (take l.node-index l.nodes))) l.fn.walker
      l.walker;
}
