use Rattle.std.proofs.Common.{◌≡◌, ◌++◌, codes, map, take}
use Rattle.module_printer.specs.SourceTokens.{behind, one_after_another, tokens_of_block, tokens_of_node}
use Rattle.module_printer.specs.Printed.{spaced}
use Rattle.module_printer.proofs.print.printer.Printer.+statement.Given as goal

abbrev pub invariant-branches-loop-block : goal.invariant-branches-loop-block
invariant-branches-loop-block l = l.self ≡ l.initial.self ++ spaced
    (behind (codes "par") (map tokens_of_block (take l.block-index l.others)))

abbrev pub invariant-nodes-loop-node : goal.invariant-nodes-loop-node
invariant-nodes-loop-node l = l.self ≡ l.fn.self ++ spaced (one_after_another
    (map tokens_of_node (take l.node-index l.nodes)))
