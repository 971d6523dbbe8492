use Rattle.std.proofs.Common.{◌≡◌, take, length}
use Rattle.std.specs.List.{range_with_len}
use Rattle.statement_build.specs.Building.{numbered_of, declared_all}
use Rattle.statement_build.proofs.builder.Builder.declare_all.Given as goal

abbrev pub invariant-loop-node : goal.invariant-loop-node
invariant-loop-node l =
    let n = numbered_of l.fn.self in
    (l.numbers.items ≡ range_with_len (length n.signals) l.node-index)
    × (numbered_of l.self ≡ declared_all (take l.node-index l.nodes) n)
