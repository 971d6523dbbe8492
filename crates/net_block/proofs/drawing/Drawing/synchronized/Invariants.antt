use Rattle.std.proofs.Common.{drop}
use Rattle.net_block.specs.Codes.{synchronized, side_by_side}
use Rattle.net_block.specs.Drawn.{drawn, next_of}
use Rattle.net_block.proofs.Merging.{Merging}
use Rattle.net_block.proofs.drawing.Drawing.synchronized.Given as goal

abbrev pub invariant-loop-code : goal.invariant-loop-code
invariant-loop-code l =
    Merging (drawn l.initial.self) (synchronized (next_of (drawn l.initial.self)).gate l.left_dead l.right_dead (side_by_side l.left l.right)) (drawn l.self)
    l.codes.items (synchronized (next_of (drawn l.self)).gate l.wires.left l.wires.right (drop l.code (side_by_side l.left l.right)))
