use Rattle.std.proofs.Common.{drop}
use Rattle.net_block.specs.Codes.{merged, side_by_side}
use Rattle.net_block.specs.Drawn.{drawn, next_of}
use Rattle.net_block.proofs.Merging.{Merging}
use Rattle.net_block.proofs.drawing.Drawing.merged.Given as goal

abbrev pub invariant-loop-code : goal.invariant-loop-code
invariant-loop-code l =
    Merging (drawn l.initial.self) (merged (next_of (drawn l.initial.self)).gate (side_by_side l.left l.right)) (drawn l.self)
    l.codes.items (merged (next_of (drawn l.self)).gate (drop l.code (side_by_side l.left l.right)))
