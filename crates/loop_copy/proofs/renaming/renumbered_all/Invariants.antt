use Rattle.std.proofs.Common.{◌≡◌, map, take}
use Rattle.loop_copy.specs.Renaming.{numbers_in, renamed_expr}
use Rattle.loop_copy.proofs.renaming.renumbered_all.Given as goal

abbrev pub invariant-loop-arg : goal.invariant-loop-arg
invariant-loop-arg l = l.copies.items ≡ map (renamed_expr (numbers_in l.numbers)) (take l.arg-index l.args)
