use Rattle.std.proofs.Common.{◌≡◌, ◌++◌, take}
use Rattle.std.specs.List.{flat_map}
use Rattle.net_text.specs.Lines.{emit_line}
use Rattle.net_text.proofs.write.write_each_emit.Given as goal

abbrev pub invariant-loop-emit : goal.invariant-loop-emit
invariant-loop-emit l = l.out.items ≡ l.fn.out.items ++ flat_map (emit_line 2) (take l.emit-index l.fn.emits)
