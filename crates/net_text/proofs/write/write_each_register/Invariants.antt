use Rattle.std.proofs.Common.{◌≡◌, ◌++◌, take}
use Rattle.std.specs.List.{flat_map}
use Rattle.net_text.specs.Lines.{register_line}
use Rattle.net_text.proofs.write.write_each_register.Given as goal

abbrev pub invariant-loop-register : goal.invariant-loop-register
invariant-loop-register l = l.out.items ≡ l.fn.out.items ++ flat_map register_line (take l.register-index l.fn.registers)
