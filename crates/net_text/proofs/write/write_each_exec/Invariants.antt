use Rattle.std.proofs.Common.{◌≡◌, ◌++◌, take}
use Rattle.std.specs.List.{flat_map}
use Rattle.net_text.specs.Lines.{exec_line}
use Rattle.net_text.proofs.write.write_each_exec.Given as goal

abbrev pub invariant-loop-exec : goal.invariant-loop-exec
invariant-loop-exec l = l.out.items ≡ l.fn.out.items ++ flat_map (exec_line 2) (take l.exec-index l.fn.execs)
