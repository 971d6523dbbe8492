use Rattle.std.proofs.Common.{◌≡◌, ◌++◌, take}
use Rattle.std.specs.List.{flat_map}
use Rattle.net_text.specs.Lines.{signal_line}
use Rattle.net_text.proofs.write.write_each_signal.Given as goal

abbrev pub invariant-loop-signal : goal.invariant-loop-signal
invariant-loop-signal l = l.out.items ≡ l.fn.out.items ++ flat_map signal_line (take l.signal-index l.fn.signals)
