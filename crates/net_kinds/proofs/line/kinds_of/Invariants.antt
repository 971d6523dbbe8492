use Rattle.std.proofs.Common.{◌≡◌, map, take}
use Rattle.net_list.specs.declared.record.NetSignal.{NetSignal}
use Rattle.net_kinds.proofs.line.kinds_of.Given as goal

abbrev pub invariant-loop-signal : goal.invariant-loop-signal
invariant-loop-signal l = l.kinds.items ≡ map (λ (s : NetSignal). s.decl.kind) (take l.signal-index l.signals)
