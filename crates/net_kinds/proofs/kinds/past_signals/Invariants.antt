use Rattle.net_list.specs.Kinds.{signal_fits}
use Rattle.net_range.proofs.Walk.{IsAt}
use Rattle.net_kinds.proofs.kinds.past_signals.Given as goal

abbrev pub invariant-loop-signal : goal.invariant-loop-signal
invariant-loop-signal l = IsAt signal_fits l.nets.signals l.from l.signal-index l.line
