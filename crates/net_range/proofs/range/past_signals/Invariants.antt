use Rattle.net_list.specs.Range.{signal_in_range}
use Rattle.net_range.proofs.Walk.{IsAt}
use Rattle.net_range.proofs.range.past_signals.Given as goal

abbrev pub invariant-loop-signal : goal.invariant-loop-signal
invariant-loop-signal l = IsAt (signal_in_range l.nets) l.nets.signals l.from l.signal-index l.line
