use Rattle.net_text.specs.Lines.{signal_line}
use Rattle.net_text.proofs.Growing.{grown}
use Rattle.net_text.proofs.write.write_each_signal.Goals as goal

pub loop-signal-preserved : goal.loop-signal-preserved
loop-signal-preserved c =
    grown signal_line c.args.signals.now c.loop-signal.signal-index c.signal-item.result c.args.out.now.items
    c.loop-signal.out.items c.write_signal.new.out.items c.loop-signal-test.true c.signal-item.is
    c.loop-signal.invariant c.in_ok-write_signal.ensures
