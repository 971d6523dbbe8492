use Rattle.net_text.specs.Lines.{gate_line}
use Rattle.net_text.proofs.Growing.{grown}
use Rattle.net_text.proofs.write.write_each_gate.Goals as goal

pub loop-gate-preserved : goal.loop-gate-preserved
loop-gate-preserved c =
    grown gate_line c.args.gates.now c.loop-gate.gate-index c.gate-item.result c.args.out.now.items
    c.loop-gate.out.items c.write_gate.new.out.items c.loop-gate-test.true c.gate-item.is
    c.loop-gate.invariant c.in_ok-write_gate.ensures
