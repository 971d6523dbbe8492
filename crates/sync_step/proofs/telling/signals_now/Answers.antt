use Rattle.std.proofs.Common.{arith}
use Rattle.host_expr.specs.Environment.{env_of}
use Rattle.sync_step.specs.Reacting.{now_at}
use Rattle.sync_step.specs.Told.{now_in}
use Rattle.sync_step.proofs.Counting.{now_more, now_one}
use Rattle.sync_step.proofs.telling.signals_now.Goals as goal

pub loop-signal-preserved : goal.loop-signal-preserved
loop-signal-preserved c =
    let n = c.loop-signal.signal in
    let x = c.in_ok-signal_now.field-0 in
    now_more (now_at (env_of c.args.cells.now) c.args.emitted.now) n c.loop-signal.signals.items c.push.new.self.items x
    c.loop-signal.invariant c.in_ok-push.ensures.items
    (now_one c.args.cells.now c.args.emitted.now n (now_in x) c.index-cells-signal.result c.emissions_of-met.result.now
    (omega (arith, c.loop-signal-test.true, c.requires.cells)) c.index-cells-signal.is
    c.emissions_of-met.ensures c.in_ok-signal_now.ensures)
