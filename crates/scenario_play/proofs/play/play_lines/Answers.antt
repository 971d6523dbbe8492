use Rattle.std.proofs.Common.{subst, ◌∙◌, arith}
use Rattle.std.proofs.lemmas.Result.{err_from_is_err_and, IfErr-weaker}
use Rattle.hh_io.specs.SinkState.{Puts, CutsOff}
use Rattle.host_hooks.specs.Stored.{promises_of}
use Rattle.scenario_play.specs.Playing.{CutsLine, LinePlayed}
use Rattle.scenario_play.proofs.LoopLaws.{reached_on, cut_at, written_all, cut_at_end, on_ok_then}
use Rattle.scenario_play.proofs.play.play_lines.Goals as goal

pub returns-in_err-go_on-clause-cut_off : goal.returns-in_err-go_on-clause-cut_off
returns-in_err-go_on-clause-cut_off g c =
    let p = err_from_is_err_and c.from_residual.result c.from_residual.ensures.1 in
    let inv = c.loop-line.invariant in
    rw (p.1, p.2)
    (cut_at g.R.Reactor.machine (promises_of c.args.hooks.now) c.args.bodies.now (g.R.Reactor.signals c.args.machine.now) (g.R.Reactor.state c.args.machine.now)
    c.args.lines.now c.loop-line.line-index c.loop-line.turn (g.R.Reactor.state c.loop-line.machine) (g.K.Sink.state c.args.sink.now) (g.K.Sink.state c.loop-line.sink)
    (g.K.Sink.state c.go_on.new.sink) c.line-item.result c.in_err-go_on.field-0.0 c.loop-line-test.true c.line-item.is inv.reached
    (subst (λ ds. CutsLine g.R.Reactor.machine (promises_of c.args.hooks.now) c.args.bodies.now ds (g.R.Reactor.state c.loop-line.machine) c.line-item.result c.loop-line.turn
    (g.K.Sink.state c.loop-line.sink) (g.K.Sink.state c.go_on.new.sink) c.in_err-go_on.field-0.0) inv.signals c.in_err-go_on.ensures.cut_off))

pub loop-line-preserved : goal.loop-line-preserved
loop-line-preserved g c =
    let inv = c.loop-line.invariant in
    record {
      reached =
          reached_on g.R.Reactor.machine (promises_of c.args.hooks.now) c.args.bodies.now (g.R.Reactor.signals c.args.machine.now) (g.R.Reactor.state c.args.machine.now)
          c.args.lines.now c.loop-line.line-index c.loop-line.turn c.go_on.new.turn (g.R.Reactor.state c.loop-line.machine) (g.R.Reactor.state c.go_on.new.machine)
          (g.K.Sink.state c.args.sink.now) (g.K.Sink.state c.loop-line.sink) (g.K.Sink.state c.go_on.new.sink) c.line-item.result c.loop-line-test.true c.line-item.is inv.reached
          (subst (λ ds. LinePlayed g.R.Reactor.machine (promises_of c.args.hooks.now) c.args.bodies.now ds (g.R.Reactor.state c.loop-line.machine) (g.R.Reactor.state c.go_on.new.machine)
          c.line-item.result c.loop-line.turn c.go_on.new.turn (g.K.Sink.state c.loop-line.sink) (g.K.Sink.state c.go_on.new.sink)) inv.signals c.in_ok-go_on.ensures.plays);
      signals = c.go_on.ensures.signals ∙ inv.signals;
      counted = (let h = c.in_ok-go_on.ensures.counts in let i = inv.counted in omega arith);
    }

pub returns-clause-written : goal.returns-clause-written
returns-clause-written g c =
    let w0 = g.K.Sink.state c.args.sink.now in
    let w1 = g.K.Sink.state c.loop-line.sink in
    let w2 = g.K.Sink.state c.put_all.new.sink in
    on_ok_then c.put_all.result (Puts w1 w2 c.deref.result.now) _ c.put_all.ensures.whole
    (λ h. written_all g.R.Reactor.machine (promises_of c.args.hooks.now) c.args.bodies.now (g.R.Reactor.signals c.args.machine.now) (g.R.Reactor.state c.args.machine.now)
    c.args.lines.now c.loop-line.line-index c.loop-line.turn (g.R.Reactor.state c.loop-line.machine) w0 w1 w2 c.loop-line-test.false c.loop-line.invariant.reached
    (subst (Puts w1 w2) c.deref.ensures.value h))

pub returns-clause-cut_off : goal.returns-clause-cut_off
returns-clause-cut_off g c =
    let w0 = g.K.Sink.state c.args.sink.now in
    let w1 = g.K.Sink.state c.loop-line.sink in
    let w2 = g.K.Sink.state c.put_all.new.sink in
    IfErr-weaker c.put_all.result (CutsOff w1 w2 c.deref.result.now) _
    (λ e h. cut_at_end g.R.Reactor.machine (promises_of c.args.hooks.now) c.args.bodies.now (g.R.Reactor.signals c.args.machine.now) (g.R.Reactor.state c.args.machine.now)
    c.args.lines.now c.loop-line.line-index c.loop-line.turn (g.R.Reactor.state c.loop-line.machine) w0 w1 w2 e c.loop-line.invariant.reached
    (subst (λ bs. CutsOff w1 w2 bs e) c.deref.ensures.value h))
    c.put_all.ensures.cut_off
