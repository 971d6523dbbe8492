use Rattle.std.proofs.Common.{refl, ap, arith}
use Rattle.host_hooks.specs.Stored.{promises_of}
use Rattle.scenario_play.proofs.LineLaws.{played_ok}
use Rattle.scenario_play.proofs.play.go_on.Goals as goal

pub returns-clause-plays : goal.returns-clause-plays
returns-clause-plays g c =
    let ok = c.add_line.new.turn.out.ok in
    played_ok g.R.Reactor.machine (promises_of c.args.hooks.now) c.args.bodies.now c.put_waiting.result (g.R.Reactor.signals c.args.machine.now)
    (g.R.Reactor.state c.args.machine.now) (g.R.Reactor.state c.add_line.new.machine) c.args.line.now c.args.turn.now c.add_line.new.turn
    (record { posts = c.add_line.new.turn.posts; number = c.add_line.new.turn.number; out = c.put_waiting.new.waiting })
    (g.K.Sink.state c.args.sink.now) (g.K.Sink.state c.put_waiting.new.sink) c.in-Ok.ensures.adds refl refl
    (λ few. let s = c.put_waiting.ensures.short (omega (arith, few, ok)) in (ap (λ v. v.items) s.1, s.2))
    (λ many. c.put_waiting.ensures.long (omega (arith, many, ok)))
    (λ many. c.put_waiting.ensures.emptied (omega (arith, many, ok)))
