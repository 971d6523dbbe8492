use Rattle.std.proofs.Common.{◌≡◌, ◌≤◌, ◌+◌, take}
use Rattle.host_hooks.specs.Stored.{promises_of}
use Rattle.scenario_play.proofs.LoopLaws.{Reached}
use Rattle.scenario_play.proofs.play.play_lines.Given as goal

abbrev pub invariant-loop-line : goal.invariant-loop-line
invariant-loop-line g l =
    record {
      reached : Reached g.R.Reactor.machine (promises_of l.fn.hooks) l.fn.bodies (g.R.Reactor.signals l.fn.machine) (g.R.Reactor.state l.fn.machine)
          (take l.line-index l.fn.lines) l.turn (g.R.Reactor.state l.machine) (g.K.Sink.state l.initial.sink) (g.K.Sink.state l.sink);
      signals : g.R.Reactor.signals l.machine ≡ g.R.Reactor.signals l.fn.machine;
      counted : l.turn.number ≤ l.line-index + 1;
    }
