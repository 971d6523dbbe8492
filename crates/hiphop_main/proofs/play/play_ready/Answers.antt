use Rattle.std.proofs.Common.{sym, subst}
use Rattle.host_hooks.specs.Stored.{promises_of}
use Rattle.hiphop_main.specs.Scripts.{PlaysScript}
use Rattle.hiphop_main.proofs.Starts.{ready_written, ready_cut}
use Rattle.hiphop_main.proofs.play.play_ready.Goals as goal

pub returns-in-Ok : goal.returns-in-Ok
returns-in-Ok g c = λ p ls is.
    ready_written (promises_of c.args.hooks.now) p ls c.args.ready.now c.deref.result.now c.deref-2.result.now
    (g.K.Sink.state c.args.sink.now) (g.K.Sink.state c.play_lines.new.sink) is c.deref.ensures.value c.deref-2.ensures.value
    c.in-Ok.ensures.written

pub returns-in-Err : goal.returns-in-Err
returns-in-Err g c = λ p ls is.
    subst
    (PlaysScript (promises_of c.args.hooks.now) p ls (g.K.Sink.state c.args.sink.now) (g.K.Sink.state c.play_lines.new.sink))
    (sym c.cause_of.ensures)
    (ready_cut (promises_of c.args.hooks.now) p ls c.args.ready.now c.deref.result.now c.deref-2.result.now
    (g.K.Sink.state c.args.sink.now) (g.K.Sink.state c.play_lines.new.sink) c.in-Err.fault is c.deref.ensures.value
    c.deref-2.ensures.value c.in-Err.ensures.cut_off)
