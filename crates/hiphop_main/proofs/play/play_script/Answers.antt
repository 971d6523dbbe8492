use Rattle.host_hooks.specs.Stored.{promises_of}
use Rattle.hiphop_main.proofs.Starts.{ready_covered, ready_fits, ready_few}
use Rattle.hiphop_main.proofs.play.play_script.Goals as goal

pub play_ready-requires-clause-covered : goal.play_ready-requires-clause-covered
play_ready-requires-clause-covered g c =
    ready_covered (promises_of c.args.hooks.now) c.args.script.program c.args.script.lines.items c.in-Ok.ready c.in-Ok.ensures
    c.requires.covered

pub play_ready-requires-clause-fit : goal.play_ready-requires-clause-fit
play_ready-requires-clause-fit g c =
    ready_fits c.args.script.program c.args.script.lines.items c.in-Ok.ready c.in-Ok.ensures c.requires.fit

pub play_ready-requires-clause-few : goal.play_ready-requires-clause-few
play_ready-requires-clause-few g c =
    ready_few c.args.script.program c.args.script.lines.items c.in-Ok.ready c.in-Ok.ensures c.requires.few

pub returns-in-Ok : goal.returns-in-Ok
returns-in-Ok g c = c.play_ready.ensures c.args.script.program c.args.script.lines.items c.in-Ok.ensures
