use Rattle.host_hooks.specs.Stored.{promises_of}
use Rattle.hh_term.specs.ProgramView.{kernel_of}
use Rattle.scenario_lines.specs.declared.line.Mode.TheVariants.{Play}
use Rattle.hiphop_main.specs.Split.{scenario_text}
use Rattle.hiphop_main.proofs.LinesFit.{scenario_fits}
use Rattle.hiphop_main.proofs.Scripts.{script_played}
use Rattle.hiphop_main.proofs.play.play_input.Goals as goal

pub play_script-requires-clause-covered : goal.play_script-requires-clause-covered
play_script-requires-clause-covered g c = c.in-Ok.ensures.found.is.covered

pub play_script-requires-clause-fit : goal.play_script-requires-clause-fit
play_script-requires-clause-fit g c =
    scenario_fits (kernel_of c.in-Ok.script.program) Play (scenario_text c.args.input.now) c.in-Ok.script.lines.items c.in-Ok.script.program.rules c.in-Ok.ensures.found.is.scenario

pub returns-in-Ok : goal.returns-in-Ok
returns-in-Ok g c =
    script_played (promises_of c.args.hooks.now) c.args.input.now c.in-Ok.script.program c.in-Ok.script.lines.items (g.K.Sink.state c.args.sink.now) (g.K.Sink.state c.play_script.new.sink)
    c.play_script.result c.in-Ok.ensures.found c.play_script.ensures
