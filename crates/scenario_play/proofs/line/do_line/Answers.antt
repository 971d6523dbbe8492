use Rattle.host_hooks.specs.Stored.{promises_of}
use Rattle.scenario_play.proofs.LineLaws.{line_reacted, line_reset}
use Rattle.scenario_play.proofs.line.do_line.Goals as goal

pub returns-in_ok-react-in-React-clause-done : goal.returns-in_ok-react-in-React-clause-done
returns-in_ok-react-in-React-clause-done g c =
    line_reacted g.R.Reactor.machine (promises_of c.args.hooks.now) c.args.bodies.now (g.R.Reactor.state c.args.machine.now) (g.R.Reactor.state c.react.new.self)
    c.args.posts.now c.react.new.took c.in-React.inputs c.as_slice.result.now c.args.line.now c.args.log.now c.react.new.log c.in_ok-react-in-React.field-0
    c.in-React.is c.as_slice.ensures c.requires.log c.in_ok-react-in-React.ensures.took c.in_ok-react-in-React.ensures.reacts

pub returns-in_ok-reset-in-Reset-clause-done : goal.returns-in_ok-reset-in-Reset-clause-done
returns-in_ok-reset-in-Reset-clause-done g c =
    line_reset g.R.Reactor.machine (promises_of c.args.hooks.now) c.args.bodies.now (g.R.Reactor.state c.args.machine.now) (g.R.Reactor.state c.reset.new.self)
    c.args.posts.now c.args.line.now c.args.log.now c.reset.new.log c.in_ok-reset-in-Reset.field-0
    c.in-Reset.is c.requires.log c.in_ok-reset-in-Reset.ensures.reacts
