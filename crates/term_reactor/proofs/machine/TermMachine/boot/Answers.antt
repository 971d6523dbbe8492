use Rattle.std.proofs.Common.{◌∙◌, ap, map}
use Rattle.hh_term.specs.ProgramView.{kernel_of}
use Rattle.term_machine.specs.ConstructiveMachine.{body_answers}
use Rattle.term_reactor.specs.Standing.{state_at}
use Rattle.term_reactor.proofs.Declared.{rules_declared}
use Rattle.term_reactor.proofs.Keeping.{keeps_start}
use Rattle.term_reactor.proofs.machine.TermMachine.boot.Goals as goal

pub invariant_of-result : goal.invariant_of-result
invariant_of-result c =
    let K = kernel_of c.args.program in
    record {
      keeps = keeps_start K c.args.last (state_at K c.in_ok-stand.stand) (rules_declared K c.args.program.rules) c.in_ok-stand.ensures;
      answers = c.in_ok-kinds.ensures ∙ ap (map body_answers) c.bodies.ensures.kernel;
    }
