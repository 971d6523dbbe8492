use Rattle.hh_term.specs.ProgramView.{kernel_of}
use Rattle.term_reactor.specs.Standing.{state_at}
use Rattle.term_reactor.proofs.Declared.{rules_declared}
use Rattle.term_reactor.proofs.Keeping.{keeps_next}
use Rattle.term_reactor.proofs.machine.TermMachine.take.Goals as goal

pub invariant_of-self : goal.invariant_of-self
invariant_of-self c =
    let K = kernel_of c.args.self.now.program in
    record {
      keeps = keeps_next (state_at K c.args.self.now.stand) (state_at K c.args.turn.next) c.args.event (rules_declared K c.args.self.now.program.rules) c.args.self.now.keeps c.requires.next;
      answers = c.args.self.now.answers;
    }
