-- The state of the constructive machine that the machine of the code stands for. (This project's own.)
use Rattle.hh_term.specs.ProgramView.{kernel_of}
use Rattle.reaction_run.specs.Machine.{State}
use Rattle.term_machine.specs.Place.{Place}
use Rattle.term_reactor.specs.declared.machine.TermMachine.{TermMachine}
use Rattle.term_reactor.specs.Standing.{state_at}

abbrev pub state_of : TermMachine → State Place
state_of m = state_at (kernel_of m.program) m.stand
