use Rattle.std.proofs.Common.{take}
use Rattle.hh_term.specs.MustCan.{table_of, gives, Executed}
use Rattle.hh_term.specs.ProgramView.{kernel_of}
use Rattle.status_table.specs.Walking.{Tallied}
use Rattle.status_rounds.specs.Given.{given_all}
use Rattle.status_rounds.proofs.round.give.Given as goal

abbrev pub invariant-loop-input : goal.invariant-loop-input
invariant-loop-input l = Tallied (table_of (kernel_of l.program))
    (gives (given_all (take l.input-index l.inputs)) 0 Executed) l.initial.tallies.items l.tallies.items
