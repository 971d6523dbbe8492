use Rattle.hh_term.specs.MustCan.{table_of}
use Rattle.hh_term.specs.ProgramView.{kernel_of}
use Rattle.status_rounds.specs.Rounds.{Conclusions}
use Rattle.status_rounds.proofs.round.conclude_all.Given as goal

abbrev pub invariant-loop-signal : goal.invariant-loop-signal
invariant-loop-signal l = Conclusions (table_of (kernel_of l.program)) l.signal l.changed l.initial.pass
    l.pass
