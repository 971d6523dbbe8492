use Rattle.hh_term.specs.Codes.{lowered}
use Rattle.hh_term.specs.Flags.{codes_in}
use Rattle.hh_term.proofs.FlagSets.{Overwritten}
use Rattle.hh_term.proofs.codes.lower.Given as goal

abbrev pub invariant-loop-c : goal.invariant-loop-c
invariant-loop-c l = Overwritten l.initial.codes (lowered (codes_in l.initial.codes)) l.c l.codes
