use Rattle.hh_term.specs.Codes.{either}
use Rattle.hh_term.specs.Flags.{codes_in}
use Rattle.hh_term.proofs.FlagSets.{Overwritten}
use Rattle.hh_term.proofs.codes.join.Given as goal

abbrev pub invariant-loop-c : goal.invariant-loop-c
invariant-loop-c l =
    Overwritten l.initial.codes (either (codes_in l.initial.codes) (codes_in l.others)) l.c l.codes
