use Rattle.std.proofs.Common.{◌≡◌}
use Rattle.hh_term.specs.Codes.{greater_of}
use Rattle.hh_term.specs.Flags.{codes_in}
use Rattle.hh_term.proofs.FlagSets.{Overwritten, below}
use Rattle.hh_term.proofs.codes.take_greater.Given as goal

abbrev pub invariant-loop-c : goal.invariant-loop-c
invariant-loop-c l =
    record {
      codes : Overwritten l.initial.codes
          (greater_of (codes_in l.initial.codes) (codes_in l.others)) l.c l.codes;
      code_so_far : l.code_so_far ≡ below (codes_in l.initial.codes) l.c;
      other_so_far : l.other_so_far ≡ below (codes_in l.others) l.c;
    }
