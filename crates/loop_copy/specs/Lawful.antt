-- The laws of copies, as statements. The public functions of `laws` have them as contracts. (This project's
-- own.)
use Rattle.std.specs.Prelude.{◌≡◌}
use Rattle.hh_term.specs.Statement.{Statement}
use Rattle.hh_term.specs.Kernel.{Kernel}
use Rattle.hh_term.specs.Selection.{Selection}
use Rattle.hh_term.specs.IsProgram.{IsProgram}
use Rattle.hh_term.specs.Marks.{IsMarkOf, ids_in}
use Rattle.loop_copy.specs.Copies.{copied_program}
use Rattle.loop_copy.specs.IsCopied.{IsCopied}
use Rattle.loop_copy.specs.Stands.{Stands}

-- The copy of a program keeps the rules of copied programs.
abbrev pub CopiesKeepTheRules : Type 0
CopiesKeepTheRules = (K : Kernel) → IsProgram K → IsCopied (copied_program K)

-- the copied mark stands for one mark of the statement
pub record StandsForOne (p : Statement) (c : Selection) : Type 0 where
  pub mark : Selection
  pub stands : Stands p mark c
  pub only : (m : Selection) → Stands p m c → m ≡ mark

-- What stands for a mark of the program's statement is a mark of the copied one, with the same ids in the
-- same order.
abbrev pub MarksStandForMarks : Type 0
MarksStandForMarks =
    (K : Kernel) (m c : Selection) → Stands K.statement m c →
    IsMarkOf K.statement m × IsMarkOf (copied_program K).statement c × (ids_in m ≡ ids_in c)

-- Each mark of the copied statement stands for one mark.
abbrev pub EachMarkStandsForOne : Type 0
EachMarkStandsForOne =
    (K : Kernel) (c : Selection) → IsMarkOf (copied_program K).statement c → StandsForOne K.statement c
