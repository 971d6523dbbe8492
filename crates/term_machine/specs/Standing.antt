-- What holds of each state of the machine on terms. (This project's own.)
use Rattle.std.specs.Prelude.{◌≡◌, ℕ, suc, cond, ◌==◌, is_some, if◌then◌else◌, List, [], ◌∷◌}
use Rattle.hh_term.specs.Marks.{IsControlOf, ids_of}
use Rattle.exec_instance.specs.Running.{holder, IsRising}
use Rattle.reaction_run.specs.Machine.{State}
use Rattle.term_machine.specs.Place.{Place}

-- how often an id stands in a list
abbrev pub times : ℕ → List ℕ → ℕ
times id [] = 0
times id (i ∷ is) = cond (i == id) (suc (times id is)) (times id is)

-- control rests in the program's statement. The ids in its marks differ, lie from 1 to the last id, and are
-- those of the running instances: each id stands there once where an instance runs with it, else not
pub record Stands (S : State Place) : Type 0 where
  pub rests : IsControlOf S.place.kernel.statement S.place.control
  pub rising : IsRising S.running S.last
  pub marked : (id : ℕ) → times id (ids_of S.place.control) ≡ (if is_some (holder S.running id) then 1 else 0)
