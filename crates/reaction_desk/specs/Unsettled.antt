-- The instances of a state that wait for an answer. (This project's own.)
use Rattle.std.specs.Prelude.{ℕ, suc, Bool, if◌then◌else◌, List, [], ◌∷◌}
use Rattle.exec_instance.specs.declared.instance.Instance.{Instance}
use Rattle.exec_instance.specs.Running.{IsRising}
use Rattle.turn_cell.specs.Lists.{RisesTo}
use Rattle.reaction_run.specs.declared.event.Event.{Event}
use Rattle.reaction_run.specs.Machine.{Machine, State}
use Rattle.reaction_run.specs.Run.{final_state}
use Rattle.reaction_run.specs.Reacting.{is_settled}

-- the ids of these instances that are not settled, in their order
abbrev pub open_ids : (ℕ → Bool) → List Instance → List ℕ
open_ids settled [] = []
open_ids settled (i ∷ is) = if settled i.id then open_ids settled is else i.id ∷ open_ids settled is

-- the ids of the running instances that are not settled, in their order
abbrev pub unsettled_ids : {Place : Type 0} → State Place → List ℕ
unsettled_ids S = open_ids (is_settled S) S.running

-- where the instances rise in id at the start, these ids rise, and lie from 1 to the last id
abbrev pub UnsettledRise : {Place : Type 0} → Machine Place → Type 0
UnsettledRise {Place} M =
    (S : State Place) (events : List Event) → IsRising S.running S.last
    → RisesTo 1 (unsettled_ids (final_state M S events)) (suc (final_state M S events).last)
