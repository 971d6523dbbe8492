-- What holds of the life of each instance in every run of every machine: its start, what it uses, and its end
-- or its kill. (This project's own.)
use Rattle.std.specs.Prelude.{◌≡◌, ℕ, Bool, true, not, ◌&&◌, List, ◌++◌}
use Rattle.std.specs.List.{list_all}
use Rattle.hh_base.specs.declared.value.Value.{Value}
use Rattle.exec_instance.specs.declared.change.Change.{Change}
use Rattle.exec_instance.specs.declared.instance.Instance.{Instance}
use Rattle.exec_instance.specs.Running.{IsRising}
use Rattle.reaction_run.specs.declared.event.Input.{Input}
use Rattle.reaction_run.specs.declared.event.Event.{Event}
use Rattle.reaction_run.specs.Machine.{Machine, State, Outcome, Completes, begin}
use Rattle.reaction_run.specs.Run.{replies, final_state}
use Rattle.reaction_run.specs.Told.{about, told, NotStarted, IsLife, used_values}
use Rattle.reaction_run.specs.Told.{stage_of, waiting_for, entered_in}

-- the second list begins with the first
abbrev pub IsBeginning : List Value → List Value → Type 0
IsBeginning first whole = (rest : List Value) × (whole ≡ first ++ rest)

-- a change that uses an answer and goes on does not end the instance too
abbrev pub uses_one : Change → Bool
uses_one c = not (c.used && c.ended)

abbrev pub UsesOneIn : {Place : Type 0} → Outcome Place → Type 0
UsesOneIn (Completes c) = list_all uses_one c.changes ≡ true
UsesOneIn _ = Unit {0}

-- no instance uses two answers in one reaction of the machine
abbrev pub UsesOne : {Place : Type 0} → Machine Place → Type 0
UsesOne {Place} M =
    (place : Place) (running : List Instance) (inputs : List Input) (last : ℕ)
    → UsesOneIn (M.reaction place running inputs last)

module _ {Place : Type 0} (M : Machine Place) where
  -- running instances rise in id, through all events
  abbrev pub StaysRising : Type 0
  StaysRising =
      (S : State Place) (events : List Event) → IsRising S.running S.last
      → IsRising (final_state M S events).running (final_state M S events).last

  -- an id starts at most once, and ends or is killed at most once and never both, only after its start; it
  -- uses answers only in between
  abbrev pub LivesOnce : Type 0
  LivesOnce =
      (S : State Place) (events : List Event) (id : ℕ) → IsRising S.running S.last
      → IsLife (stage_of M S id) (about id (told (replies M S events)))

  abbrev pub LivesOnceFromBegin : Type 0
  LivesOnceFromBegin =
      (place : Place) (last : ℕ) (events : List Event) (id : ℕ)
      → IsLife NotStarted (about id (told (replies M (begin M place last) events)))

  -- an instance uses the values that waited and entered for its id, in their order
  abbrev pub UsesWhatEntered : Type 0
  UsesWhatEntered =
      (S : State Place) (events : List Event) (id : ℕ) → IsRising S.running S.last
      → IsBeginning (used_values (about id (told (replies M S events))))
      (waiting_for M S id ++ entered_in M S events id)
