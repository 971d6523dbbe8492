-- What each step of a seat tells it, with its view and the slots that it holds before and after. (This
-- project's own.)
use Rattle.std.specs.Prelude.{◌≡◌, ◌≢◌, ℕ, ◌+◌, ◌≤◌, ◌^◌, List, [], ◌∷◌, length, Option, Some, None}
use Rattle.atomic_table.specs.Table.{Me, Step}
use Rattle.turn_cell.specs.declared.view.SeatView.{SeatView}
use Rattle.turn_cell.specs.declared.view.Stage.TheVariants.{Outside, Waiting, InTurn}
use Rattle.turn_cell.specs.Lists.{Begins, GrowsByOneAtMost, RisesTo}
use Rattle.turn_cell.specs.Views.{with_ticket, in_turn, after_turn, without_note}
use Rattle.turn_cell.specs.Rule.{NoteFits, tickets_at}

-- 1 where there is no start
abbrev pub startless : {B : Type 0} → Option B → ℕ
startless (Some b) = 0
startless None = 1

module _ {E B T : Type 0} where
  -- between two calls: no slot is held, and there is no ticket and no note
  pub record IsAtRest (me : Me (Option T) (SeatView E B)) : Type 0 where
    pub held : me.1 ≡ []
    pub stage : me.0.stage ≡ Outside
    pub note : me.0.note ≡ []
    pub first : B
    pub start : me.0.start ≡ Some first

  -- the same as one number, which is 0 where the seat is at rest
  abbrev pub unrest : Me (Option T) (SeatView E B) → ℕ
  unrest me = length me.1 + tickets_at me.0.stage + length me.0.note + startless me.0.start

  -- the next ticket is drawn
  abbrev pub DrawsTicket : Step (Option T) → Me (Option T) (SeatView E B) → ℕ →
      Me (Option T) (SeatView E B) → Type 0
  DrawsTicket st old found new = new ≡ (with_ticket old.0 found, old.1)

  -- the note is cleared: each of its lists begins what was seen. The seat's own places rise, and lie in what
  -- was seen
  pub record ClearsNote (st : Step (Option T)) (old : Me (Option T) (SeatView E B))
      (found : ℕ) (new : Me (Option T) (SeatView E B)) : Type 0 where
    pub cleared : new ≡ (without_note old.0, old.1)
    pub note : NoteFits old.0.seen (length old.0.seen) old.0.note
    pub mine : RisesTo 0 old.0.mine (length old.0.seen)
    pub few : old.0.allowance + old.0.spent ≤ 2 ^ 63

  -- the value goes home, and the next ticket is served
  abbrev pub LeavesTurn : (T → List E) → Step (Option T) → Me (Option T) (SeatView E B) →
      ℕ → Me (Option T) (SeatView E B) → Type 0
  LeavesTurn story st old found new =
      (t : ℕ) (before : List E) (value : T) → old.0.stage ≡ InTurn t before → old.1 ≡ (0, Some value) ∷ []
      → new ≡ (after_turn old.0 before (story value), [])

module _ {E B T : Type 0} (story : T → List E) (begins : T → B) where
  -- what a seat knows, and the slots that it holds
  abbrev Standing : Type 0
  Standing = Me (Option T) (SeatView E B)

  -- its turn has come, and it holds the slot with the value, whose history begins with what it had seen
  pub record HasEntered (old : Standing) (t : ℕ) (new : Standing) : Type 0 where
    pub value : T
    pub took : new ≡ (in_turn old.0 t (story value), (0, Some value) ∷ old.1)
    pub seen : Begins old.0.seen (story value)
    pub start : (c : B) → old.0.start ≡ Some c → begins value ≡ c

  -- the ticket that is served is its own, or it waits on
  abbrev pub LooksForTurn : Step (Option T) → Standing → ℕ → Standing → Type 0
  LooksForTurn st old found new =
      (t : ℕ) → old.0.stage ≡ Waiting t → (found ≡ t → HasEntered old t new) × (found ≢ t → new ≡ old)

  -- a job was done on the value of the slot that it holds
  pub record HasWorked (R : B → List E → List E → Type 0) (old : T) (held : List (ℕ × Option T)) : Type 0 where
    pub value : T
    pub lies : held ≡ (0, Some value) ∷ []
    pub start : begins value ≡ begins old
    pub grows : GrowsByOneAtMost (story old) (story value)
    pub job : R (begins old) (story old) (story value)

  -- it is in turn, and the value that it holds has kept its start, and its history, or has one entry more
  pub record MayLeave (me : Standing) : Type 0 where
    pub ticket : ℕ
    pub before : List E
    pub value : T
    pub first : B
    pub stage : me.0.stage ≡ InTurn ticket before
    pub held : me.1 ≡ (0, Some value) ∷ []
    pub grows : GrowsByOneAtMost before (story value)
    pub start : me.0.start ≡ Some first
    pub begun : begins value ≡ first
