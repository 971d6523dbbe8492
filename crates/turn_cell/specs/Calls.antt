-- What the calls of a turn cell tell. (This project's own.)
use Rattle.std.specs.Prelude.{◌≡◌, ℕ, ◌+◌, ◌^◌, ◌<◌, ◌≤◌, List, length, Some}
use Rattle.turn_cell.specs.declared.view.SeatView.{SeatView}
use Rattle.turn_cell.specs.declared.seat.Seat.{Seat}
use Rattle.turn_cell.specs.declared.cell.TurnCell.{TurnCell}
use Rattle.turn_cell.specs.declared.storied.Storied.{Ghosts}
use Rattle.turn_cell.specs.Lists.{Begins, GrowsByOneAtMost, RisesTo, Among}
use Rattle.turn_cell.specs.Views.{with_turn}

module _ {T E B : Type 0} {G : Ghosts T E B} where
  -- what a seat knows
  abbrev pub view : Seat T E B G → SeatView E B
  view s = s.pass.me.0

  abbrev pub IsSeatOf : TurnCell T E B → Seat T E B G → Type 0
  IsSeatOf c s = s.pass.table_id ≡ c.table.shared.table_id

module _ {E B : Type 0} where
  -- where the seat has a start, it is such a one
  abbrev pub StartIs : (B → Type 0) → SeatView E B → Type 0
  StartIs P v = (c : B) → v.start ≡ Some c → P c

  -- one turn: the history before it begins with what the seat had seen, and the seat has seen the one after
  -- it. R holds of the start and of both
  pub record TookTurn (R : B → List E → List E → Type 0) (old new : SeatView E B) : Type 0 where
    pub left : 0 < old.allowance
    pub before : List E
    pub first : B
    pub start : old.start ≡ Some first
    pub seen : Begins old.seen before
    pub grows : GrowsByOneAtMost before new.seen
    pub job : R first before new.seen
    pub view : new ≡ with_turn old before new.seen

  -- the end of a history: the seat had all turns, what it has seen begins the history, its own places are all
  -- places of it, each once, and there are no more entries than turns were spent
  pub record EndsWith (v : SeatView E B) (first : B) (history : List E) : Type 0 where
    pub all : v.allowance + v.spent ≡ 2 ^ 63
    pub start : v.start ≡ Some first
    pub seen : Begins v.seen history
    pub mine : RisesTo 0 v.mine (length history)
    pub every : (p : ℕ) → p < length history → Among p v.mine
    pub turns : length history ≤ v.spent
