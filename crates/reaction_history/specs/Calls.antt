-- What the calls on a shared machine tell. (This project's own.)
use Rattle.std.specs.Prelude.{◌≡◌, ℕ, ◌+◌, ◌-◌, ◌^◌, ◌<◌, List, [], ◌∷◌, ◌++◌, length, Some}
use Rattle.exec_instance.specs.declared.answer.Answer.{Answer}
use Rattle.hh_term.specs.declared.program.SignalDecl.{SignalDecl}
use Rattle.turn_cell.specs.declared.view.SeatView.{SeatView}
use Rattle.turn_cell.specs.declared.seat.Seat.{Seat}
use Rattle.turn_cell.specs.declared.storied.Storied.{Ghosts as Stories}
use Rattle.turn_cell.specs.Lists.{Begins}
use Rattle.turn_cell.specs.Calls.{StartIs, EndsWith, view}
use Rattle.turn_cell.specs.Calls as cells
use Rattle.notify_inbox.specs.declared.passes.Inbox.{Inbox}
use Rattle.notify_inbox.specs.Views.{taker}
use Rattle.notify_inbox.specs.Calls.{take_view, posters_of}
use Rattle.reaction_run.specs.declared.event.Event.{Event}
use Rattle.reaction_run.specs.declared.reply.Reply.{Reply}
use Rattle.reaction_run.specs.declared.log.Entry.{Entry}
use Rattle.reaction_run.specs.declared.reactor.Reactor.{Ghosts}
use Rattle.reaction_run.specs.Legal.{Legal, events_of}
use Rattle.reaction_run.specs.Machine.{Machine, State}
use Rattle.reaction_run.specs.Run.{final_state}
use Rattle.reaction_desk.specs.declared.desk.Desk.{Desk}
use Rattle.reaction_desk.specs.declared.desk.Opening.{Opening}
use Rattle.reaction_desk.specs.Adding.{entry_of}
use Rattle.reaction_desk.specs.Closing.{Posted}
use Rattle.reaction_desk.specs.Desks.{TakesFrom}
use Rattle.reaction_history.specs.declared.shared.Shared.{Shared}
use Rattle.reaction_history.specs.declared.ends.TurnEnd.{TurnEnd}
use Rattle.reaction_history.specs.declared.ends.TurnEnd.TheVariants as ends

-- what a call that gave no answer tells
abbrev pub EndsAs : TurnEnd → Type 0 → Type 0 → Type 0
EndsAs ends.Spent spent wanting = spent
EndsAs ends.NoMemory spent wanting = wanting

module _ {E B : Type 0} where
  -- one turn was spent
  pub record SpentOne (old new : SeatView E B) : Type 0 where
    pub left : 0 < old.allowance
    pub allowance : new.allowance ≡ old.allowance - 1
    pub spent : new.spent ≡ old.spent + 1

module _ {M Place : Type 0} (state : M → State Place) (machine : Machine Place) where
  -- a call that made an entry: what the seat has seen is a legal history, which begins with what it had seen
  -- and ends with this entry. Its place is the seat's, beside those that it had
  pub record HasAdded (old new : SeatView Entry (Opening M)) (of : List Answer →
      Event) (r : Reply) : Type 0 where
    pub first : Opening M
    pub start : old.start ≡ Some first
    pub same_start : new.start ≡ Some first
    pub legal : Legal machine (state first.machine) new.seen
    pub between : List Entry
    pub took : List Answer
    pub seen : new.seen ≡ (old.seen ++ between) ++ entry_of (of took) r ∷ []
    pub mine : new.mine ≡ old.mine ++ length (old.seen ++ between) ∷ []
    pub turn : SpentOne old new

  -- a call that made no entry, and told this of the state to which the history leads
  pub record HasLooked (old new : SeatView Entry (Opening M)) (Told : State Place → Type 0) : Type 0 where
    pub first : Opening M
    pub start : old.start ≡ Some first
    pub same_start : new.start ≡ Some first
    pub legal : Legal machine (state first.machine) new.seen
    pub seen : Begins old.seen new.seen
    pub mine : new.mine ≡ old.mine
    pub told : Told (final_state machine (state first.machine) (events_of new.seen))
    pub turn : SpentOne old new

  -- the end: the seat had all turns, and what it has seen begins the history, which is legal, leads to the
  -- state of the machine, and accounts for each post
  pub record HasClosed (v : SeatView Entry (Opening M)) (left_machine : M) (log : List Entry)
      (left : List Answer)
      (passes : List (List (ℕ × Answer))) (posters : ℕ) : Type 0 where
    pub first : Opening M
    pub end : EndsWith v first log
    pub legal : Legal machine (state first.machine) log
    pub leads : ∥ state left_machine ≡ final_state machine (state first.machine) (events_of log) ∥₁
    pub posted : Posted log left passes posters

-- the machine had this interface and nothing waited in it, and the pass is the one that was made with this
-- inbox
pub record BeginsWith {M : Type 0} (G : Ghosts M) (inbox : Inbox) (interface : List SignalDecl)
    (b : Opening M) : Type 0 where
  pub takes_from : TakesFrom inbox b.pass
  pub taker : take_view b.pass ≡ taker (16 - posters_of inbox)
  pub signals : G.signals b.machine ≡ interface
  pub none : (G.state b.machine).pending ≡ []

module _ {M : Type 0} {G : Ghosts M} {S : Stories (Desk M G) Entry (Opening M)} where
  -- it is a seat of the cell, whose desk began with the inbox beside it
  pub record IsSeatOf (c : Shared M G) (s : Seat (Desk M G) Entry (Opening M) S) : Type 0 where
    pub of : cells.IsSeatOf c.cell s
    pub begins : StartIs (BeginsWith G c.inbox c.interface.items) (view s)
