-- The rule of the turns: what holds of the two words, the slot and all views between any two steps. Word 0 is
-- the ticket that is served, word 1 the next ticket, and slot 0 has the value. (This project's own.)
use Rattle.std.specs.Prelude.{◌≡◌, ℕ, ◌+◌, ◌^◌, ◌<◌, ◌≤◌, ◌⊎◌, List, [], ◌∷◌, length, Option, Some, None}
use mathlib.Core.Option as m
use lib.ListN.{get_elem?}
use Rattle.atomic_table.specs.Table.{State}
use Rattle.turn_cell.specs.declared.view.SeatView.{SeatView}
use Rattle.turn_cell.specs.declared.view.Stage.{Stage}
use Rattle.turn_cell.specs.declared.view.Stage.TheVariants.{Outside, Waiting, InTurn}
use Rattle.turn_cell.specs.Lists.{Begins, RisesTo, Among, total}

module _ {E : Type 0} where
  -- 1 where there is a ticket
  abbrev pub tickets_at : Stage E → ℕ
  tickets_at Outside = 0
  tickets_at (Waiting t) = 1
  tickets_at (InTurn t before) = 1

  -- 1 in turn
  abbrev pub turns_at : Stage E → ℕ
  turns_at Outside = 0
  turns_at (Waiting t) = 0
  turns_at (InTurn t before) = 1

  abbrev pub HasTicket : Stage E → ℕ → Type 0
  HasTicket Outside t = ⊥
  HasTicket (Waiting mine) t = mine ≡ t
  HasTicket (InTurn mine before) t = mine ≡ t

  -- a ticket lies from the one that is served to below the next one, and the one in turn is served, with the
  -- current history
  abbrev pub StageFits : ℕ → ℕ → List E → Stage E → Type 0
  StageFits serving ticket current Outside = Unit {0}
  StageFits serving ticket current (Waiting t) = (serving ≤ t) × (t < ticket)
  StageFits serving ticket current (InTurn t before) = (t ≡ serving) × (t < ticket) × (before ≡ current)

  -- each list in a note begins the current history, and is no longer than most
  abbrev pub NoteFits : List E → ℕ → List (List E) → Type 0
  NoteFits current most [] = Unit {0}
  NoteFits current most (seen ∷ note) = Begins seen current × (length seen ≤ most) × NoteFits current most note

module _ {T : Type 0} where
  -- the value is out, with the one view that is in turn
  pub record IsOut (homes : List (m.Option (Option T))) (turns : ℕ) : Type 0 where
    pub away : homes ≡ m.none ∷ []
    pub one : turns ≡ 1

module _ {E B : Type 0} where
  -- the five numbers of a view of which the rule has sums
  abbrev pub tickets_of : SeatView E B → ℕ
  tickets_of v = tickets_at v.stage

  abbrev pub turns_of : SeatView E B → ℕ
  turns_of v = turns_at v.stage

  abbrev pub places_of : SeatView E B → ℕ
  places_of v = length v.mine

  abbrev pub spent_of : SeatView E B → ℕ
  spent_of v = v.spent

  abbrev pub allowance_of : SeatView E B → ℕ
  allowance_of v = v.allowance

  -- one view: its places lie in what was seen, which begins the current history, and are no more than the
  -- turns that were spent
  pub record ViewFits (start : B) (serving ticket : ℕ) (current : List E) (v : SeatView E B) : Type 0 where
    pub starts : (v.start ≡ Some start) ⊎ (v.start ≡ None)
    pub seen : Begins v.seen current
    pub mine : RisesTo 0 v.mine (length v.seen)
    pub fewer : length v.mine ≤ v.spent
    pub stands : StageFits serving ticket current v.stage
    pub note : NoteFits current (length v.seen) v.note

  -- no two views have the same
  abbrev pub Differ : (SeatView E B → ℕ → Type 0) → List (SeatView E B) → Type 0
  Differ Has vs =
      (i j : ℕ) (v w : SeatView E B) (t : ℕ)
      → get_elem? vs i ≡ m.some v → get_elem? vs j ≡ m.some w → Has v t → Has w t → i ≡ j

  abbrev pub TicketOf : SeatView E B → ℕ → Type 0
  TicketOf v t = HasTicket v.stage t

  abbrev pub PlaceOf : SeatView E B → ℕ → Type 0
  PlaceOf v p = Among p v.mine

  module _ {T : Type 0} (story : T → List E) (begins : T → B) where
    -- the value is at home and stands for the current history, and no view is in turn
    pub record IsHome (start : B) (current : List E) (homes : List (m.Option (Option T)))
        (turns : ℕ) : Type 0 where
      pub value : T
      pub lies : homes ≡ m.some (Some value) ∷ []
      pub stands : story value ≡ current
      pub starts : begins value ≡ start
      pub none : turns ≡ 0

    abbrev pub Lies : B → List E → List (m.Option (Option T)) → ℕ → Type 0
    Lies start current homes turns = IsHome start current homes turns ⊎ IsOut homes turns

    -- all views: no two have one ticket or one place. Added up, tickets that are out follow the one that is
    -- served, places are as many as entries, spent turns are the ticket that is served, and turns that are
    -- left and the next ticket are 2^63
    pub record IsTurnState (start : B) (s : State (Option T) (SeatView E B)) : Type 0 where
      pub serving : ℕ
      pub ticket : ℕ
      pub current : List E
      pub words : s.words ≡ serving ∷ ticket ∷ []
      pub home : Lies start current s.homes (total turns_of s.views)
      pub each : (i : ℕ) (v : SeatView E B) → get_elem? s.views i ≡ m.some v →
          ViewFits start serving ticket current v
      pub tickets : Differ TicketOf s.views
      pub places : Differ PlaceOf s.views
      pub drawn : serving + total tickets_of s.views ≡ ticket
      pub long : total places_of s.views ≡ length current
      pub served : serving ≡ total spent_of s.views
      pub whole : ticket + total allowance_of s.views ≡ 2 ^ 63
