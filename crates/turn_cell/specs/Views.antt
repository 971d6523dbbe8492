-- What a seat knows, and how it changes. (This project's own.)
use Rattle.std.specs.Prelude.{ℕ, ◌+◌, ◌-◌, ◌/◌, ◌^◌, cond, ltb, List, [], ◌∷◌, ◌++◌, length, Some, None}
use Rattle.turn_cell.specs.declared.view.SeatView.{SeatView}
use Rattle.turn_cell.specs.declared.view.Stage.TheVariants.{Outside, Waiting, InTurn}
use Rattle.turn_cell.specs.Lists.{merge, longer}

-- the place of the entry that was made in a turn, if one was
abbrev pub gained : {E : Type 0} → List E → List E → List ℕ
gained before after = cond (ltb (length before) (length after)) (length before ∷ []) []

module _ {E B : Type 0} where
  abbrev pub first_view : B → SeatView E B
  first_view b =
      record {
        start = Some b;
        seen = [];
        mine = [];
        allowance = 2 ^ 63;
        spent = 0;
        stage = Outside;
        note = [];
      }

  -- that of a seat that was joined into another
  abbrev pub joined_away : SeatView E B
  joined_away =
      record {
        start = None;
        seen = [];
        mine = [];
        allowance = 0;
        spent = 0;
        stage = Outside;
        note = [];
      }

  -- a ticket is drawn
  abbrev pub with_ticket : SeatView E B → ℕ → SeatView E B
  with_ticket v t = record v { allowance = v.allowance - 1; stage = Waiting t }

  -- its turn has come, with this history
  abbrev pub in_turn : SeatView E B → ℕ → List E → SeatView E B
  in_turn v t before = record v { stage = InTurn t before }

  -- the turn is over
  abbrev pub after_turn : SeatView E B → List E → List E → SeatView E B
  after_turn v before after =
      record v {
        seen = after;
        mine = v.mine ++ gained before after;
        spent = v.spent + 1;
        stage = Outside;
      }

  -- a turn from its ticket to its end
  abbrev pub with_turn : SeatView E B → List E → List E → SeatView E B
  with_turn v before after =
      record v {
        seen = after;
        mine = v.mine ++ gained before after;
        allowance = v.allowance - 1;
        spent = v.spent + 1;
        stage = Outside;
      }

  abbrev pub kept_half : SeatView E B → SeatView E B
  kept_half v = record v { allowance = v.allowance - v.allowance / 2 }

  abbrev pub given_half : SeatView E B → SeatView E B
  given_half v =
      record v {
        mine = [];
        allowance = v.allowance / 2;
        spent = 0;
        stage = Outside;
        note = [];
      }

  -- with a note of what both had seen
  abbrev pub noted_both : SeatView E B → SeatView E B → SeatView E B
  noted_both v w =
      record v {
        seen = longer v.seen w.seen;
        mine = merge v.mine w.mine;
        allowance = v.allowance + w.allowance;
        spent = v.spent + w.spent;
        note = v.seen ∷ w.seen ∷ [];
      }

  abbrev pub without_note : SeatView E B → SeatView E B
  without_note v = record v { note = [] }

  abbrev pub joined : SeatView E B → SeatView E B → SeatView E B
  joined v w = without_note (noted_both v w)
