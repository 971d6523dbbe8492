-- What a turn tells, as the calls say it.
use Rattle.std.proofs.Common.{◌≡◌, ℕ, ◌+◌, ◌-◌, ◌<◌, List, [], ◌∷◌, ◌++◌, length, refl, sym, ◌∙◌, ap, subst, Some, Ok, Err, Result, IfOk, OnErr, append-nil}
use Rattle.exec_instance.specs.declared.answer.Answer.{Answer}
use Rattle.turn_cell.specs.declared.view.SeatView.{SeatView}
use Rattle.turn_cell.specs.Lists.{Begins}
use Rattle.turn_cell.specs.Views.{gained, with_turn}
use Rattle.turn_cell.specs.Calls.{TookTurn, StartIs}
use Rattle.turn_cell.proofs.Places.{gained_one, gained_none}
use Rattle.reaction_run.specs.declared.event.Event.{Event}
use Rattle.reaction_run.specs.declared.reply.Reply.{Reply}
use Rattle.reaction_run.specs.declared.log.Entry.{Entry}
use Rattle.reaction_run.specs.Machine.{Machine, State}
use Rattle.reaction_run.specs.Run.{final_state}
use Rattle.reaction_run.specs.Legal.{events_of}
use Rattle.reaction_desk.specs.declared.desk.Opening.{Opening}
use Rattle.reaction_desk.specs.Adding.{IsAdded, entry_of}
use Rattle.reaction_history.specs.Jobs.{AddedOne, LookedAt}
use Rattle.reaction_history.specs.Calls.{SpentOne, HasAdded, HasLooked}

spent_one : {E B : Type 0} (v w : SeatView E B) (l : List E) → 0 < v.allowance → w ≡ with_turn v l w.seen → SpentOne v w
spent_one {E} {B} v w l some is = record { left = some; allowance = ap (λ (z : SeatView E B). z.allowance) is; spent = ap (λ (z : SeatView E B). z.spent) is }

-- a turn keeps the start
pub still : {E B : Type 0} (P : B → Type 0) (R : B → List E → List E → Type 0) (v w : SeatView E B) → StartIs P v → TookTurn R v w → StartIs P w
still {E} {B} P R v w is t = λ b e. is b (sym (ap (λ (z : SeatView E B). z.start) t.view) ∙ e)

module _ {M Place : Type 0} (state : M → State Place) (machine : Machine Place) where
  pub added : {N : Type 0} (v w : SeatView Entry (Opening M)) (of : List Answer → Event) (r : Reply) (out : Result Reply N) → out ≡ Ok r
      → TookTurn (λ b xs ys. AddedOne machine (state b.machine) of xs ys out) v w → HasAdded state machine v w of r
  added {N} v w of r out is t =
      let l : List Entry = t.before in
      let one : (took : List Answer) × IsAdded l w.seen (of took) r = subst (λ (o : Result Reply N). IfOk o (λ s. (took : List Answer) × IsAdded l w.seen (of took) s)) is t.job.entry in
      let e : Entry = entry_of (of one.0) r in
      let place : gained l w.seen ≡ length (v.seen ++ t.seen.0) ∷ [] = ap (gained l) one.1 ∙ gained_one l e ∙ ap (λ (z : List Entry). length z ∷ []) t.seen.1 in
      record {
        first = t.first;
        start = t.start;
        same_start = ap (λ (z : SeatView Entry (Opening M)). z.start) t.view ∙ t.start;
        legal = t.job.legal;
        between = t.seen.0;
        took = one.0;
        seen = one.1 ∙ ap (λ (z : List Entry). z ++ e ∷ []) t.seen.1;
        mine = ap (λ (z : SeatView Entry (Opening M)). z.mine) t.view ∙ ap (λ (z : List ℕ). v.mine ++ z) place;
        turn = spent_one v w l t.left t.view;
      }

  -- a turn whose job left the history as it was
  looked_in : (v w : SeatView Entry (Opening M)) (l : List Entry) → gained l w.seen ≡ [] → w ≡ with_turn v l w.seen → w.mine ≡ v.mine
  looked_in v w l none is = ap (λ (z : SeatView Entry (Opening M)). z.mine) is ∙ ap (λ (z : List ℕ). v.mine ++ z) none ∙ append-nil v.mine

  pub looked : (v w : SeatView Entry (Opening M)) (Told : State Place → Type 0) → TookTurn (λ b xs ys. LookedAt machine (state b.machine) xs ys Told) v w → HasLooked state machine v w Told
  looked v w Told t =
      let l : List Entry = t.before in
      record {
        first = t.first;
        start = t.start;
        same_start = ap (λ (z : SeatView Entry (Opening M)). z.start) t.view ∙ t.start;
        legal = t.job.legal;
        seen = subst (λ (z : List Entry). Begins v.seen z) (sym t.job.same) t.seen;
        mine = looked_in v w l (ap (gained l) t.job.same ∙ gained_none l) t.view;
        told = t.job.told;
        turn = spent_one v w l t.left t.view;
      }

  -- a turn in which memory ran out
  pub wanting : {N : Type 0} (v w : SeatView Entry (Opening M)) (of : List Answer → Event) (x : N) (out : Result Reply N) → out ≡ Err x
      → TookTurn (λ b xs ys. AddedOne machine (state b.machine) of xs ys out) v w → HasLooked state machine v w (λ _. Unit {0})
  wanting {N} v w of x out is t =
      let l : List Entry = t.before in
      let same : w.seen ≡ l = subst (λ (o : Result Reply N). OnErr o (w.seen ≡ l)) is t.job.none in
      record {
        first = t.first;
        start = t.start;
        same_start = ap (λ (z : SeatView Entry (Opening M)). z.start) t.view ∙ t.start;
        legal = t.job.legal;
        seen = subst (λ (z : List Entry). Begins v.seen z) (sym same) t.seen;
        mine = looked_in v w l (ap (gained l) same ∙ gained_none l) t.view;
        told = tt;
        turn = spent_one v w l t.left t.view;
      }

  -- the ids that were asked for, where there was memory for them, and where not
  pub asked : {X N : Type 0} (v w : SeatView Entry (Opening M)) (Told : X → State Place → Type 0) (x : X) (out : Result X N) → out ≡ Ok x
      → TookTurn (λ b xs ys. LookedAt machine (state b.machine) xs ys (λ s. IfOk out (λ y. Told y s))) v w → HasLooked state machine v w (Told x)
  asked {X} {N} v w Told x out is t = let h = looked v w (λ s. IfOk out (λ y. Told y s)) t in record { first = h.first; start = h.start; same_start = h.same_start; legal = h.legal; seen = h.seen; mine = h.mine; told = subst (λ (o : Result X N). IfOk o (λ y. Told y (final_state machine (state h.first.machine) (events_of w.seen)))) is h.told; turn = h.turn }

  pub not_asked : (v w : SeatView Entry (Opening M)) (Told : State Place → Type 0) → TookTurn (λ b xs ys. LookedAt machine (state b.machine) xs ys Told) v w → HasLooked state machine v w (λ _. Unit {0})
  not_asked v w Told t = let h = looked v w Told t in record { first = h.first; start = h.start; same_start = h.same_start; legal = h.legal; seen = h.seen; mine = h.mine; told = tt; turn = h.turn }
