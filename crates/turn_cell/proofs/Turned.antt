-- A turn is a ticket drawn, a wait, a job and a leave.
use Rattle.std.proofs.Common.{◌≡◌, ℕ, ◌<◌, List, [], ◌∷◌, sym, ap, ◌∙◌, subst, Option, Some}
use Rattle.atomic_table.specs.Table.{Me}
use Rattle.turn_cell.specs.declared.view.SeatView.{SeatView}
use Rattle.turn_cell.specs.Lists.{Begins, GrowsByOneAtMost}
use Rattle.turn_cell.specs.Views.{with_ticket, in_turn, after_turn, with_turn}
use Rattle.turn_cell.specs.Steps.{IsAtRest, HasEntered, HasWorked, MayLeave}
use Rattle.turn_cell.specs.Calls.{StartIs, TookTurn}

module _ {E B T : Type 0} (story : T → List E) (begins : T → B) where
  abbrev Standing : Type 0
  Standing = Me (Option T) (SeatView E B)

  -- the slot that is held where the turn has come
  pub held_then : (old drawn come : Standing) (t : ℕ) → IsAtRest old → drawn ≡ (with_ticket old.0 t, old.1)
      → (e : HasEntered story begins drawn t come) → come.1 ≡ (0, Some e.value) ∷ []
  held_then old drawn come t rests draws e =
      ap (λ (m : Standing). m.1) e.took
      ∙ ap (λ (k : List (ℕ × Option T)). (0, Some e.value) ∷ k) (ap (λ (m : Standing). m.1) draws ∙ rests.held)

  -- the start of the value is the seat's
  pub start_then : (old drawn come : Standing) (t : ℕ) (rests : IsAtRest old) → drawn ≡ (with_ticket old.0 t, old.1)
      → (e : HasEntered story begins drawn t come) → begins e.value ≡ rests.first
  start_then old drawn come t rests draws e = e.start rests.first (ap (λ (m : Standing). m.0.start) draws ∙ rests.start)

  pub may_work : (P : B → Type 0) (old drawn come : Standing) (t : ℕ) → IsAtRest old → StartIs P old.0
      → drawn ≡ (with_ticket old.0 t, old.1) → HasEntered story begins drawn t come
      → (x : T) × (come.1 ≡ (0, Some x) ∷ []) × P (begins x)
  may_work P old drawn come t rests asks draws e = (
    e.value,
    held_then old drawn come t rests draws e,
    subst P (sym (start_then old drawn come t rests draws e)) (asks rests.first rests.start),
  )

  module _ (R : B → List E → List E → Type 0) where
    abbrev Works : Standing → Standing → Type 0
    Works come done = (x : T) → come.1 ≡ (0, Some x) ∷ [] → HasWorked story begins R x done.1

    pub may_leave : (old drawn come done : Standing) (t : ℕ) → IsAtRest old → drawn ≡ (with_ticket old.0 t, old.1)
        → HasEntered story begins drawn t come → done.0 ≡ come.0 → Works come done → MayLeave story begins done
    may_leave old drawn come done t rests draws e same work =
        let w = work e.value (held_then old drawn come t rests draws e) in
        record {
          ticket = t;
          before = story e.value;
          value = w.value;
          first = rests.first;
          stage = ap (λ (v : SeatView E B). v.stage) same ∙ ap (λ (m : Standing). m.0.stage) e.took;
          held = w.lies;
          grows = w.grows;
          start = ap (λ (v : SeatView E B). v.start) same
              ∙ (ap (λ (m : Standing). m.0.start) e.took ∙ (ap (λ (m : Standing). m.0.start) draws ∙ rests.start));
          begun = w.start ∙ start_then old drawn come t rests draws e;
        }

    abbrev Leaves : Standing → Standing → Type 0
    Leaves done new = (m : MayLeave story begins done) → new ≡ (after_turn done.0 m.before (story m.value), [])

    -- the view after a turn
    view_then : (old drawn come done new : Standing) (t : ℕ) (rests : IsAtRest old) (draws : drawn ≡ (with_ticket old.0 t, old.1))
        (e : HasEntered story begins drawn t come) (same : done.0 ≡ come.0) (work : Works come done) → Leaves done new
        → new ≡ (with_turn old.0 (story e.value) (story (work e.value (held_then old drawn come t rests draws e)).value), [])
    unfolding may_leave
    view_then old drawn come done new t rests draws e same work left =
        let w = work e.value (held_then old drawn come t rests draws e) in
        let l : List E = story e.value in let d : List E = story w.value in
        let was : done.0 ≡ in_turn (with_ticket old.0 t) t l =
        same ∙ (ap (λ (m : Standing). m.0) e.took ∙ ap (λ (m : Standing). in_turn m.0 t l) draws) in
        left (may_leave old drawn come done t rests draws e same work)
        ∙ ap (λ (v : SeatView E B). (after_turn v l d, [])) was

    pub turn_rests : (old drawn come done new : Standing) (t : ℕ) → IsAtRest old → drawn ≡ (with_ticket old.0 t, old.1)
        → HasEntered story begins drawn t come → done.0 ≡ come.0 → Works come done → Leaves done new → IsAtRest new
    turn_rests old drawn come done new t rests draws e same work left =
        let is = view_then old drawn come done new t rests draws e same work left in
        record {
          held = ap (λ (m : Standing). m.1) is;
          stage = ap (λ (m : Standing). m.0.stage) is;
          note = ap (λ (m : Standing). m.0.note) is ∙ rests.note;
          first = rests.first;
          start = ap (λ (m : Standing). m.0.start) is ∙ rests.start;
        }

    pub turn_done : (old drawn come done new : Standing) (t : ℕ) → IsAtRest old → 0 < old.0.allowance
        → drawn ≡ (with_ticket old.0 t, old.1) → HasEntered story begins drawn t come → done.0 ≡ come.0 → Works come done
        → Leaves done new → TookTurn R old.0 new.0
    turn_done old drawn come done new t rests some draws e same work left =
        let w = work e.value (held_then old drawn come t rests draws e) in
        let l : List E = story e.value in let d : List E = story w.value in
        let is : new.0 ≡ with_turn old.0 l d =
        ap (λ (m : Standing). m.0) (view_then old drawn come done new t rests draws e same work left) in
        let seen : d ≡ new.0.seen = sym (ap (λ (v : SeatView E B). v.seen) is) in
        record {
          left = some;
          before = l;
          first = rests.first;
          start = rests.start;
          seen = subst (λ (v : SeatView E B). Begins v.seen l) (ap (λ (m : Standing). m.0) draws) e.seen;
          grows = subst (GrowsByOneAtMost l) seen w.grows;
          job = subst (R rests.first l) seen (subst (λ (b : B). R b l d) (start_then old drawn come t rests draws e) w.job);
          view = subst (λ (z : List E). new.0 ≡ with_turn old.0 l z) seen is;
        }
