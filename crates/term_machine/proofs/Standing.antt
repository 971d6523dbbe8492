-- In every run of the machine the ids in the marks are those of the running instances.
use Rattle.std.proofs.Common.{inl, inr, ◌≡◌, ◌≢◌, ℕ, zero, suc, ◌+◌, ◌<◌, ◌≤◌, Bool, true, false, cond, Option, Some, None, List, [], ◌∷◌, ◌++◌, map, length, refl, sym, ◌∙◌, ap, subst, arith}
use Rattle.std.specs.Prelude.{◌==◌, ◌&&◌, not, is_some, if◌then◌else◌, nat_le}
use Rattle.std.specs.List.{AllByRecursion, list_all}
use Rattle.std.specs.Option.{option_or}
use Rattle.std.proofs.lemmas.Bool.{cases_lt}
use Rattle.std.proofs.lemmas.Bool.Decides.{nat_tests}
use Rattle.hh_term.specs.Statement.{Statement}
use Rattle.hh_term.specs.Selection.{Selection, Control, At, Ended}
use Rattle.hh_term.specs.Kernel.{Kernel}
use Rattle.hh_term.specs.Pairs.{EachPair}
use Rattle.hh_term.specs.Marks.{IsMarkOf, IsControlOf, IdsDiffer, ids_of}
use Rattle.hh_term.specs.Step.{Stepped}
use Rattle.hh_term.specs.Touches.{Touch, by_site, numbered, marks_numbered}
use Rattle.hh_term.specs.Reaction as term
use Rattle.exec_instance.specs.declared.answer.Answer.{Answer}
use Rattle.exec_instance.specs.declared.change.Change.{Change}
use Rattle.exec_instance.specs.declared.instance.Instance.{Instance}
use Rattle.exec_instance.specs.Changes.{change_of}
use Rattle.exec_instance.specs.Effects.{born, last_after, after_change, changed, advanced}
use Rattle.exec_instance.specs.Running.{holder, IsRising}
use Rattle.exec_instance.proofs.Advancing.{Rise-advanced}
use Rattle.reaction_run.specs.declared.event.Event.{Event}
use Rattle.reaction_run.specs.declared.event.Input.{Input}
use Rattle.reaction_run.specs.Machine.{State, Outcome, Undecided, Doubled, Faulted, Completes, Completed, begin}
use Rattle.reaction_run.specs.Run.{final_state, next_state, state_after, outcome, with_answers, rules}
use Rattle.reaction_run.specs.Lives.{UsesOneIn, UsesOne}
use Rattle.reaction_run.proofs.Events.{of_event, rising_with}
use Rattle.reaction_run.proofs.Holders.{found_id, held_above, held_within, some_entered, kept_of, born_above, holder_advanced}
use Rattle.term_machine.specs.Place.{Place, start_of, control_with_queues}
use Rattle.term_machine.specs.ConstructiveMachine.{change_by, completed_by, outcome_by, input_pair, reaction_at, constructive}
use Rattle.term_machine.specs.Standing.{times, Stands}
use Rattle.term_machine.proofs.Tracking.{Tracks, MarkIs, ids_next, going_ids}
use Rattle.term_machine.proofs.Fairness.{IsFair}
use Rattle.term_machine.proofs.Numbering.{number, zeros, numbers, numbered_is, number_none, number_low, number_high, one_if, born_high}
use Rattle.term_machine.proofs.Touched.{total, old_with, going_with, unfair, total_by_site, old_times, going_times, zeros_times, none_unfair, none_going, found_change, born_count, new_going, uses_one_each}
use Rattle.term_machine.proofs.Reactions.{OnOutcome, Moves, moves}
use Rattle.term_machine.proofs.Waiting.{ids_with_queues, rests_with_queues}

-- control after a step

abbrev control_of : ℕ → Option Selection → Control
control_of last o = (elim o [ Some m ↦ At (marks_numbered last m).0 | None ↦ Ended ])

ids_after : (last : ℕ) (o : Option Selection) → ids_of (control_of last o) ≡ number last (ids_next o)
ids_after last (Some m) = (numbers last m).ids
ids_after last None = refl

some_if : (b : Bool) (i : Instance) → is_some (if b then Some i else None) ≡ b
some_if true i = refl
some_if false i = refl

or_none : (o n : Option Instance) → n ≡ None → is_some (option_or o n) ≡ is_some o
or_none (Some i) n e = refl
or_none None n e = ap (λ (x : Option Instance). is_some x) e

past_none : (id last : ℕ) (W : List Instance) (o : Option Instance) → IsRising W last → last < id → holder W id ≡ o → o ≡ None
past_none id last W (Some j) rise h is = let g : id ≤ last = held_within id 0 last W j rise is in absurd (omega arith)
past_none id last W None rise h is = refl

-- the ids after a step, beside those of the instances that run then
module _ (K : Kernel) (last : ℕ) (held : List ℕ) (a : Stepped) (W : List Instance) (t : Tracks (IsMarkOf K.statement) held a) (fair : IsFair a) (rise : IsRising W last) (marked : (id : ℕ) → times id held ≡ one_if (is_some (holder W id))) where
  abbrev changes : List Change
  changes = map (change_by K) (numbered last (by_site a.touches))

  all_fair : total unfair (by_site a.touches) ≡ 0
  all_fair = total_by_site unfair a.touches ∙ none_unfair a.touches fair

  olds : (id : ℕ) → total (old_with id) (by_site a.touches) ≡ one_if (is_some (holder W id))
  olds id = total_by_site (old_with id) a.touches ∙ sym (old_times id a.touches) ∙ ap (times id) t.olds ∙ marked id

  going : (id : ℕ) → times id (going_ids a.touches) ≡ total (going_with id) (by_site a.touches)
  going id = going_times id a.touches ∙ sym (total_by_site (going_with id) a.touches)

  kept_one : (id : ℕ) (o : Option Instance) → 1 ≤ id → holder W id ≡ o → total (going_with id) (by_site a.touches) ≡ one_if (is_some (kept_of (change_of changes) o))
  kept_one id (Some i) h is =
      let f = found_change K id (by_site a.touches) last h all_fair (olds id ∙ ap (λ (o : Option Instance). one_if (is_some o)) is) in
      let c = change_by K f.touch in
      sym
      (ap (λ (o : Option Change). one_if (is_some (after_change i o))) (ap (change_of changes) (found_id W id i is) ∙ f.found)
      ∙ ap one_if (some_if (not f.touch.ended && f.touch.runs_after) (changed i c)) ∙ f.runs)
  kept_one id None h is = none_going id (by_site a.touches) h all_fair (olds id ∙ ap (λ (o : Option Instance). one_if (is_some o)) is)

  holds_at : (id : ℕ) → is_some (holder (advanced last changes W) id) ≡ is_some (option_or (kept_of (change_of changes) (holder W id)) (holder (born last changes) id))
  holds_at id = ap (λ (o : Option Instance). is_some o) (holder_advanced (change_of changes) id last changes W rise)

  at_zero : times 0 (number last (going_ids a.touches)) ≡ one_if (is_some (holder (advanced last changes W) 0))
  at_zero = number_none last (going_ids a.touches) ∙ sym (ap (λ (o : Option Instance). one_if (is_some o)) (held_above 0 0 (last_after last changes) (advanced last changes W) (Rise-advanced (change_of changes) last changes W rise) (omega arith)))

  at_low : (id : ℕ) → 1 ≤ id → id ≤ last → times id (number last (going_ids a.touches)) ≡ one_if (is_some (holder (advanced last changes W) id))
  at_low id h g =
      number_low last id (going_ids a.touches) h g ∙ going id ∙ kept_one id (holder W id) h refl
      ∙ sym (ap one_if (holds_at id ∙ or_none (kept_of (change_of changes) (holder W id)) (holder (born last changes) id) (born_above id last changes g)))

  new_count : zeros (going_ids a.touches) ≡ length (born last changes)
  new_count =
      zeros_times (going_ids a.touches) ∙ going 0
      ∙ new_going (by_site a.touches) all_fair (olds 0 ∙ ap (λ (o : Option Instance). one_if (is_some o)) (held_above 0 0 last W rise (omega arith)))
      ∙ sym (born_count K (by_site a.touches) last last)

  at_high : (id : ℕ) → last < id → times id (number last (going_ids a.touches)) ≡ one_if (is_some (holder (advanced last changes W) id))
  at_high id h =
      let none : holder W id ≡ None = past_none id last W (holder W id) rise h refl in
      let quiet : times id (going_ids a.touches) ≡ 0 = going id ∙ none_going id (by_site a.touches) (omega arith) all_fair (olds id ∙ ap (λ (o : Option Instance). one_if (is_some o)) none) in
      number_high last id (going_ids a.touches) h quiet ∙ ap (λ (n : ℕ). one_if (nat_le id (last + n))) new_count
      ∙ sym (ap one_if (holds_at id ∙ ap (λ (o : Option Instance). is_some (option_or (kept_of (change_of changes) o) (holder (born last changes) id))) none ∙ born_high id changes last h))

  by_place : (id : ℕ) → times id (number last (going_ids a.touches)) ≡ one_if (is_some (holder (advanced last changes W) id))
  by_place zero = at_zero
  by_place (suc n) = elim (cases_lt last (suc n)) [ inl h ↦ at_high (suc n) h | inr h ↦ at_low (suc n) (omega arith) h ]

  pub marked_after : (id : ℕ) → times id (ids_of (control_of last a.next)) ≡ one_if (is_some (holder (advanced last changes W) id))
  marked_after id = ap (times id) (ids_after last a.next ∙ ap (number last) (sym t.going)) ∙ by_place id

rests_after : (p : Statement) (last : ℕ) (o : Option Selection) → ((m : Selection) → o ≡ Some m → IsMarkOf p m) → IsControlOf p (control_of last o)
rests_after p last (Some m) h = numbered_is p last m (h m refl)
rests_after p last None h = tt

-- the machine

OnMachine : (Completed Place → Type 0) → Outcome Place → Type 0
OnMachine P (Completes c) = P c
OnMachine P _ = Unit {0}

abbrev Comes : Kernel → (term.Completed → Type 0) → Completed Place → Type 0
Comes K P c = (d : term.Completed) × (c ≡ completed_by K d) × P d

on_machine : (K : Kernel) (P : term.Completed → Type 0) (o : term.Outcome) → OnOutcome P o → OnMachine (Comes K P) (outcome_by K o)
unfolding OnMachine
on_machine K P (term.Completes d) h = (d, refl, h)
on_machine K P (term.Undecided signals) h = tt
on_machine K P (term.Doubled signal) h = tt
on_machine K P (term.Faulted at kind) h = tt

-- where a reaction completes, its changes and its control are those of its step
machine_moves : (place : Place) (running : List Instance) (inputs : List Input) (last : ℕ) (c : Completed Place) → reaction_at place running inputs last ≡ Completes c → Comes place.kernel (Moves place.kernel.statement (control_with_queues running place.control) last) c
unfolding OnMachine
machine_moves place running inputs last c is =
    subst (OnMachine (Comes place.kernel (Moves place.kernel.statement (control_with_queues running place.control) last))) is
    (on_machine place.kernel (Moves place.kernel.statement (control_with_queues running place.control) last) _ (moves place.kernel (control_with_queues running place.control) place.lasts (map input_pair inputs) last))

mark_of : (p : Statement) (a : Stepped) (held : List ℕ) → Tracks (IsMarkOf p) held a → (m : Selection) → a.next ≡ Some m → IsMarkOf p m
mark_of p a held t m is = subst (MarkIs (IsMarkOf p)) is t.mark

completed_after : (S : State Place) (took : List Answer) (K : Kernel) (d : term.Completed) (a : Stepped) → d.next ≡ control_of S.last a.next → d.touches ≡ numbered S.last (by_site a.touches) → IsControlOf K.statement (control_of S.last a.next)
    → IsRising (advanced S.last (map (change_by K) (numbered S.last (by_site a.touches))) (with_answers constructive S took)) (last_after S.last (map (change_by K) (numbered S.last (by_site a.touches))))
    → ((id : ℕ) → times id (ids_of (control_of S.last a.next)) ≡ one_if (is_some (holder (advanced S.last (map (change_by K) (numbered S.last (by_site a.touches))) (with_answers constructive S took)) id)))
    → Stands (state_after constructive S took (Completes (completed_by K d)))
completed_after S took K d a next touches rests rising marked =
    let W = with_answers constructive S took in
    record {
      rests = subst (IsControlOf K.statement) (sym next) rests;
      rising = subst (λ (ts : List Touch). IsRising (advanced S.last (map (change_by K) ts) W) (last_after S.last (map (change_by K) ts))) (sym touches) rising;
      marked = λ id. ap (λ (c : Control). times id (ids_of c)) next ∙ marked id ∙ ap (λ (ts : List Touch). one_if (is_some (holder (advanced S.last (map (change_by K) ts) W) id))) (sym touches);
    }

done_stands : (S : State Place) (inputs : List Input) (took : List Answer) (c : Completed Place) → outcome constructive S inputs took ≡ Completes c → Stands S → Stands (state_after constructive S took (Completes c))
done_stands S inputs took c is s =
    let K = S.place.kernel in
    let W = with_answers constructive S took in
    let r = machine_moves S.place W inputs S.last c is in
    let d = r.0 in
    let m = r.2 in
    let ctl = control_with_queues W S.place.control in
    let a = m.stepped in
    let t = m.steps.0 (rests_with_queues W K.statement S.place.control s.rests) in
    let up = rising_with constructive S took s.rising in
    let held : (id : ℕ) → times id (ids_of ctl) ≡ one_if (is_some (holder W id)) = λ id. ap (times id) (ids_with_queues W S.place.control) ∙ s.marked id ∙ ap one_if (sym (some_entered id (rules constructive S) (S.pending ++ took) S.running)) in
    let done = completed_after S took K d a m.next m.touches
    (rests_after K.statement S.last a.next (mark_of K.statement a (ids_of ctl) t))
    (Rise-advanced (change_of (map (change_by K) (numbered S.last (by_site a.touches)))) S.last (map (change_by K) (numbered S.last (by_site a.touches))) W up)
    (marked_after K S.last (ids_of ctl) a W t m.steps.1 up held) in
    subst (λ (x : Completed Place). Stands (state_after constructive S took (Completes x))) (sym r.1) done

event_stands : (S : State Place) (e : Event) → Stands S → Stands (next_state constructive S e)
event_stands =
    of_event constructive (λ S took r next. Stands S → Stands next) (λ S took s. s) (λ S took r refuses quiet s. record { rests = s.rests; rising = s.rising; marked = s.marked }) done_stands
    (λ S s. record { rests = tt; rising = omega arith; marked = λ id. refl })

stands_on : (events : List Event) (S : State Place) → Stands S → Stands (final_state constructive S events)
stands_on [] S s = s
stands_on (e ∷ es) S s = stands_on es (next_state constructive S e) (event_stands S e s)

pub stands : (K : Kernel) (last : ℕ) (events : List Event) → Stands (final_state constructive (begin constructive (start_of K) last) events)
stands K last events = stands_on events (begin constructive (start_of K) last) (record { rests = tt; rising = omega arith; marked = λ id. refl })

pub stands_from : (S : State Place) (events : List Event) → Stands S → Stands (final_state constructive S events)
stands_from S events s = stands_on events S s

-- no instance uses two answers in one reaction

single_uses : (K : Kernel) (p : Statement) (c : Control) (last : ℕ) (x : Completed Place) → Comes K (Moves p c last) x → list_all (λ c. not (c.used && c.ended)) x.changes ≡ true
single_uses K p c last x h =
    let m = h.2 in
    ap (λ (y : Completed Place). list_all (λ c. not (c.used && c.ended)) y.changes) h.1 ∙ ap (λ (ts : List Touch). list_all (λ c. not (c.used && c.ended)) (map (change_by K) ts)) m.touches
    ∙ uses_one_each K (by_site m.stepped.touches) last (total_by_site unfair m.stepped.touches ∙ none_unfair m.stepped.touches m.steps.1)

uses_in : (o : Outcome Place) → ((x : Completed Place) → o ≡ Completes x → list_all (λ c. not (c.used && c.ended)) x.changes ≡ true) → UsesOneIn o
uses_in (Completes x) h = h x refl
uses_in (Undecided names) h = tt
uses_in (Doubled name) h = tt
uses_in (Faulted at kind) h = tt

pub constructive_uses_one : UsesOne constructive
constructive_uses_one place running inputs last =
    uses_in (reaction_at place running inputs last) (λ x is. single_uses place.kernel place.kernel.statement (control_with_queues running place.control) last x (machine_moves place running inputs last x is))

-- ids of which each stands there once at most differ

times_same : (i : ℕ) (is : List ℕ) → times i (i ∷ is) ≤ 1 → times i is ≡ 0
times_same i is h = none_more (i == i) (times i is) (same_id i) h
  where
    same_id : (i : ℕ) → (i == i) ≡ true
    same_id i = grind (arith, nat_tests)

    none_more : (b : Bool) (n : ℕ) → b ≡ true → cond b (suc n) n ≤ 1 → n ≡ 0
    none_more true n e h = omega arith
    none_more false n e h = cc

times_tail : (id i : ℕ) (is : List ℕ) → times id (i ∷ is) ≤ 1 → times id is ≤ 1
times_tail id i is h = at_most (i == id) (times id is) h
  where
    at_most : (b : Bool) (n : ℕ) → cond b (suc n) n ≤ 1 → n ≤ 1
    at_most true n h = omega arith
    at_most false n h = h

all_apart : (i : ℕ) (is : List ℕ) → times i is ≡ 0 → AllByRecursion (λ j. i ≢ j) is
all_apart i [] h = tt
all_apart i (j ∷ js) h = let p = apart (j == i) (times i js) refl h in (p.0, all_apart i js p.1)
  where
    differs : (i j : ℕ) → (j == i) ≡ false → i ≢ j
    differs i j e = grind (arith, nat_tests)

    apart : (b : Bool) (n : ℕ) → (j == i) ≡ b → cond b (suc n) n ≡ 0 → (i ≢ j) × (n ≡ 0)
    apart true n e h = absurd (omega arith)
    apart false n e h = (differs i j e, h)

each_differs : (is : List ℕ) → ((id : ℕ) → times id is ≤ 1) → EachPair (λ i j. i ≢ j) is
each_differs [] h = tt
each_differs (i ∷ is) h = (all_apart i is (times_same i is (h i)), each_differs is (λ id. times_tail id i is (h id)))

once : (b : Bool) (n : ℕ) → n ≡ one_if b → n ≤ 1
once true n e = omega arith
once false n e = omega arith

pub ids_differ : (S : State Place) → Stands S → IdsDiffer S.place.control
ids_differ S s = each_differs (ids_of S.place.control) (λ id. once (is_some (holder S.running id)) (times id (ids_of S.place.control)) (s.marked id))
