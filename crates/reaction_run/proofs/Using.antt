-- The values that an instance used are those that entered for it, in order.
use Rattle.std.proofs.Common.{inl, inr, ◌≡◌, ℕ, ◌≤◌, Bool, true, false, cond, Option, Some, None, List, [], ◌∷◌, ◌++◌, map, drop, refl, sym, ◌∙◌, ap, subst, arith, append-nil, append_assoc}
use Rattle.std.specs.Prelude.{◌⊎◌, ◌&&◌, ◌||◌, if◌then◌else◌, not, option_map, is_some, slice_get}
use Rattle.std.specs.List.{list_all}
use Rattle.std.specs.Option.{option_or, option_to_list}
use Rattle.std.proofs.lemmas.List.Elements.{filter-append}
use Rattle.hh_base.specs.declared.value.Value.{Value}
use Rattle.hh_base.specs.declared.item.Item.{Item}
use Rattle.exec_instance.specs.declared.answer.Answer.{Answer}
use Rattle.exec_instance.specs.declared.change.Change.{Change}
use Rattle.exec_instance.specs.declared.instance.Instance.{Instance}
use Rattle.exec_instance.specs.declared.effect.Effect.{Effect}
use Rattle.exec_instance.specs.declared.effect.Effect.TheVariants.{Dropped, More, Ended, Killed, Suspended, Resumed, Started}
use Rattle.exec_instance.specs.declared.table.Row.TheVariants as row
use Rattle.exec_instance.specs.Changes.{change_of, is_of}
use Rattle.exec_instance.specs.Effects.{born, last_after, when, after_change, with_change}
use Rattle.exec_instance.specs.Running.{holder, IsRising}
use Rattle.reaction_run.specs.declared.event.Event.{Event}
use Rattle.reaction_run.specs.declared.reply.Reply.{Reply}
use Rattle.reaction_run.specs.declared.reply.Reply.TheVariants as reply
use Rattle.reaction_run.specs.declared.event.Input.{Input}
use Rattle.reaction_run.specs.Machine.{Machine, State, Completed, Completes}
use Rattle.reaction_run.specs.Run.{replies, next_state, reply_of, reply_to, state_after, refused, with_answers, outcome, rules, killed}
use Rattle.reaction_run.specs.Legal.{took_by, is_done}
use Rattle.reaction_run.specs.Laws.{IsGone}
use Rattle.reaction_run.specs.Told.{is_on, about, effects_in, told, item_value, values_waiting, values_entering, used_values, Stopped, IsLife, stage_of, waiting_for, entered_at, entered_in}
use Rattle.reaction_run.specs.Lives.{uses_one, UsesOneIn, UsesOne, IsBeginning}
use Rattle.reaction_run.proofs.Telling.{told_of, old_told, start_of, about_each}
use Rattle.reaction_run.proofs.Holders.{kept_of, waits_entered, held_within, born_above, born_empty, holder_advanced}
use Rattle.reaction_run.proofs.Events.{of_event, rises, rising_with}
use Rattle.reaction_run.proofs.Stages.{staged, at_or_before, about_done, kill_of, kills_each, lives}

-- what effects tell to be used

used_front : (e : Effect) (xs ys : List Effect) → used_values (xs ++ ys) ≡ used_values xs ++ used_values ys → used_values ((e ∷ xs) ++ ys) ≡ used_values (e ∷ xs) ++ used_values ys
used_front (More id v) xs ys h = ap (λ (vs : List Value). v ∷ vs) h
used_front (Ended id v) xs ys h = ap (λ (vs : List Value). v ∷ vs) h
used_front (Dropped id reason) xs ys h = h
used_front (Killed id action) xs ys h = h
used_front (Suspended id action) xs ys h = h
used_front (Resumed id action) xs ys h = h
used_front (Started id body args) xs ys h = h

pub used-append : (xs ys : List Effect) → used_values (xs ++ ys) ≡ used_values xs ++ used_values ys
used-append [] ys = refl
used-append (e ∷ xs) ys = used_front e xs ys (used-append xs ys)

-- one that has stopped uses nothing

pub stopped_unused : (es : List Effect) → IsLife Stopped es → used_values es ≡ []
stopped_unused [] h = refl
stopped_unused (Suspended id action ∷ es) h = stopped_unused es h
stopped_unused (Resumed id action ∷ es) h = stopped_unused es h
stopped_unused (Dropped id reason ∷ es) h = absurd h
stopped_unused (More id v ∷ es) h = absurd h
stopped_unused (Ended id v ∷ es) h = absurd h
stopped_unused (Killed id v ∷ es) h = absurd h
stopped_unused (Started id v args ∷ es) h = absurd h

-- what the rows on one instance tell to be used

first_value : List Item → List Value
first_value [] = []
first_value (a ∷ rest) = a.value ∷ []

used_more : (id : ℕ) (b : Bool) (q : List Item) → used_values (option_to_list (when b (option_map (λ a. More id a.value) (slice_get q 0)))) ≡ (if b then first_value q else [])
unfolding first_value
used_more id true [] = refl
used_more id true (a ∷ rest) = refl
used_more id false q = refl

used_ended : (id : ℕ) (b : Bool) (q : List Item) → used_values (option_to_list (when b (option_map (λ a. Ended id a.value) (slice_get q 0)))) ≡ (if b then first_value q else [])
unfolding first_value
used_ended id true [] = refl
used_ended id true (a ∷ rest) = refl
used_ended id false q = refl

used_killed : (id : ℕ) (text : Option (List ℕ)) (b : Bool) → used_values (option_to_list (when b (Some (Killed id text)))) ≡ []
used_killed id text true = refl
used_killed id text false = refl

used_suspended : (id : ℕ) (text : Option (List ℕ)) (b : Bool) → used_values (option_to_list (when b (Some (Suspended id text)))) ≡ []
used_suspended id text true = refl
used_suspended id text false = refl

used_resumed : (id : ℕ) (text : Option (List ℕ)) (b : Bool) → used_values (option_to_list (when b (Some (Resumed id text)))) ≡ []
used_resumed id text true = refl
used_resumed id text false = refl

none_more : (xs ys : List Effect) (vs : List Value) → used_values xs ≡ vs → used_values ys ≡ [] → used_values (xs ++ ys) ≡ vs
none_more xs ys vs e f = used-append xs ys ∙ ap (λ (us : List Value). us ++ used_values ys) e ∙ ap (λ (us : List Value). vs ++ us) f ∙ append-nil vs

used_both : (xs ys : List Effect) (vs us : List Value) → used_values xs ≡ vs → used_values ys ≡ us → used_values (xs ++ ys) ≡ vs ++ us
used_both xs ys vs us e f = used-append xs ys ∙ ap (λ (ws : List Value). ws ++ used_values ys) e ∙ ap (λ (ws : List Value). vs ++ ws) f

-- the rows on an instance whose change is known
rows_of : Instance → Option Change → List Effect
rows_of i o = option_to_list (with_change row.More i o) ++ option_to_list (with_change row.Ended i o) ++ option_to_list (with_change row.Killed i o) ++ option_to_list (with_change row.Suspended i o) ++ option_to_list (with_change row.Resumed i o)

used_by_rows : (i : Instance) (c : Change) → used_values (rows_of i (Some c)) ≡ (if c.used then first_value i.queue else []) ++ (if c.ended then first_value i.queue else [])
unfolding rows_of
used_by_rows i c =
    let m = option_to_list (with_change row.More i (Some c)) in
    let e = option_to_list (with_change row.Ended i (Some c)) in
    let k = option_to_list (with_change row.Killed i (Some c)) in
    let s = option_to_list (with_change row.Suspended i (Some c)) in
    let r = option_to_list (with_change row.Resumed i (Some c)) in
    none_more (m ++ e ++ k ++ s) r _
    (none_more (m ++ e ++ k) s _
    (none_more (m ++ e) k _ (used_both m e _ _ (used_more i.id c.used i.queue) (used_ended i.id c.ended i.queue)) (used_killed i.id c.kill (not c.ended && not c.runs_after)))
    (used_suspended i.id c.suspend (c.held && c.runs_after && not i.suspended)))
    (used_resumed i.id c.resume (i.suspended && c.resumed && c.runs_after))

-- what is left of the values that waited: they wait on, or the instance is gone
record Leaves (waited used : List Value) (gone : Type 0) (next : List Value) : Type 0 where
  left : List Value
  parts : waited ≡ used ++ left
  stays_or_gone : (left ≡ next) ⊎ gone

queue_parts : (q : List Item) → map item_value q ≡ first_value q ++ map item_value (drop 1 q)
unfolding first_value
queue_parts [] = refl
queue_parts (a ∷ rest) = refl

after_use : (i : Instance) (c : Change) (used ended runs : Bool) → not (used && ended) ≡ true
    → Leaves (map item_value i.queue) ((if used then first_value i.queue else []) ++ (if ended then first_value i.queue else []))
    ((if not ended && runs then Some (record i { queue = if used then drop 1 i.queue else i.queue; suspended = c.held || (i.suspended && not c.resumed) }) else None) ≡ None)
    (values_waiting (if not ended && runs then Some (record i { queue = if used then drop 1 i.queue else i.queue; suspended = c.held || (i.suspended && not c.resumed) }) else None))
after_use i c true true runs one = cc
after_use i c true false true one = record { left = map item_value (drop 1 i.queue); parts = queue_parts i.queue ∙ ap (λ (vs : List Value). vs ++ map item_value (drop 1 i.queue)) (sym (append-nil (first_value i.queue))); stays_or_gone = inl refl }
after_use i c true false false one = record { left = map item_value (drop 1 i.queue); parts = queue_parts i.queue ∙ ap (λ (vs : List Value). vs ++ map item_value (drop 1 i.queue)) (sym (append-nil (first_value i.queue))); stays_or_gone = inr refl }
after_use i c false true runs one = record { left = map item_value (drop 1 i.queue); parts = queue_parts i.queue; stays_or_gone = inr refl }
after_use i c false false true one = record { left = map item_value i.queue; parts = refl; stays_or_gone = inl refl }
after_use i c false false false one = record { left = map item_value i.queue; parts = refl; stays_or_gone = inr refl }

first_true : (a b : Bool) → a && b ≡ true → a ≡ true
first_true true b h = refl
first_true false b h = cc

second_true : (a b : Bool) → a && b ≡ true → b ≡ true
second_true true b h = h
second_true false b h = cc

-- the change that is found uses one answer at most

found_passes : (b : Bool) (c d : Change) (rest : Option Change) (all : Bool) → uses_one c && all ≡ true → cond b (Some c) rest ≡ Some d → (all ≡ true → rest ≡ Some d → uses_one d ≡ true) → uses_one d ≡ true
found_passes true c d rest all h e later = let f : c ≡ d = cc in ap uses_one (sym f) ∙ first_true (uses_one c) all h
found_passes false c d rest all h e later = later (second_true (uses_one c) all h) e

found_uses : (changes : List Change) (id : ℕ) (d : Change) → list_all uses_one changes ≡ true → change_of changes id ≡ Some d → uses_one d ≡ true
found_uses [] id d h e = cc
found_uses (c ∷ cs) id d h e = found_passes (is_of id c) c d (change_of cs id) (list_all uses_one cs) h e (found_uses cs id d)

or_some : (o new : Option Instance) (left : List Value) → new ≡ None → (left ≡ values_waiting o) ⊎ (o ≡ None) → (left ≡ values_waiting (option_or o new)) ⊎ ((true ≡ true) × (option_or o new ≡ None))
or_some (Some i) new left fresh (inl e) = inl e
or_some (Some i) new left fresh (inr e) = cc
or_some None new left fresh s = inr (refl, fresh)

change_leaves : (i : Instance) (o : Option Change) → ((c : Change) → o ≡ Some c → uses_one c ≡ true) → Leaves (map item_value i.queue) (used_values (rows_of i o)) (after_change i o ≡ None) (values_waiting (after_change i o))
unfolding rows_of
change_leaves i (Some c) one =
    let u = after_use i c c.used c.ended c.runs_after (one c refl) in
    record { left = u.left; parts = u.parts ∙ ap (λ (vs : List Value). vs ++ u.left) (sym (used_by_rows i c)); stays_or_gone = u.stays_or_gone }
change_leaves i None one = record { left = map item_value i.queue; parts = refl; stays_or_gone = inl refl }

unstarted : (new : Option Instance) → used_values (told_of start_of new) ≡ []
unstarted (Some j) = refl
unstarted None = refl

-- of the instance that may have the id before a reaction, and the one that may be new with it
reaction_leaves : (f : ℕ → Option Change) (held new : Option Instance) → ((i : Instance) (c : Change) → f i.id ≡ Some c → uses_one c ≡ true) → ((i : Instance) → held ≡ Some i → new ≡ None) → values_waiting new ≡ []
    → Leaves (values_waiting held) (used_values (old_told f held ++ told_of start_of new)) ((is_some held ≡ true) × (option_or (kept_of f held) new ≡ None)) (values_waiting (option_or (kept_of f held) new))
unfolding rows_of
reaction_leaves f (Some i) new one fresh empty =
    let u = change_leaves i (f i.id) (one i) in
    record {
      left = u.left;
      parts = u.parts ∙ ap (λ (vs : List Value). vs ++ u.left) (sym (none_more (old_told f (Some i)) (told_of start_of new) _ refl (unstarted new)));
      stays_or_gone = or_some (after_change i (f i.id)) new u.left (fresh i refl) u.stays_or_gone;
    }
reaction_leaves f None new one fresh empty = record { left = []; parts = sym (unstarted new ∙ refl) ∙ sym (append-nil (used_values (told_of start_of new))); stays_or_gone = inl (sym empty) }

module _ {Place : Type 0} (M : Machine Place) (one : UsesOne M) (id : ℕ) where
  -- what an event uses of what waited and entered
  UsesOf : State Place → List Answer → Reply → State Place → Type 0
  UsesOf S took r next =
      IsRising S.running S.last
      → Leaves (waiting_for M S id ++ (if is_done r then values_entering id (rules M S) S.running (S.pending ++ took) else [])) (used_values (about id (effects_in r))) (IsGone next id) (waiting_for M next id)

  nothing_used : (S next : State Place) (r : Reply) (entered : List Value) → entered ≡ [] → effects_in r ≡ [] → Leaves (waiting_for M S id ++ entered) (used_values (about id (effects_in r))) (IsGone next id) (waiting_for M S id)
  nothing_used S next r entered none quiet =
      record {
        left = waiting_for M S id;
        parts = ap (λ (vs : List Value). waiting_for M S id ++ vs) none ∙ append-nil (waiting_for M S id) ∙ sym (ap (λ (es : List Effect). used_values (about id es) ++ waiting_for M S id) quiet);
        stays_or_gone = inl refl;
      }

  some_within : (last : ℕ) (running : List Instance) (held : Option Instance) → holder running id ≡ held → IsRising running last → is_some held ≡ true → id ≤ last
  some_within last running (Some i) is rise some = held_within id 0 last running i rise is
  some_within last running None is rise some = cc

  gone_if : (last next : ℕ) (left : List Value) (held after : Option Instance) (running : List Instance) (S : State Place) → holder S.running id ≡ after → S.last ≡ next → last ≤ next → holder running id ≡ held → IsRising running last
      → (left ≡ values_waiting after) ⊎ ((is_some held ≡ true) × (after ≡ None)) → (left ≡ waiting_for M S id) ⊎ IsGone S id
  gone_if last next left held after running S is same le held_is rise (inl e) = inl (e ∙ ap values_waiting (sym is))
  gone_if last next left held after running S is same le held_is rise (inr g) =
      let h : id ≤ last = some_within last running held held_is rise g.0 in inr (record { given = omega arith; stopped = is ∙ g.1 })

  done_uses : (S : State Place) (inputs : List Input) (took : List Answer) (c : Completed Place) → outcome M S inputs took ≡ Completes c → UsesOf S took (reply_to M S took (Completes c)) (state_after M S took (Completes c))
  unfolding UsesOf
  done_uses S inputs took c is rise =
      let f = change_of c.changes in
      let W = with_answers M S took in
      let up = rising_with M S took rise in
      let new = holder (born S.last c.changes) id in
      let single : list_all uses_one c.changes ≡ true = subst UsesOneIn is (one S.place W inputs S.last) in
      let u = reaction_leaves f (holder W id) new (λ i d e. found_uses c.changes i.id d single e) (λ i e. born_above id S.last c.changes (held_within id 0 S.last W i up e)) (born_empty id c.changes S.last) in
      record {
        left = u.left;
        parts = sym (waits_entered id (rules M S) (S.pending ++ took) S.running) ∙ u.parts ∙ ap (λ (es : List Effect). used_values es ++ u.left) (sym (about_done M id S took c rise));
        stays_or_gone = gone_if S.last (last_after S.last c.changes) u.left (holder W id) (option_or (kept_of f (holder W id)) new) W (state_after M S took (Completes c)) (holder_advanced f id S.last c.changes W up) refl (omega arith) refl up u.stays_or_gone;
      }

  killed_used : (S : State Place) (held : Option Instance) → used_values (told_of (kill_of M id S) held) ≡ []
  killed_used S (Some i) = refl
  killed_used S None = refl

  all_gone : (S : State Place) (held : Option Instance) → holder S.running id ≡ held → IsRising S.running S.last → (waiting_for M S id ≡ []) ⊎ IsGone (record S { place = M.restarted S.place; running = [] }) id
  all_gone S (Some i) is rise = inr (record { given = held_within id 0 S.last S.running i rise is; stopped = refl })
  all_gone S None is rise = inl (ap values_waiting is)

  reset_uses : (S : State Place) → UsesOf S [] (reply.Reset (map (killed M S) S.running)) (record S { place = M.restarted S.place; running = [] })
  unfolding UsesOf
  reset_uses S rise =
      let quiet : used_values (about id (map (killed M S) S.running)) ≡ [] = ap (λ (es : List Effect). used_values (about id es)) (kills_each M id S S.running) ∙ ap used_values (about_each (kill_of M id S) (λ i other. refl) id 0 S.last S.running rise) ∙ killed_used S (holder S.running id) in
      record {
        left = waiting_for M S id;
        parts = append-nil (waiting_for M S id) ∙ ap (λ (vs : List Value). vs ++ waiting_for M S id) (sym quiet);
        stays_or_gone = all_gone S (holder S.running id) refl rise;
      }

  not_entered : (b : Bool) (vs : List Value) → b ≡ false → (if b then vs else []) ≡ []
  not_entered true vs e = cc
  not_entered false vs e = refl

  refused_uses : (S : State Place) (took : List Answer) (r : Reply) → is_done r ≡ false → effects_in r ≡ [] → Leaves (waiting_for M S id ++ (if is_done r then values_entering id (rules M S) S.running (S.pending ++ took) else [])) (used_values (about id (effects_in r))) (IsGone (refused M S took) id) (waiting_for M S id)
  refused_uses S took r refuses quiet = nothing_used S (refused M S took) r _ (not_entered (is_done r) _ refuses) quiet

  gone_stage : (S : State Place) → IsGone S id → stage_of M S id ≡ Stopped
  gone_stage S gone = ap (λ (b : Bool). staged b (is_some (holder S.running id))) (at_or_before S.last id gone.given) ∙ ap (λ (o : Option Instance). staged false (is_some o)) gone.stopped

  event_uses : (S : State Place) (e : Event) → UsesOf S (took_by e) (reply_of M S e) (next_state M S e)
  unfolding UsesOf
  event_uses =
      of_event M (λ S took r next. UsesOf S took r next) (λ S took rise. nothing_used S S reply.Idle [] refl refl) (λ S took r refuses quiet rise. refused_uses S took r refuses quiet) (λ S inputs took c is. done_uses S inputs took c is)
      (λ S. reset_uses S)

  -- one that is gone uses nothing more
  gone_unused : (S : State Place) (events : List Event) → IsRising S.running S.last → IsGone S id → used_values (about id (told (replies M S events))) ≡ []
  gone_unused S events rise gone =
      stopped_unused (about id (told (replies M S events)))
      (subst (λ (s : _). IsLife s (about id (told (replies M S events)))) (gone_stage S gone) (lives M id events S rise))

  both_use : (waited used used' entered' left next : List Value) (gone : Type 0) → waited ≡ used ++ left → (left ≡ next) ⊎ gone → IsBeginning used' (next ++ entered') → (gone → used' ≡ []) → IsBeginning (used ++ used') (waited ++ entered')
  both_use waited used used' entered' left next gone parts (inl stays) later none =
      (later.0, ap (λ (vs : List Value). vs ++ entered') parts ∙ append_assoc used left entered' ∙ ap (λ (vs : List Value). used ++ (vs ++ entered')) stays ∙ ap (λ (vs : List Value). used ++ vs) later.1 ∙ sym (append_assoc used used' later.0))
  both_use waited used used' entered' left next gone parts (inr g) later none =
      (left ++ entered', ap (λ (vs : List Value). vs ++ entered') parts ∙ append_assoc used left entered' ∙ ap (λ (vs : List Value). vs ++ (left ++ entered')) (sym (append-nil used) ∙ ap (λ (vs : List Value). used ++ vs) (sym (none g))))

  pub uses : (events : List Event) (S : State Place) → IsRising S.running S.last → IsBeginning (used_values (about id (told (replies M S events)))) (waiting_for M S id ++ entered_in M S events id)
  unfolding UsesOf
  uses [] S rise = (waiting_for M S id, append-nil (waiting_for M S id))
  uses (e ∷ es) S rise =
      let next = next_state M S e in
      let rest = told (replies M next es) in
      let u = event_uses S e rise in
      let both = both_use _ (used_values (about id (effects_in (reply_of M S e)))) (used_values (about id rest)) (entered_in M next es id) u.left (waiting_for M next id) (IsGone next id) u.parts u.stays_or_gone (uses es next (rises M S e rise)) (gone_unused next es (rises M S e rise)) in
      (both.0, sym (append_assoc (waiting_for M S id) (entered_at M S e id) (entered_in M next es id)) ∙ both.1 ∙ ap (λ (vs : List Value). vs ++ both.0) (sym (used-append (about id (effects_in (reply_of M S e))) (about id rest)) ∙ ap used_values (sym (filter-append (is_on id) (effects_in (reply_of M S e)) rest))))
