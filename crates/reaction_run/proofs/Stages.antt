-- What is told of an instance through its life.
use Rattle.std.proofs.Common.{inl, inr, ◌≡◌, ℕ, ◌<◌, ◌≤◌, Bool, true, false, Option, Some, None, List, [], ◌∷◌, ◌++◌, map, refl, sym, ◌∙◌, ap, subst, arith, append-nil, append_assoc}
use Rattle.std.specs.Prelude.{◌&&◌, if◌then◌else◌, not, option_map, is_some, nat_lt, slice_get}
use Rattle.std.specs.Option.{option_or, option_to_list}
use Rattle.std.specs.List.{filter_map}
use Rattle.std.proofs.lemmas.List.Elements.{filter-append}
use Rattle.std.proofs.lemmas.Bool.Decides.{nat_tests}
use Rattle.std.proofs.lemmas.Bool.{cases_lt}
use Rattle.hh_base.specs.declared.item.Item.{Item}
use Rattle.exec_instance.specs.declared.answer.Answer.{Answer}
use Rattle.exec_instance.specs.declared.change.Change.{Change}
use Rattle.exec_instance.specs.declared.instance.Instance.{Instance}
use Rattle.exec_instance.specs.declared.effect.Effect.{Effect}
use Rattle.exec_instance.specs.declared.effect.Effect.TheVariants.{Dropped, More, Ended, Killed, Suspended, Resumed, Started}
use Rattle.exec_instance.specs.declared.table.Row.TheVariants as row
use Rattle.exec_instance.specs.Changes.{change_of}
use Rattle.exec_instance.specs.Effects.{born, started, last_after, old_effects, when, after_change, changed, with_change}
use Rattle.exec_instance.specs.Entering.{drops}
use Rattle.exec_instance.specs.Running.{holder, IsRising}
use Rattle.exec_instance.proofs.Advancing.{Rise-born}
use Rattle.reaction_run.specs.declared.event.Event.{Event}
use Rattle.reaction_run.specs.declared.reply.Reply.{Reply}
use Rattle.reaction_run.specs.declared.reply.Reply.TheVariants as reply
use Rattle.reaction_run.specs.Machine.{Machine, State, Completed, Completes, begin}
use Rattle.reaction_run.specs.Run.{replies, next_state, reply_of, reply_to, state_after, with_answers, rules, killed}
use Rattle.reaction_run.specs.Told.{is_on, about, effects_in, told, Stage, NotStarted, Runs, Stopped, IsLife, stage_of}
use Rattle.reaction_run.proofs.Telling.{told_of, old_told, start_of, about_old, about_starts, about_each, no_drops}
use Rattle.reaction_run.proofs.Holders.{kept_of, some_entered, held_within, born_above, holder_advanced}
use Rattle.reaction_run.proofs.Events.{of_event, rises, rising_with}

-- what is no start, end, kill or use may stand at any stage

pub life_weaker : (s : Stage) (es : List Effect) → IsLife Stopped es → IsLife s es
life_weaker s [] h = tt
life_weaker NotStarted (Suspended id action ∷ es) h = life_weaker NotStarted es h
life_weaker NotStarted (Resumed id action ∷ es) h = life_weaker NotStarted es h
life_weaker Runs (Suspended id action ∷ es) h = life_weaker Runs es h
life_weaker Runs (Resumed id action ∷ es) h = life_weaker Runs es h
life_weaker Stopped es h = h
life_weaker NotStarted (Dropped id reason ∷ es) h = absurd h
life_weaker NotStarted (More id v ∷ es) h = absurd h
life_weaker NotStarted (Ended id v ∷ es) h = absurd h
life_weaker NotStarted (Killed id v ∷ es) h = absurd h
life_weaker NotStarted (Started id v args ∷ es) h = absurd h
life_weaker Runs (Dropped id reason ∷ es) h = absurd h
life_weaker Runs (More id v ∷ es) h = absurd h
life_weaker Runs (Ended id v ∷ es) h = absurd h
life_weaker Runs (Killed id v ∷ es) h = absurd h
life_weaker Runs (Started id v args ∷ es) h = absurd h

any_stage : (s : Stage) → IsLife s []
any_stage NotStarted = tt
any_stage Runs = tt
any_stage Stopped = tt

-- these effects lead from one stage to another

Leads : Stage → List Effect → Stage → Type 0
Leads s es t = (rest : List Effect) → IsLife t rest → IsLife s (es ++ rest)

after_more : (id : ℕ) (b : Bool) (q : Option Item) (rest : List Effect) → IsLife Runs rest → IsLife Runs (option_to_list (when b (option_map (λ a. More id a.value) q)) ++ rest)
after_more id true (Some a) rest h = h
after_more id true None rest h = h
after_more id false q rest h = h

after_suspended : (s : Stage) (id : ℕ) (text : Option (List ℕ)) (b : Bool) (rest : List Effect) → IsLife s rest → IsLife s (option_to_list (when b (Some (Suspended id text))) ++ rest)
after_suspended NotStarted id text true rest h = h
after_suspended Runs id text true rest h = h
after_suspended Stopped id text true rest h = h
after_suspended s id text false rest h = h

after_resumed : (s : Stage) (id : ℕ) (text : Option (List ℕ)) (b : Bool) (rest : List Effect) → IsLife s rest → IsLife s (option_to_list (when b (Some (Resumed id text))) ++ rest)
after_resumed NotStarted id text true rest h = h
after_resumed Runs id text true rest h = h
after_resumed Stopped id text true rest h = h
after_resumed s id text false rest h = h

abbrev goes_on : Bool → Stage
goes_on b = if b then Runs else Stopped

after_stop : (id : ℕ) (text : Option (List ℕ)) (ended runs : Bool) (q : Option Item) (rest : List Effect) → IsLife (goes_on (not ended && runs)) rest
    → IsLife Runs (option_to_list (when ended (option_map (λ a. Ended id a.value) q)) ++ (option_to_list (when (not ended && not runs) (Some (Killed id text))) ++ rest))
after_stop id text true runs (Some a) rest h = h
after_stop id text true runs None rest h = life_weaker Runs rest h
after_stop id text false true q rest h = h
after_stop id text false false q rest h = h

five_apart : (m e k s r rest : List Effect) → m ++ (e ++ (k ++ (s ++ (r ++ rest)))) ≡ (m ++ e ++ k ++ s ++ r) ++ rest
five_apart m e k s r rest =
    sym (append_assoc m e (k ++ (s ++ (r ++ rest)))) ∙ sym (append_assoc (m ++ e) k (s ++ (r ++ rest))) ∙ sym (append_assoc (m ++ e ++ k) s (r ++ rest)) ∙ sym (append_assoc (m ++ e ++ k ++ s) r rest)

goes_on_is : (b : Bool) (i : Instance) → goes_on b ≡ goes_on (is_some (if b then Some i else None))
goes_on_is true i = refl
goes_on_is false i = refl

old_leads : (f : ℕ → Option Change) (i : Instance) (o : Option Change) → f i.id ≡ o → Leads Runs (old_told f (Some i)) (goes_on (is_some (kept_of f (Some i))))
unfolding Leads
old_leads f i (Some c) is rest h =
    let five = λ (o : Option Change). IsLife Runs ((option_to_list (with_change row.More i o) ++ option_to_list (with_change row.Ended i o) ++ option_to_list (with_change row.Killed i o) ++ option_to_list (with_change row.Suspended i o) ++ option_to_list (with_change row.Resumed i o)) ++ rest) in
    let stage : IsLife (goes_on (not c.ended && c.runs_after)) rest =
    subst (λ (s : Stage). IsLife s rest) (ap (λ (o : Option Change). goes_on (is_some (after_change i o))) is ∙ sym (goes_on_is (not c.ended && c.runs_after) (changed i c))) h in
    subst five (sym is)
    (subst (IsLife Runs) (five_apart (option_to_list (with_change row.More i (Some c))) (option_to_list (with_change row.Ended i (Some c))) (option_to_list (with_change row.Killed i (Some c))) (option_to_list (with_change row.Suspended i (Some c))) (option_to_list (with_change row.Resumed i (Some c))) rest)
    (after_more i.id c.used (slice_get i.queue 0) _
    (after_stop i.id c.kill c.ended c.runs_after (slice_get i.queue 0) _
    (after_suspended (goes_on (not c.ended && c.runs_after)) i.id c.suspend (c.held && c.runs_after && not i.suspended) _
    (after_resumed (goes_on (not c.ended && c.runs_after)) i.id c.resume (i.suspended && c.resumed && c.runs_after) rest stage)))))
old_leads f i None is rest h =
    let five = λ (o : Option Change). IsLife Runs ((option_to_list (with_change row.More i o) ++ option_to_list (with_change row.Ended i o) ++ option_to_list (with_change row.Killed i o) ++ option_to_list (with_change row.Suspended i o) ++ option_to_list (with_change row.Resumed i o)) ++ rest) in
    subst five (sym is) (subst (λ (s : Stage). IsLife s rest) (ap (λ (o : Option Change). goes_on (is_some (after_change i o))) is) h)

-- the stage by the last id and by whether an instance has the id

abbrev pub staged : Bool → Bool → Stage
staged fresh held = if fresh then NotStarted else if held then Runs else Stopped

pub at_or_before : (last id : ℕ) → id ≤ last → nat_lt last id ≡ false
at_or_before last id h = grind (arith, nat_tests)

behind : (last id : ℕ) → last < id → nat_lt last id ≡ true
behind last id h = grind (arith, nat_tests)

not_behind : (last next id : ℕ) → last ≤ next → nat_lt last id ≡ false → nat_lt next id ≡ true → ⊥
not_behind last next id h e f = grind (arith, nat_tests)

nobody : (last next id : ℕ) (b d : Bool) → nat_lt last id ≡ b → nat_lt next id ≡ d → last ≤ next → Leads (staged b false) [] (staged d false)
unfolding Leads
nobody last next id true true e f le rest h = h
nobody last next id true false e f le rest h = life_weaker NotStarted rest h
nobody last next id false true e f le rest h = absurd (not_behind last next id le e f)
nobody last next id false false e f le rest h = h

from_stage : (s s' t t' : Stage) (es es' : List Effect) → s ≡ s' → es ≡ es' → t ≡ t' → Leads s' es' t' → Leads s es t
unfolding Leads
from_stage s s' t t' es es' e f g leads rest h = subst (λ (x : Stage). IsLife x (es ++ rest)) (sym e) (subst (λ (xs : List Effect). IsLife s' (xs ++ rest)) (sym f) (leads rest (subst (λ (x : Stage). IsLife x rest) g h)))

or_none : (o n : Option Instance) → n ≡ None → is_some (option_or o n) ≡ is_some o
or_none (Some i) n e = refl
or_none None n e = ap (λ (x : Option Instance). is_some x) e

no_start : (n : Option Instance) (es : List Effect) → n ≡ None → es ++ told_of start_of n ≡ es
no_start n es e = ap (λ (x : Option Instance). es ++ told_of start_of x) e ∙ append-nil es

stage_by : (b d : Bool) (held : Bool) → b ≡ d → staged b held ≡ staged d held
stage_by b d held e = ap (λ (x : Bool). staged x held) e

some_none : (j : Instance) → Some j ≡ None → ⊥
some_none j e = cc

behind_or : (last id : ℕ) → (id ≤ last → ⊥) → last < id
behind_or last id never = elim (cases_lt last id) [ inl h ↦ h | inr h ↦ absurd (never h) ]

new_behind : (last id : ℕ) (j : Instance) → (id ≤ last → Some j ≡ None) → last < id
new_behind last id j fresh = behind_or last id (λ h. some_none j (fresh h))

starts_it : (j : Instance) → Leads NotStarted (started j ∷ []) Runs
unfolding Leads
starts_it j rest h = h

stays : (s : Stage) → Leads s [] s
unfolding Leads
stays s rest h = h

-- what a reaction tells of the id, where this instance had it before and this one is new with it
reaction_leads : (f : ℕ → Option Change) (last next id : ℕ) (held new : Option Instance) → last ≤ next → ((i : Instance) → held ≡ Some i → id ≤ last) → (id ≤ last → new ≡ None) → ((j : Instance) → new ≡ Some j → id ≤ next)
    → Leads (staged (nat_lt last id) (is_some held)) (old_told f held ++ told_of start_of new) (staged (nat_lt next id) (is_some (option_or (kept_of f held) new)))
reaction_leads f last next id (Some i) new le within fresh given =
    let before : id ≤ last = within i refl in
    from_stage _ Runs _ (goes_on (is_some (kept_of f (Some i)))) _ (old_told f (Some i)) (stage_by _ false true (at_or_before last id before)) (no_start new (old_told f (Some i)) (fresh before))
    (stage_by _ false _ (at_or_before next id (omega arith)) ∙ ap (λ (b : Bool). goes_on b) (or_none (kept_of f (Some i)) new (fresh before))) (old_leads f i (f i.id) refl)
reaction_leads f last next id None (Some j) le within fresh given =
    let after : id ≤ next = given j refl in
    from_stage _ NotStarted _ Runs _ (started j ∷ []) (stage_by _ true false (behind last id (new_behind last id j fresh))) refl (stage_by _ false true (at_or_before next id after)) (starts_it j)
reaction_leads f last next id None None le within fresh given = nobody last next id (nat_lt last id) (nat_lt next id) refl refl le

module _ {Place : Type 0} (M : Machine Place) (id : ℕ) where
  -- an event leads the instance from its stage to the next one
  LeadsOn : State Place → Reply → State Place → Type 0
  LeadsOn S r next = IsRising S.running S.last → Leads (stage_of M S id) (about id (effects_in r)) (stage_of M next id)

  pub about_done : (S : State Place) (took : List Answer) (c : Completed Place) → IsRising S.running S.last → about id (effects_in (reply_to M S took (Completes c))) ≡ old_told (change_of c.changes) (holder (with_answers M S took) id) ++ told_of start_of (holder (born S.last c.changes) id)
  about_done S took c rise =
      let f = change_of c.changes in
      let W = with_answers M S took in
      let new = map started (born S.last c.changes) in
      filter-append (is_on id) (drops (rules M S) S.running (S.pending ++ took)) (old_effects f W ++ new)
      ∙ ap (λ (es : List Effect). es ++ about id (old_effects f W ++ new)) (no_drops id (rules M S) (S.pending ++ took) S.running)
      ∙ filter-append (is_on id) (old_effects f W) new
      ∙ ap (λ (es : List Effect). es ++ about id new) (about_old f id 0 S.last W (rising_with M S took rise))
      ∙ ap (λ (es : List Effect). old_told f (holder W id) ++ es) (about_starts id S.last (last_after S.last c.changes) (born S.last c.changes) (Rise-born c.changes S.last))

  done_leads : (S : State Place) (took : List Answer) (c : Completed Place) → LeadsOn S (reply_to M S took (Completes c)) (state_after M S took (Completes c))
  unfolding LeadsOn
  done_leads S took c rise =
      let f = change_of c.changes in
      let W = with_answers M S took in
      let up = rising_with M S took rise in
      let new = holder (born S.last c.changes) id in
      from_stage _ (staged (nat_lt S.last id) (is_some (holder W id))) _ (staged (nat_lt (last_after S.last c.changes) id) (is_some (option_or (kept_of f (holder W id)) new))) _ (old_told f (holder W id) ++ told_of start_of new)
      (ap (λ (b : Bool). staged (nat_lt S.last id) b) (sym (some_entered id (rules M S) (S.pending ++ took) S.running))) (about_done S took c rise)
      (ap (λ (o : Option Instance). staged (nat_lt (last_after S.last c.changes) id) (is_some o)) (holder_advanced f id S.last c.changes W up))
      (reaction_leads f S.last (last_after S.last c.changes) id (holder W id) new (omega arith) (λ i is. held_within id 0 S.last W i up is) (λ before. born_above id S.last c.changes before) (λ j is. held_within id S.last (last_after S.last c.changes) (born S.last c.changes) j (Rise-born c.changes S.last) is))

  quiet_leads : (S : State Place) (r : Reply) → effects_in r ≡ [] → LeadsOn S r S
  unfolding LeadsOn
  quiet_leads S r quiet rise = from_stage _ (stage_of M S id) _ (stage_of M S id) _ [] refl (ap (about id) quiet) refl (stays (stage_of M S id))

  -- a reset kills the instance, if it runs

  abbrev pub kill_of : State Place → Instance → Option Effect
  kill_of S i = Some (killed M S i)

  pub kills_each : (S : State Place) (is : List Instance) → map (killed M S) is ≡ filter_map (kill_of S) is
  kills_each S [] = refl
  kills_each S (i ∷ is) = ap (λ (es : List Effect). killed M S i ∷ es) (kills_each S is)

  kill_leads : (S : State Place) (held : Option Instance) → ((i : Instance) → held ≡ Some i → id ≤ S.last) → Leads (staged (nat_lt S.last id) (is_some held)) (told_of (kill_of S) held) (staged (nat_lt S.last id) false)
  unfolding Leads
  kill_leads S (Some i) within =
      let before : nat_lt S.last id ≡ false = at_or_before S.last id (within i refl) in
      λ rest h. subst (λ (b : Bool). IsLife (staged b true) (killed M S i ∷ rest)) (sym before) (subst (λ (b : Bool). IsLife (staged b false) rest) before h)
  kill_leads S None within = λ rest h. h

  reset_leads : (S : State Place) → LeadsOn S (reply.Reset (map (killed M S) S.running)) (record S { place = M.restarted S.place; running = [] })
  unfolding LeadsOn
  reset_leads S rise =
      from_stage _ (stage_of M S id) _ (staged (nat_lt S.last id) false) _ (told_of (kill_of S) (holder S.running id)) refl
      (ap (about id) (kills_each S S.running) ∙ about_each (kill_of S) (λ i other. refl) id 0 S.last S.running rise) refl
      (kill_leads S (holder S.running id) (λ i is. held_within id 0 S.last S.running i rise is))

  event_leads : (S : State Place) (e : Event) → IsRising S.running S.last → Leads (stage_of M S id) (about id (effects_in (reply_of M S e))) (stage_of M (next_state M S e) id)
  unfolding LeadsOn
  event_leads =
      of_event M (λ S took r next. LeadsOn S r next) (λ S took. quiet_leads S reply.Idle refl) (λ S took r refuses quiet. quiet_leads S r quiet)
      (λ S inputs took c is. done_leads S took c) (λ S. reset_leads S)

  pub lives : (events : List Event) (S : State Place) → IsRising S.running S.last → IsLife (stage_of M S id) (about id (told (replies M S events)))
  unfolding Leads
  lives [] S rise = any_stage (stage_of M S id)
  lives (e ∷ es) S rise =
      subst (IsLife (stage_of M S id)) (sym (filter-append (is_on id) (effects_in (reply_of M S e)) (told (replies M (next_state M S e) es))))
      (event_leads S e rise (about id (told (replies M (next_state M S e) es))) (lives es (next_state M S e) (rises M S e rise)))

fresh_life : (b : Bool) (es : List Effect) → IsLife (staged b false) es → IsLife NotStarted es
fresh_life true es h = h
fresh_life false es h = life_weaker NotStarted es h

module _ {Place : Type 0} (M : Machine Place) where
  pub lives_from_begin : (place : Place) (last : ℕ) (events : List Event) (id : ℕ) → IsLife NotStarted (about id (told (replies M (begin M place last) events)))
  lives_from_begin place last events id = fresh_life (nat_lt last id) (about id (told (replies M (begin M place last) events))) (lives M id events (begin M place last) (omega arith))
