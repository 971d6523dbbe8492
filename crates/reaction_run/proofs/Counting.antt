-- The ids of the instances that a run starts.
use Rattle.std.proofs.Common.{◌≡◌, ℕ, suc, ◌+◌, Bool, true, false, Option, Some, None, List, [], ◌∷◌, ◌++◌, length, map, refl, sym, ◌∙◌, ap, subst, arith}
use Rattle.std.specs.Prelude.{if◌then◌else◌, slice_get, option_map}
use Rattle.std.specs.List.{cons_option}
use Rattle.hh_base.specs.declared.value.Value.{Value}
use Rattle.hh_base.specs.declared.item.Item.{Item}
use Rattle.exec_instance.specs.declared.answer.Answer.{Answer}
use Rattle.exec_instance.specs.declared.change.Change.{Change}
use Rattle.exec_instance.specs.declared.instance.Instance.{Instance}
use Rattle.exec_instance.specs.declared.effect.Effect.{Effect}
use Rattle.exec_instance.specs.declared.effect.Effect.TheVariants.{Dropped, More, Ended, Killed, Suspended, Resumed, Started}
use Rattle.exec_instance.specs.declared.table.Row.{Row}
use Rattle.exec_instance.specs.declared.table.Row.TheVariants as row
use Rattle.exec_instance.specs.Changes.{change_of}
use Rattle.exec_instance.specs.Effects.{new_args, born, last_after, started, row_of, with_change, effect_in, old_effects, of_first, when}
use Rattle.exec_instance.specs.Entering.{Rules, Verdict, Enters, Drops, verdict, after, dropped, drops}
use Rattle.reaction_run.specs.declared.event.Input.{Input}
use Rattle.reaction_run.specs.declared.event.Event.{Event}
use Rattle.reaction_run.specs.declared.event.Event.TheVariants.{React, Pump, Reset}
use Rattle.reaction_run.specs.declared.reply.Reply.{Reply}
use Rattle.reaction_run.specs.declared.reply.Reply.TheVariants as reply
use Rattle.reaction_run.specs.Machine.{Machine, State, Outcome, Undecided, Doubled, Faulted, Completes}
use Rattle.reaction_run.specs.Run.{replies, next_state, reply_of, reply_of_reaction, after_reaction, reply_to, state_after, refused, is_worn, outcome, is_none_waiting, with_answers, rules}
use Rattle.reaction_run.specs.Laws.{started_ids, started_by, started_in, CountsFrom, StartsCount}

-- ids of effects put together

behind_start : (e : Effect) (xs ys zs : List Effect) → started_ids xs ++ started_ids ys ≡ started_ids zs → started_ids (e ∷ xs) ++ started_ids ys ≡ started_ids (e ∷ zs)
behind_start (Started id body args) xs ys zs h = ap (λ (is : List ℕ). id ∷ is) h
behind_start (Dropped id reason) xs ys zs h = h
behind_start (More id v) xs ys zs h = h
behind_start (Ended id v) xs ys zs h = h
behind_start (Killed id t) xs ys zs h = h
behind_start (Suspended id t) xs ys zs h = h
behind_start (Resumed id t) xs ys zs h = h

started-append : (xs ys : List Effect) → started_ids xs ++ started_ids ys ≡ started_ids (xs ++ ys)
started-append [] ys = refl
started-append (e ∷ xs) ys = behind_start e xs ys (xs ++ ys) (started-append xs ys)

-- drops and the rows on running instances start nothing

no_drop : (v : Verdict) (a : Answer) → started_ids (dropped v a) ≡ []
no_drop Enters a = refl
no_drop (Drops reason) a = refl

no_drops : (r : Rules) (running : List Instance) (answers : List Answer) → started_ids (drops r running answers) ≡ []
no_drops r running [] = refl
no_drops r running (a ∷ rest) =
    sym (started-append (dropped (verdict r running a) a) (drops r (after (verdict r running a) a running) rest))
    ∙ ap (λ (is : List ℕ). is ++ started_ids (drops r (after (verdict r running a) a running) rest)) (no_drop (verdict r running a) a) ∙ no_drops r (after (verdict r running a) a running) rest

abbrev Quiet : Option Effect → Type 0
Quiet (Some (Started id body args)) = ⊥
Quiet _ = Unit {0}

quiet_when : (b : Bool) (o : Option Effect) → Quiet o → Quiet (when b o)
quiet_when true o q = q
quiet_when false o q = tt

quiet_more : (i : Instance) (o : Option Item) → Quiet (option_map (λ a. More i.id a.value) o)
quiet_more i (Some a) = tt
quiet_more i None = tt

quiet_ended : (i : Instance) (o : Option Item) → Quiet (option_map (λ a. Ended i.id a.value) o)
quiet_ended i (Some a) = tt
quiet_ended i None = tt

quiet_effect : (r : Row) (i : Instance) (c : Change) → Quiet (effect_in r i c)
quiet_effect row.More i c = quiet_when c.used (of_first More i) (quiet_more i (slice_get i.queue 0))
quiet_effect row.Ended i c = quiet_when c.ended (of_first Ended i) (quiet_ended i (slice_get i.queue 0))
quiet_effect row.Killed i c = quiet_when _ (Some (Killed i.id c.kill)) tt
quiet_effect row.Suspended i c = quiet_when _ (Some (Suspended i.id c.suspend)) tt
quiet_effect row.Resumed i c = quiet_when _ (Some (Resumed i.id c.resume)) tt

quiet_change : (r : Row) (i : Instance) (o : Option Change) → Quiet (with_change r i o)
quiet_change r i (Some c) = quiet_effect r i c
quiet_change r i None = tt

quiet_first : (o : Option Effect) (es : List Effect) → Quiet o → started_ids (cons_option o es) ≡ started_ids es
quiet_first (Some (Started id body args)) es q = absurd q
quiet_first (Some (Dropped id reason)) es q = refl
quiet_first (Some (More id v)) es q = refl
quiet_first (Some (Ended id v)) es q = refl
quiet_first (Some (Killed id t)) es q = refl
quiet_first (Some (Suspended id t)) es q = refl
quiet_first (Some (Resumed id t)) es q = refl
quiet_first None es q = refl

quiet_row : (r : Row) (change : ℕ → Option Change) (running : List Instance) → started_ids (row_of r change running) ≡ []
quiet_row r change [] = refl
quiet_row r change (i ∷ is) = quiet_first (with_change r i (change i.id)) (row_of r change is) (quiet_change r i (change i.id)) ∙ quiet_row r change is

both_quiet : (xs ys : List Effect) → started_ids xs ≡ [] → started_ids ys ≡ [] → started_ids (xs ++ ys) ≡ []
both_quiet xs ys e f = sym (started-append xs ys) ∙ ap (λ (is : List ℕ). is ++ started_ids ys) e ∙ f

quiet_old : (change : ℕ → Option Change) (running : List Instance) → started_ids (old_effects change running) ≡ []
quiet_old change running =
    let m = row_of row.More change running in
    let e = row_of row.Ended change running in
    let k = row_of row.Killed change running in
    let s = row_of row.Suspended change running in
    let r = row_of row.Resumed change running in
    both_quiet (m ++ e ++ k ++ s) r
    (both_quiet (m ++ e ++ k) s
    (both_quiet (m ++ e) k (both_quiet m e (quiet_row row.More change running) (quiet_row row.Ended change running)) (quiet_row row.Killed change running))
    (quiet_row row.Suspended change running))
    (quiet_row row.Resumed change running)

-- all effects of a reaction start the new instances, and no other

told_starts : (told old new : List Effect) → started_ids told ≡ [] → started_ids old ≡ [] → started_ids (told ++ (old ++ new)) ≡ started_ids new
told_starts told old new e f =
    sym (started-append told (old ++ new)) ∙ ap (λ (is : List ℕ). is ++ started_ids (old ++ new)) e ∙ sym (started-append old new) ∙ ap (λ (is : List ℕ). is ++ started_ids new) f

-- new instances count on from the last id

started_each : (is : List Instance) → length (started_ids (map started is)) ≡ length is
started_each [] = refl
started_each (i ∷ is) = ap suc (started_each is)

abbrev of_args : ℕ → Change → List Change → Option (List Value) → List Instance
of_args last c cs (Some args) = record { id = suc last; body = c.body; args = args; queue = []; suspended = false } ∷ born (suc last) cs
of_args last c cs None = born last cs

counts_args : (last : ℕ) (c : Change) (cs : List Change) (o : Option (List Value)) → ((n : ℕ) → CountsFrom n (started_ids (map started (born n cs)))) → CountsFrom last (started_ids (map started (of_args last c cs o)))
counts_args last c cs (Some args) rest = (refl, rest (suc last))
counts_args last c cs None rest = rest last

counts_born : (cs : List Change) (last : ℕ) → CountsFrom last (started_ids (map started (born last cs)))
counts_born [] last = tt
counts_born (c ∷ cs) last = counts_args last c cs (new_args c) (counts_born cs)

counts_append : (xs ys : List ℕ) (last next : ℕ) → CountsFrom last xs → next ≡ last + length xs → CountsFrom next ys → CountsFrom last (xs ++ ys)
counts_append [] ys last next first e second = subst (λ (n : ℕ). CountsFrom n ys) (let f : next ≡ last = omega arith in f) second
counts_append (x ∷ xs) ys last next first e second = let g : x ≡ suc last = first.0 in (first.0, counts_append xs ys x next first.1 (omega arith) second)

-- what a reply starts, and the last id after it
record Starts (last : ℕ) (r : Reply) (next : ℕ) : Type 0 where
  counts : CountsFrom last (started_by r)
  last_is : next ≡ last + length (started_by r)

starts_of : (last : ℕ) (ids new : List ℕ) (next : ℕ) → ids ≡ new → CountsFrom last new → next ≡ last + length new → CountsFrom last ids × (next ≡ last + length ids)
starts_of last ids new next e c f = (subst (CountsFrom last) (sym e) c, f ∙ ap (λ (is : List ℕ). last + length is) (sym e))

module _ {Place : Type 0} (M : Machine Place) where
  no_start : (S : State Place) (r : Reply) (next : ℕ) → started_by r ≡ [] → next ≡ S.last → Starts S.last r next
  no_start S r next e f =
      let p = starts_of S.last (started_by r) [] next e tt (omega arith) in record { counts = p.0; last_is = p.1 }

  outcome_starts : (S : State Place) (took : List Answer) (o : Outcome Place) → Starts S.last (reply_to M S took o) (state_after M S took o).last
  outcome_starts S took (Undecided names) = no_start S _ _ refl refl
  outcome_starts S took (Doubled name) = no_start S _ _ refl refl
  outcome_starts S took (Faulted at kind) = no_start S _ _ refl refl
  outcome_starts S took (Completes c) =
      let new : List ℕ = started_ids (map started (born S.last c.changes)) in
      let e : started_by (reply_to M S took (Completes c)) ≡ new =
      told_starts (drops (rules M S) S.running (S.pending ++ took)) (old_effects (change_of c.changes) (with_answers M S took)) (map started (born S.last c.changes)) (no_drops (rules M S) S.running (S.pending ++ took)) (quiet_old (change_of c.changes) (with_answers M S took)) in
      let p = starts_of S.last (started_by (reply_to M S took (Completes c))) new (last_after S.last c.changes) e (counts_born c.changes S.last) (ap (λ (n : ℕ). S.last + n) (sym (started_each (born S.last c.changes)))) in
      record { counts = p.0; last_is = p.1 }

  worn_starts : (S : State Place) (took : List Answer) (o : Outcome Place) (b : Bool) → Starts S.last (if b then reply.Worn S.last else reply_to M S took o) (if b then refused M S took else state_after M S took o).last
  worn_starts S took o true = no_start S _ _ refl refl
  worn_starts S took o false = outcome_starts S took o

  reaction_starts : (S : State Place) (inputs : List Input) (took : List Answer) → Starts S.last (reply_of_reaction M S inputs took) (after_reaction M S inputs took).last
  reaction_starts S inputs took = worn_starts S took (outcome M S inputs took) (is_worn M S)

  pump_starts : (S : State Place) (took : List Answer) (b : Bool) → Starts S.last (if b then reply.Idle else reply_of_reaction M S [] took) (if b then S else after_reaction M S [] took).last
  pump_starts S took true = no_start S _ _ refl refl
  pump_starts S took false = reaction_starts S [] took

  event_starts : (S : State Place) (e : Event) → Starts S.last (reply_of M S e) (next_state M S e).last
  event_starts S (React inputs took) = reaction_starts S inputs took
  event_starts S (Pump took) = pump_starts S took (is_none_waiting M (S.pending ++ took))
  event_starts S Reset = no_start S _ _ refl refl

  starts_from : (events : List Event) (S : State Place) → CountsFrom S.last (started_in (replies M S events))
  starts_from [] S = tt
  starts_from (e ∷ es) S =
      let s : Starts S.last (reply_of M S e) (next_state M S e).last = event_starts S e in
      counts_append (started_by (reply_of M S e)) (started_in (replies M (next_state M S e) es)) S.last (next_state M S e).last s.counts s.last_is (starts_from es (next_state M S e))

  pub starts_count : StartsCount M
  starts_count S events = starts_from events S
