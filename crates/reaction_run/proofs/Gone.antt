-- An id with which no instance runs any more.
use Rattle.std.proofs.Common.{◌≡◌, ℕ, suc, ◌≤◌, Bool, true, false, cond, Option, Some, None, List, [], ◌∷◌, ◌++◌, map, refl, ◌∙◌, ap, arith}
use Rattle.std.specs.Prelude.{◌==◌, ◌&&◌, if◌then◌else◌, IfSome, not}
use Rattle.std.specs.List.{cons_option}
use Rattle.std.proofs.lemmas.Bool.Decides.{nat_tests}
use Rattle.hh_base.specs.declared.value.Value.{Value}
use Rattle.hh_base.specs.declared.item.Item.{Item}
use Rattle.exec_instance.specs.declared.answer.Answer.{Answer}
use Rattle.exec_instance.specs.declared.change.Change.{Change}
use Rattle.exec_instance.specs.declared.instance.Instance.{Instance}
use Rattle.exec_instance.specs.declared.effect.Reason.TheVariants.{Unknown}
use Rattle.exec_instance.specs.Changes.{change_of}
use Rattle.exec_instance.specs.Effects.{new_args, born, after_change, changed, kept, advanced}
use Rattle.exec_instance.specs.Entering.{Rules, Verdict, Enters, Drops, was_given, verdict, verdict_at, after, entered, with_item, item_of}
use Rattle.exec_instance.specs.Running.{holder}
use Rattle.reaction_run.specs.declared.event.Input.{Input}
use Rattle.reaction_run.specs.declared.event.Event.{Event}
use Rattle.reaction_run.specs.declared.event.Event.TheVariants.{React, Pump, Reset}
use Rattle.reaction_run.specs.Machine.{Machine, State, Outcome, Undecided, Doubled, Faulted, Completes}
use Rattle.reaction_run.specs.Run.{final_state, next_state, after_reaction, state_after, refused, is_worn, outcome, is_none_waiting, with_answers, rules}
use Rattle.reaction_run.specs.Laws.{IsGone, GoneStaysGone, GoneIsStale}

-- no instance has the id
Apart : ℕ → List Instance → Type 0
Apart id [] = Unit {0}
Apart id (i ∷ is) = ((i.id == id) ≡ false) × Apart id is

parted : (b : Bool) (i : Instance) (rest : Option Instance) → cond b (Some i) rest ≡ None → (b ≡ false) × (rest ≡ None)
parted true i rest e = cc
parted false i rest e = (refl, e)

to_apart : (id : ℕ) (running : List Instance) → holder running id ≡ None → Apart id running
unfolding Apart
to_apart id [] e = tt
to_apart id (i ∷ is) e = let p = parted (i.id == id) i (holder is id) e in (p.0, to_apart id is p.1)

from_apart : (id : ℕ) (running : List Instance) → Apart id running → holder running id ≡ None
unfolding Apart
from_apart id [] a = refl
from_apart id (i ∷ is) a = ap (λ (b : Bool). cond b (Some i) (holder is id)) a.0 ∙ from_apart id is a.1

item_id : (b : Bool) (i : Instance) (q : List Item) → (if b then record i { queue = q } else i).id ≡ i.id
item_id true i q = refl
item_id false i q = refl

apart_with_item : (id : ℕ) (a : Answer) (running : List Instance) → Apart id running → Apart id (map (with_item a) running)
unfolding Apart
apart_with_item id a [] h = tt
apart_with_item id a (i ∷ is) h = (ap (λ (n : ℕ). n == id) (item_id (i.id == a.id) i (i.queue ++ item_of a ∷ [])) ∙ h.0, apart_with_item id a is h.1)

apart_after : (id : ℕ) (v : Verdict) (a : Answer) (running : List Instance) → Apart id running → Apart id (after v a running)
apart_after id Enters a running h = apart_with_item id a running h
apart_after id (Drops reason) a running h = h

apart_entered : (id : ℕ) (r : Rules) (answers : List Answer) (running : List Instance) → Apart id running → Apart id (entered r running answers)
apart_entered id r [] running h = h
apart_entered id r (a ∷ rest) running h = apart_entered id r rest (after (verdict r running a) a running) (apart_after id (verdict r running a) a running h)

apart_optional : (id : ℕ) (i : Instance) (o : Option Instance) (rest : List Instance) → IfSome o (λ j. j.id ≡ i.id) → (i.id == id) ≡ false → Apart id rest → Apart id (cons_option o rest)
unfolding Apart
apart_optional id i (Some j) rest e f h = (ap (λ (n : ℕ). n == id) e ∙ f, h)
apart_optional id i None rest e f h = h

same_if : (b : Bool) (i j : Instance) → j.id ≡ i.id → IfSome (if b then Some j else None) (λ k. k.id ≡ i.id)
same_if true i j e = e
same_if false i j e = tt

change_id : (i : Instance) (o : Option Change) → IfSome (after_change i o) (λ j. j.id ≡ i.id)
change_id i (Some c) = same_if (not c.ended && c.runs_after) i (changed i c) refl
change_id i None = refl

apart_kept : (id : ℕ) (f : ℕ → Option Change) (running : List Instance) → Apart id running → Apart id (kept f running)
unfolding Apart
apart_kept id f [] h = tt
apart_kept id f (i ∷ is) h = apart_optional id i (after_change i (f i.id)) (kept f is) (change_id i (f i.id)) h.0 (apart_kept id f is h.1)

apart_append : (id : ℕ) (xs ys : List Instance) → Apart id xs → Apart id ys → Apart id (xs ++ ys)
unfolding Apart
apart_append id [] ys h g = g
apart_append id (x ∷ xs) ys h g = (h.0, apart_append id xs ys h.1 g)

later_differs : (last id : ℕ) → id ≤ last → (suc last == id) ≡ false
later_differs last id h = let g : id ≤ last = h in grind (arith, nat_tests)

abbrev of_args : ℕ → Change → List Change → Option (List Value) → List Instance
of_args last c cs (Some args) = record { id = suc last; body = c.body; args = args; queue = []; suspended = false } ∷ born (suc last) cs
of_args last c cs None = born last cs

apart_args : (id last : ℕ) (c : Change) (cs : List Change) (o : Option (List Value)) → id ≤ last → ((n : ℕ) → id ≤ n → Apart id (born n cs)) → Apart id (of_args last c cs o)
unfolding Apart
apart_args id last c cs (Some args) h rest = (later_differs last id h, rest (suc last) (omega arith))
apart_args id last c cs None h rest = rest last h

apart_born : (id : ℕ) (cs : List Change) (last : ℕ) → id ≤ last → Apart id (born last cs)
unfolding Apart
apart_born id [] last h = tt
apart_born id (c ∷ cs) last h = apart_args id last c cs (new_args c) h (apart_born id cs)

given_before : (last id : ℕ) → 1 ≤ id → id ≤ last → was_given last id ≡ true
given_before last id h g = grind (arith, nat_tests)

module _ {Place : Type 0} (M : Machine Place) where
  outcome_gone : (S : State Place) (took : List Answer) (o : Outcome Place) (id : ℕ) → IsGone S id → IsGone (state_after M S took o) id
  outcome_gone S took (Undecided names) id g = record { given = g.given; stopped = g.stopped }
  outcome_gone S took (Doubled name) id g = record { given = g.given; stopped = g.stopped }
  outcome_gone S took (Faulted at kind) id g = record { given = g.given; stopped = g.stopped }
  outcome_gone S took (Completes c) id g =
      let h : id ≤ S.last = g.given in
      record {
        given = omega arith;
        stopped =
            from_apart id (advanced S.last c.changes (with_answers M S took))
            (apart_append id (kept (change_of c.changes) (with_answers M S took)) (born S.last c.changes)
            (apart_kept id (change_of c.changes) (with_answers M S took) (apart_entered id (rules M S) (S.pending ++ took) S.running (to_apart id S.running g.stopped)))
            (apart_born id c.changes S.last g.given));
      }

  worn_gone : (S : State Place) (took : List Answer) (o : Outcome Place) (id : ℕ) (b : Bool) → IsGone S id → IsGone (if b then refused M S took else state_after M S took o) id
  worn_gone S took o id true g = record { given = g.given; stopped = g.stopped }
  worn_gone S took o id false g = outcome_gone S took o id g

  reaction_gone : (S : State Place) (inputs : List Input) (took : List Answer) (id : ℕ) → IsGone S id → IsGone (after_reaction M S inputs took) id
  reaction_gone S inputs took id g = worn_gone S took (outcome M S inputs took) id (is_worn M S) g

  pump_gone : (S : State Place) (took : List Answer) (id : ℕ) (b : Bool) → IsGone S id → IsGone (if b then S else after_reaction M S [] took) id
  pump_gone S took id true g = g
  pump_gone S took id false g = reaction_gone S [] took id g

  event_gone : (S : State Place) (e : Event) (id : ℕ) → IsGone S id → IsGone (next_state M S e) id
  event_gone S (React inputs took) id g = reaction_gone S inputs took id g
  event_gone S (Pump took) id g = pump_gone S took id (is_none_waiting M (S.pending ++ took)) g
  event_gone S Reset id g = record { given = g.given; stopped = refl }

  stays : (events : List Event) (S : State Place) (id : ℕ) → IsGone S id → IsGone (final_state M S events) id
  stays [] S id g = g
  stays (e ∷ es) S id g = stays es (next_state M S e) id (event_gone S e id g)

  pub gone_stays_gone : GoneStaysGone M
  gone_stays_gone S events id g = stays events S id g

  pub gone_is_stale : GoneIsStale M
  gone_is_stale S a g h =
      ap (λ (b : Bool). if b then verdict_at (rules M S) (holder S.running a.id) a else Drops Unknown) (given_before S.last a.id h g.given)
      ∙ ap (λ (o : Option Instance). verdict_at (rules M S) o a) g.stopped
