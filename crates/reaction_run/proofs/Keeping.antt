-- Which answers were tried, and what a refusal and a reset keep.
use Rattle.std.proofs.Common.{◌≡◌, Bool, true, false, List, [], ◌∷◌, ◌++◌, refl, sym, ◌∙◌, ap, append-nil, append_assoc}
use Rattle.std.specs.Prelude.{if◌then◌else◌}
use Rattle.exec_instance.specs.declared.answer.Answer.{Answer}
use Rattle.reaction_run.specs.declared.event.Input.{Input}
use Rattle.reaction_run.specs.declared.event.Event.{Event}
use Rattle.reaction_run.specs.declared.event.Event.TheVariants.{React, Pump, Reset}
use Rattle.reaction_run.specs.declared.reply.Reply.{Reply}
use Rattle.reaction_run.specs.declared.reply.Reply.TheVariants as reply
use Rattle.reaction_run.specs.Machine.{Machine, State, Outcome, Undecided, Doubled, Faulted, Completes}
use Rattle.reaction_run.specs.Run.{replies, final_state, next_state, reply_of, reply_of_reaction, after_reaction, reply_to, state_after, refused, is_worn, outcome, is_none_waiting}
use Rattle.reaction_run.specs.Legal.{took_by, took_in, tried, is_done}
use Rattle.reaction_run.specs.Laws.{TriedOnce, RefusalKeeps, ResetStops}

module _ {Place : Type 0} (M : Machine Place) where
  outcome_waits : (S : State Place) (took : List Answer) (o : Outcome Place) → (state_after M S took o).pending ≡ (if is_done (reply_to M S took o) then [] else S.pending ++ took)
  outcome_waits S took (Undecided names) = refl
  outcome_waits S took (Doubled name) = refl
  outcome_waits S took (Faulted at kind) = refl
  outcome_waits S took (Completes c) = refl

  worn_waits : (S : State Place) (took : List Answer) (o : Outcome Place) (b : Bool) → (if b then refused M S took else state_after M S took o).pending ≡ (if is_done (if b then reply.Worn S.last else reply_to M S took o) then [] else S.pending ++ took)
  worn_waits S took o true = refl
  worn_waits S took o false = outcome_waits S took o

  reaction_waits : (S : State Place) (inputs : List Input) (took : List Answer) → (after_reaction M S inputs took).pending ≡ (if is_done (reply_of_reaction M S inputs took) then [] else S.pending ++ took)
  reaction_waits S inputs took = worn_waits S took (outcome M S inputs took) (is_worn M S)

  nothing_more : (pending took : List Answer) → [] ≡ pending ++ took → pending ≡ pending ++ took
  nothing_more [] took e = e
  nothing_more (a ∷ pending) took e = cc

  pump_waits : (S : State Place) (took waiting : List Answer) → waiting ≡ S.pending ++ took → (if is_none_waiting M waiting then S else after_reaction M S [] took).pending ≡ (if is_done (if is_none_waiting M waiting then reply.Idle else reply_of_reaction M S [] took) then [] else S.pending ++ took)
  pump_waits S took [] e = nothing_more S.pending took e
  pump_waits S took (a ∷ rest) e = reaction_waits S [] took

  event_waits : (S : State Place) (e : Event) → (next_state M S e).pending ≡ (if is_done (reply_of M S e) then [] else S.pending ++ took_by e)
  event_waits S (React inputs took) = reaction_waits S inputs took
  event_waits S (Pump took) = pump_waits S took (S.pending ++ took) refl
  event_waits S Reset = sym (append-nil S.pending)

  one_try : (done : Bool) (pending took waiting rest : List Answer) (es : List Event) (rs : List Reply) (last : List Answer)
      → waiting ≡ (if done then [] else pending ++ took) → tried waiting es rs ++ last ≡ waiting ++ rest
      → (if done then pending ++ took ++ tried [] es rs else tried (pending ++ took) es rs) ++ last ≡ pending ++ (took ++ rest)
  one_try true pending took waiting rest es rs last e f =
      append_assoc (pending ++ took) (tried [] es rs) last ∙ ap (λ (w : List Answer). (pending ++ took) ++ w) (ap (λ (w : List Answer). tried w es rs ++ last) (sym e) ∙ f ∙ ap (λ (w : List Answer). w ++ rest) e) ∙ append_assoc pending took rest
  one_try false pending took waiting rest es rs last e f =
      ap (λ (w : List Answer). tried w es rs ++ last) (sym e) ∙ f ∙ ap (λ (w : List Answer). w ++ rest) e ∙ append_assoc pending took rest

  tried_from : (events : List Event) (S : State Place) → tried S.pending events (replies M S events) ++ (final_state M S events).pending ≡ S.pending ++ took_in events
  tried_from [] S = sym (append-nil S.pending)
  tried_from (e ∷ es) S =
      one_try (is_done (reply_of M S e)) S.pending (took_by e) (next_state M S e).pending (took_in es) es (replies M (next_state M S e) es) (final_state M (next_state M S e) es).pending (event_waits S e) (tried_from es (next_state M S e))

  pub tried_once : TriedOnce M
  tried_once S events = tried_from events S

  outcome_keeps : (S : State Place) (took : List Answer) (o : Outcome Place) → is_done (reply_to M S took o) ≡ false → state_after M S took o ≡ refused M S took
  outcome_keeps S took (Undecided names) e = refl
  outcome_keeps S took (Doubled name) e = refl
  outcome_keeps S took (Faulted at kind) e = refl
  outcome_keeps S took (Completes c) e = cc

  worn_keeps : (S : State Place) (took : List Answer) (o : Outcome Place) (b : Bool) → is_done (if b then reply.Worn S.last else reply_to M S took o) ≡ false → (if b then refused M S took else state_after M S took o) ≡ refused M S took
  worn_keeps S took o true e = refl
  worn_keeps S took o false e = outcome_keeps S took o e

  pub refusal_keeps : RefusalKeeps M
  refusal_keeps S inputs took e = worn_keeps S took (outcome M S inputs took) (is_worn M S) e

  pub reset_stops : ResetStops M
  reset_stops S = refl
