-- What holds of each event holds by its cases: nothing waits to be pumped, a refusal, a reaction that completes, a reset.
use Rattle.std.proofs.Common.{◌≡◌, Bool, true, false, List, [], ◌∷◌, ◌++◌, map, refl, arith}
use Rattle.std.specs.Prelude.{if◌then◌else◌}
use Rattle.exec_instance.specs.declared.answer.Answer.{Answer}
use Rattle.exec_instance.specs.Running.{IsRising}
use Rattle.exec_instance.specs.Changes.{change_of}
use Rattle.exec_instance.proofs.Advancing.{Rise-advanced}
use Rattle.reaction_run.specs.declared.event.Input.{Input}
use Rattle.reaction_run.specs.declared.event.Event.{Event}
use Rattle.reaction_run.specs.declared.event.Event.TheVariants.{React, Pump, Reset}
use Rattle.reaction_run.specs.declared.reply.Reply.{Reply}
use Rattle.reaction_run.specs.declared.reply.Reply.TheVariants as reply
use Rattle.reaction_run.specs.Machine.{Machine, State, Outcome, Undecided, Doubled, Faulted, Completes, Completed}
use Rattle.reaction_run.specs.Run.{next_state, final_state, reply_of, reply_of_reaction, after_reaction, reply_to, state_after, refused, is_worn, outcome, is_none_waiting, with_answers, rules, killed}
use Rattle.reaction_run.specs.Legal.{took_by, is_done}
use Rattle.reaction_run.specs.Told.{effects_in}
use Rattle.reaction_run.proofs.Holders.{rise_entered}

module _ {Place : Type 0} (M : Machine Place) where
  module _ (P : State Place → List Answer → Reply → State Place → Type 0)
      (idle : (S : State Place) (took : List Answer) → P S took reply.Idle S)
      (refuses : (S : State Place) (took : List Answer) (r : Reply) → is_done r ≡ false → effects_in r ≡ [] → P S took r (refused M S took))
      (completes : (S : State Place) (inputs : List Input) (took : List Answer) (c : Completed Place) → outcome M S inputs took ≡ Completes c → P S took (reply_to M S took (Completes c)) (state_after M S took (Completes c)))
      (resets : (S : State Place) → P S [] (reply.Reset (map (killed M S) S.running)) (record S { place = M.restarted S.place; running = [] })) where
    of_outcome : (S : State Place) (inputs : List Input) (took : List Answer) (o : Outcome Place) → outcome M S inputs took ≡ o → P S took (reply_to M S took o) (state_after M S took o)
    of_outcome S inputs took (Undecided names) is = refuses S took _ refl refl
    of_outcome S inputs took (Doubled name) is = refuses S took _ refl refl
    of_outcome S inputs took (Faulted at kind) is = refuses S took _ refl refl
    of_outcome S inputs took (Completes c) is = completes S inputs took c is

    of_worn : (S : State Place) (inputs : List Input) (took : List Answer) (b : Bool) → P S took (if b then reply.Worn S.last else reply_to M S took (outcome M S inputs took)) (if b then refused M S took else state_after M S took (outcome M S inputs took))
    of_worn S inputs took true = refuses S took _ refl refl
    of_worn S inputs took false = of_outcome S inputs took (outcome M S inputs took) refl

    of_reaction : (S : State Place) (inputs : List Input) (took : List Answer) → P S took (reply_of_reaction M S inputs took) (after_reaction M S inputs took)
    of_reaction S inputs took = of_worn S inputs took (is_worn M S)

    of_pump : (S : State Place) (took : List Answer) (b : Bool) → P S took (if b then reply.Idle else reply_of_reaction M S [] took) (if b then S else after_reaction M S [] took)
    of_pump S took true = idle S took
    of_pump S took false = of_reaction S [] took

    pub of_event : (S : State Place) (e : Event) → P S (took_by e) (reply_of M S e) (next_state M S e)
    of_event S (React inputs took) = of_reaction S inputs took
    of_event S (Pump took) = of_pump S took (is_none_waiting M (S.pending ++ took))
    of_event S Reset = resets S

  -- running instances rise in id

  Rises : State Place → State Place → Type 0
  Rises S next = IsRising S.running S.last → IsRising next.running next.last

  pub rising_with : (S : State Place) (took : List Answer) → IsRising S.running S.last → IsRising (with_answers M S took) S.last
  rising_with S took rise = rise_entered (rules M S) (S.pending ++ took) 0 S.last S.running rise

  pub rises : (S : State Place) (e : Event) → IsRising S.running S.last → IsRising (next_state M S e).running (next_state M S e).last
  unfolding Rises
  rises =
      of_event (λ S took r next. Rises S next) (λ S took rise. rise) (λ S took r refuses quiet rise. rise)
      (λ S inputs took c is rise. Rise-advanced (change_of c.changes) S.last c.changes (with_answers M S took) (rising_with S took rise)) (λ S rise. omega arith)

  pub rises_on : (events : List Event) (S : State Place) → IsRising S.running S.last → IsRising (final_state M S events).running (final_state M S events).last
  rises_on [] S rise = rise
  rises_on (e ∷ es) S rise = rises_on es (next_state M S e) (rises S e rise)
