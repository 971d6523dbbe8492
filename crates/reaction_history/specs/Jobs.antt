-- What a job at a desk does to the history. (This project's own.)
use Rattle.std.specs.Prelude.{◌≡◌, List, Result, IfOk, OnErr}
use Rattle.exec_instance.specs.declared.answer.Answer.{Answer}
use Rattle.reaction_run.specs.declared.event.Event.{Event}
use Rattle.reaction_run.specs.declared.reply.Reply.{Reply}
use Rattle.reaction_run.specs.declared.log.Entry.{Entry}
use Rattle.reaction_run.specs.Legal.{Legal, events_of}
use Rattle.reaction_run.specs.Machine.{Machine, State}
use Rattle.reaction_run.specs.Run.{final_state}
use Rattle.reaction_desk.specs.Adding.{IsAdded}

-- one entry of this event, with answers that were taken and the reply that was given. None where memory ran out
pub record AddedOne {Place N : Type 0} (M : Machine Place) (first : State Place) (of : List Answer →
    Event) (before after : List Entry)
    (out : Result Reply N) : Type 0 where
  pub entry : IfOk out (λ r. (took : List Answer) × IsAdded before after (of took) r)
  pub none : OnErr out (after ≡ before)
  pub legal : Legal M first after

-- no entry, and this was told of the state to which the history leads
pub record LookedAt {Place : Type 0} (M : Machine Place) (first : State Place)
    (before after : List Entry) (Told : State Place → Type 0) : Type 0 where
  pub same : after ≡ before
  pub legal : Legal M first after
  pub told : Told (final_state M first (events_of after))
