-- What holds of every run of every machine, whatever its step does in a reaction.
use Rattle.std.specs.Prelude.{◌≡◌, ℕ, suc, ◌≤◌, false, None, List, [], ◌∷◌, ◌++◌}
use Rattle.exec_instance.specs.declared.answer.Answer.{Answer}
use Rattle.exec_instance.specs.declared.effect.Effect.{Effect}
use Rattle.exec_instance.specs.declared.effect.Effect.TheVariants.{Started}
use Rattle.exec_instance.specs.declared.effect.Reason.TheVariants.{Stale}
use Rattle.exec_instance.specs.Entering.{Drops, verdict}
use Rattle.exec_instance.specs.Running.{holder}
use Rattle.reaction_run.specs.declared.event.Input.{Input}
use Rattle.reaction_run.specs.declared.event.Event.{Event}
use Rattle.reaction_run.specs.declared.event.Event.TheVariants.{Reset}
use Rattle.reaction_run.specs.declared.reply.Reply.{Reply}
use Rattle.reaction_run.specs.declared.reply.Reply.TheVariants as reply
use Rattle.reaction_run.specs.Machine.{Machine, State}
use Rattle.reaction_run.specs.Run.{replies, final_state, next_state, reply_of_reaction, after_reaction}
use Rattle.reaction_run.specs.Run.{refused, rules}
use Rattle.reaction_run.specs.Legal.{took_in, tried, is_done}

-- the ids that effects tell to be started
abbrev pub started_ids : List Effect → List ℕ
started_ids [] = []
started_ids (Started id body args ∷ es) = id ∷ started_ids es
started_ids (e ∷ es) = started_ids es

abbrev pub started_by : Reply → List ℕ
started_by (reply.Done d) = started_ids d.effects
started_by _ = []

abbrev pub started_in : List Reply → List ℕ
started_in [] = []
started_in (r ∷ rs) = started_by r ++ started_in rs

-- each id is the next one after the one before, from the last one on
abbrev pub CountsFrom : ℕ → List ℕ → Type 0
CountsFrom last [] = Unit {0}
CountsFrom last (i ∷ is) = (i ≡ suc last) × CountsFrom i is

-- the id was given, and no instance runs with it
pub record IsGone {Place : Type 0} (S : State Place) (id : ℕ) : Type 0 where
  pub given : id ≤ S.last
  pub stopped : holder S.running id ≡ None

module _ {Place : Type 0} (M : Machine Place) where
  -- the ids of started instances follow on the last id without a gap
  abbrev pub StartsCount : Type 0
  StartsCount = (S : State Place) (events : List Event) → CountsFrom S.last (started_in (replies M S events))

  -- each answer is tried by at most one accepted reaction: those tried and those that wait are those taken,
  -- each once and in order
  abbrev pub TriedOnce : Type 0
  TriedOnce =
      (S : State Place) (events : List Event)
      → tried S.pending events (replies M S events) ++ (final_state M S events).pending ≡
      S.pending ++ took_in events

  -- a refused reaction changes nothing but that what it took waits
  abbrev pub RefusalKeeps : Type 0
  RefusalKeeps =
      (S : State Place) (inputs : List Input) (took : List Answer)
      → is_done (reply_of_reaction M S inputs took) ≡ false → after_reaction M S inputs took ≡ refused M S took

  -- a reset leaves no instance running, and the answers that wait and the last id as they were
  abbrev pub ResetStops : Type 0
  ResetStops = (S : State Place) → next_state M S Reset ≡ record S { place = M.restarted S.place; running = [] }

  -- an instance that has stopped never runs again, and each answer to it is stale
  abbrev pub GoneStaysGone : Type 0
  GoneStaysGone =
      (S : State Place) (events : List Event) (id : ℕ) → IsGone S id → IsGone (final_state M S events) id

  abbrev pub GoneIsStale : Type 0
  GoneIsStale = (S : State Place) (a : Answer) → IsGone S a.id → 1 ≤ a.id →
      verdict (rules M S) S.running a ≡ Drops Stale
