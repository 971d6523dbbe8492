-- What replies tell of one instance, and which answers entered for it. (This project's own.)
use Rattle.std.specs.Prelude.{ℕ, Bool, false, ◌==◌, nat_lt, is_some, if◌then◌else◌, Option, Some, None}
use Rattle.std.specs.Prelude.{List, [], ◌∷◌, ◌++◌, filter, map}
use Rattle.hh_base.specs.declared.value.Value.{Value}
use Rattle.hh_base.specs.declared.item.Item.{Item}
use Rattle.exec_instance.specs.declared.answer.Answer.{Answer}
use Rattle.exec_instance.specs.declared.instance.Instance.{Instance}
use Rattle.exec_instance.specs.declared.effect.Effect.{Effect}
use Rattle.exec_instance.specs.declared.effect.Effect.TheVariants.{Dropped, More, Ended, Killed}
use Rattle.exec_instance.specs.declared.effect.Effect.TheVariants.{Suspended, Resumed, Started}
use Rattle.exec_instance.specs.Entering.{Rules, Verdict, Enters, Drops, verdict, after}
use Rattle.exec_instance.specs.Running.{holder}
use Rattle.reaction_run.specs.declared.event.Event.{Event}
use Rattle.reaction_run.specs.declared.reply.Reply.{Reply}
use Rattle.reaction_run.specs.declared.reply.Reply.TheVariants as reply
use Rattle.reaction_run.specs.Machine.{Machine, State}
use Rattle.reaction_run.specs.Run.{next_state, reply_of, rules}
use Rattle.reaction_run.specs.Legal.{took_by, is_done}

-- an effect on the instance with this id; a drop is none
abbrev pub is_on : ℕ → Effect → Bool
is_on id (Dropped answered reason) = false
is_on id (More instance v) = instance == id
is_on id (Ended instance v) = instance == id
is_on id (Killed instance action) = instance == id
is_on id (Suspended instance action) = instance == id
is_on id (Resumed instance action) = instance == id
is_on id (Started instance body args) = instance == id

-- what effects tell of the instance with this id, in their order
abbrev pub about : ℕ → List Effect → List Effect
about id effects = filter (is_on id) effects

-- the effects that a reply tells, those of a reset among them, and all that replies tell
abbrev pub effects_in : Reply → List Effect
effects_in (reply.Done d) = d.effects
effects_in (reply.Reset kills) = kills
effects_in _ = []

abbrev pub told : List Reply → List Effect
told [] = []
told (r ∷ rs) = effects_in r ++ told rs

-- an instance was not started, runs, or has stopped
pub data Stage : Type 0 where
  NotStarted : Stage
  Runs : Stage
  Stopped : Stage

-- from this stage on it starts at most once, it uses answers only while it runs, and while it runs it ends or
-- is killed at most once
abbrev pub IsLife : Stage → List Effect → Type 0
IsLife stage [] = Unit {0}
IsLife NotStarted (Started id body args ∷ es) = IsLife Runs es
IsLife Runs (More id v ∷ es) = IsLife Runs es
IsLife Runs (Ended id v ∷ es) = IsLife Stopped es
IsLife Runs (Killed id action ∷ es) = IsLife Stopped es
IsLife stage (Suspended id action ∷ es) = IsLife stage es
IsLife stage (Resumed id action ∷ es) = IsLife stage es
IsLife stage (e ∷ es) = ⊥

-- the values that an instance used, in order
abbrev pub used_values : List Effect → List Value
used_values [] = []
used_values (More id v ∷ es) = v ∷ used_values es
used_values (Ended id v ∷ es) = v ∷ used_values es
used_values (e ∷ es) = used_values es

-- the values that wait for the instance with this id
abbrev pub item_value : Item → Value
item_value a = a.value

abbrev pub values_waiting : Option Instance → List Value
values_waiting (Some i) = map item_value i.queue
values_waiting None = []

-- the values that enter for this id where answers are tried in order, each by its verdict
abbrev pub entering : ℕ → Verdict → Answer → List Value
entering id Enters a = if a.id == id then a.value ∷ [] else []
entering id (Drops reason) a = []

abbrev pub values_entering : ℕ → Rules → List Instance → List Answer → List Value
values_entering id r running [] = []
values_entering id r running (a ∷ rest) =
    entering id (verdict r running a) a ++ values_entering id r (after (verdict r running a) a running) rest

module _ {Place : Type 0} (M : Machine Place) where
  abbrev pub stage_of : State Place → ℕ → Stage
  stage_of S id =
      if nat_lt S.last id then NotStarted else if is_some (holder S.running id) then Runs else Stopped

  abbrev pub waiting_for : State Place → ℕ → List Value
  waiting_for S id = values_waiting (holder S.running id)

  -- an event lets answers enter where its reaction is accepted
  abbrev pub entered_at : State Place → Event → ℕ → List Value
  entered_at S e id =
      if is_done (reply_of M S e) then values_entering id (rules M S) S.running (S.pending ++ took_by e)
      else []

  abbrev pub entered_in : State Place → List Event → ℕ → List Value
  entered_in S [] id = []
  entered_in S (e ∷ es) id = entered_at S e id ++ entered_in (next_state M S e) es id
