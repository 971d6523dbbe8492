-- One event of a machine, and a run of events. (This project's own.)
use Rattle.std.specs.Prelude.{ℕ, Bool, true, false, ◌&&◌, nat_lt, if◌then◌else◌, List, [], ◌∷◌, ◌++◌, map}
use Rattle.exec_instance.specs.declared.answer.Answer.{Answer}
use Rattle.exec_instance.specs.declared.instance.Instance.{Instance}
use Rattle.exec_instance.specs.declared.effect.Effect.{Effect}
use Rattle.exec_instance.specs.declared.effect.Effect.TheVariants.{Killed}
use Rattle.exec_instance.specs.Entering.{Rules, under, entered, drops}
use Rattle.exec_instance.specs.Effects.{effects, advanced, last_after}
use Rattle.reaction_run.specs.declared.event.Input.{Input}
use Rattle.reaction_run.specs.declared.event.Event.{Event}
use Rattle.reaction_run.specs.declared.event.Event.TheVariants.{React, Pump, Reset}
use Rattle.reaction_run.specs.declared.reply.Reply.{Reply}
use Rattle.reaction_run.specs.declared.reply.Reply.TheVariants as reply
use Rattle.reaction_run.specs.Machine.{Machine, State, Outcome, Undecided, Doubled, Faulted, Completes}

-- the last id that still lets a reaction run
abbrev pub last_limit : ℕ
last_limit = 18446744073709550591

module _ {Place : Type 0} (M : Machine Place) where
  abbrev pub rules : State Place → Rules
  rules S = under (M.kinds S.place) (M.parts S.place) S.last

  -- the instances where the answers entered that wait, and then those that were taken
  abbrev pub with_answers : State Place → List Answer → List Instance
  with_answers S took = entered (rules S) S.running (S.pending ++ took)

  abbrev pub outcome : State Place → List Input → List Answer → Outcome Place
  outcome S inputs took = M.reaction S.place (with_answers S took) inputs S.last

  -- the reply to a reaction
  abbrev pub reply_to : State Place → List Answer → Outcome Place → Reply
  reply_to S took (Undecided names) = reply.Causality names
  reply_to S took (Doubled name) = reply.Multiple name
  reply_to S took (Faulted at kind) = reply.Fault at kind
  reply_to S took (Completes c) =
      reply.Done (record {
        outs = c.outs;
        ended = c.ended;
        effects = drops (rules S) S.running (S.pending ++ took) ++
            effects S.last c.changes (with_answers S took);
      })

  -- a refused reaction leaves everything as it was, but what it took waits
  abbrev pub refused : State Place → List Answer → State Place
  refused S took = record S { pending = S.pending ++ took }

  abbrev pub state_after : State Place → List Answer → Outcome Place → State Place
  state_after S took (Completes c) =
      record {
        place = c.next;
        running = advanced S.last c.changes (with_answers S took);
        pending = [];
        last = last_after S.last c.changes;
      }
  state_after S took _ = refused S took

  abbrev pub is_worn : State Place → Bool
  is_worn S = M.wants_ids S.place && nat_lt last_limit S.last

  abbrev pub reply_of_reaction : State Place → List Input → List Answer → Reply
  reply_of_reaction S inputs took =
      if is_worn S then reply.Worn S.last else reply_to S took (outcome S inputs took)

  abbrev pub after_reaction : State Place → List Input → List Answer → State Place
  after_reaction S inputs took =
      if is_worn S then refused S took else state_after S took (outcome S inputs took)

  -- one event
  abbrev pub is_none_waiting : List Answer → Bool
  is_none_waiting [] = true
  is_none_waiting (a ∷ rest) = false

  abbrev pub killed : State Place → Instance → Effect
  killed S i = Killed i.id (M.kill_action S.place i.id)

  abbrev pub reply_of : State Place → Event → Reply
  reply_of S (React inputs took) = reply_of_reaction S inputs took
  reply_of S (Pump took) =
      if is_none_waiting (S.pending ++ took) then reply.Idle else reply_of_reaction S [] took
  reply_of S Reset = reply.Reset (map (killed S) S.running)

  abbrev pub next_state : State Place → Event → State Place
  next_state S (React inputs took) = after_reaction S inputs took
  next_state S (Pump took) = if is_none_waiting (S.pending ++ took) then S else after_reaction S [] took
  next_state S Reset = record S { place = M.restarted S.place; running = [] }

  -- a run of events: its replies, and the state that it leaves
  abbrev pub replies : State Place → List Event → List Reply
  replies S [] = []
  replies S (e ∷ es) = reply_of S e ∷ replies (next_state S e) es

  abbrev pub final_state : State Place → List Event → State Place
  final_state S [] = S
  final_state S (e ∷ es) = final_state (next_state S e) es
