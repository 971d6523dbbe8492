-- A machine: what its step does in a reaction, and the state in which it takes events. Nothing here says how
-- a reaction is computed: the constructive semantics and a net are two such steps. (Reactive machines after
-- HipHop.js; the rest is this project's own.)
use Rattle.std.specs.Prelude.{ℕ, Bool, Option, List, []}
use Rattle.hh_base.specs.declared.value.Value.{Value}
use Rattle.hh_base.specs.declared.value.Kind.{Kind}
use Rattle.hh_base.specs.declared.value.Pos.{Pos}
use Rattle.hh_base.specs.declared.value.FaultKind.{FaultKind}
use Rattle.exec_instance.specs.declared.answer.Answer.{Answer}
use Rattle.exec_instance.specs.declared.instance.Instance.{Instance}
use Rattle.exec_instance.specs.declared.change.Change.{Change}
use Rattle.reaction_run.specs.declared.event.Input.{Input}

-- a reaction that completes: the present outputs, whether the program ended with 0, what happened to each
-- instance, and the place where the machine is then
pub record Completed (Place : Type 0) : Type 0 where
  pub outs : List (ℕ × Value)
  pub ended : Bool
  pub changes : List Change
  pub next : Place

-- how a reaction ends: signals are left undecided, a signal is emitted twice, a fault, or it completes
pub data Outcome (Place : Type 0) : Type 0 where
  Undecided : (names : List (List ℕ)) → Outcome Place
  Doubled : (name : List ℕ) → Outcome Place
  Faulted : (at : Pos) (kind : FaultKind) → Outcome Place
  Completes : (completed : Completed Place) → Outcome Place

-- what a machine names of its own. A place has the program, where its control rests, and the last statuses
-- and values of its signals
pub record Machine (Place : Type 0) : Type 0 where
  -- the kinds that the program's bodies answer
  pub kinds : Place → List Kind
  -- whether partial answers are taken
  pub parts : Place → Bool
  -- whether the program has asyncs, which want ids
  pub wants_ids : Place → Bool
  -- the program at its start
  pub restarted : Place → Place
  -- the action that the async of the instance with this id names for a kill
  pub kill_action : Place → ℕ → Option (List ℕ)
  -- the reaction there to these inputs, where these instances run and this was the last id
  pub reaction : Place → List Instance → List Input → ℕ → Outcome Place

-- where the machine is, the instances that run, the answers that wait, and the last id that was given
pub record State (Place : Type 0) : Type 0 where
  pub place : Place
  pub running : List Instance
  pub pending : List Answer
  pub last : ℕ

-- the program at its start, where no instance runs and nothing waits
abbrev pub begin : {Place : Type 0} → Machine Place → Place → ℕ → State Place
begin M place last = record { place = M.restarted place; running = []; pending = []; last = last }
