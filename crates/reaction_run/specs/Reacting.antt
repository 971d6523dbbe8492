-- What a call of a machine of the code does. (This project's own.)
use Rattle.std.specs.Prelude.{◌≡◌, ◌≢◌, ℕ, Bool, true, false, ◌||◌, ◌&&◌, ◌==◌}
use Rattle.std.specs.Prelude.{Option, Some, None, List, [], ◌∷◌, ◌++◌, slice_get}
use Rattle.std.specs.List.{AllByRecursion, list_any}
use Rattle.hh_base.specs.declared.value.Dir.{Dir}
use Rattle.hh_base.specs.declared.value.Dir.TheVariants as dir
use Rattle.hh_base.specs.declared.value.Value.{Value}
use Rattle.hh_base.specs.Value.{kind_of}
use Rattle.hh_base.specs.Queue.{ends_with_last}
use Rattle.hh_term.specs.declared.program.SignalDecl.{SignalDecl}
use Rattle.hh_term.specs.Pairs.{EachPair}
use Rattle.exec_instance.specs.declared.answer.Answer.{Answer}
use Rattle.exec_instance.specs.declared.instance.Instance.{Instance}
use Rattle.exec_instance.specs.Running.{holder}
use Rattle.reaction_run.specs.declared.event.Event.{Event}
use Rattle.reaction_run.specs.declared.event.Event.TheVariants.{React}
use Rattle.reaction_run.specs.declared.event.Input.{Input}
use Rattle.reaction_run.specs.declared.reply.Reply.{Reply}
use Rattle.reaction_run.specs.declared.log.Entry.{Entry}
use Rattle.reaction_run.specs.Machine.{Machine, State}
use Rattle.reaction_run.specs.Run.{reply_of, next_state}

-- the environment gives signals that are `in` or `inout`
abbrev pub is_given : Dir → Bool
is_given dir.Input = true
is_given dir.Both = true
is_given _ = false

abbrev pub IsValueFor : Option SignalDecl → Value → Type 0
IsValueFor (Some d) v = (is_given d.dir ≡ true) × (kind_of v ≡ d.kind)
IsValueFor None v = ⊥

-- an input names such a signal of the interface, and has its kind
abbrev pub InputFits : List SignalDecl → Input → Type 0
InputFits interface i = IsValueFor (slice_get interface i.signal) i.value

-- and no signal stands twice
abbrev pub InputsFit : List SignalDecl → List Input → Type 0
InputsFit interface inputs =
    AllByRecursion (InputFits interface) inputs × EachPair (λ i j. i.signal ≢ j.signal) inputs

abbrev pub EventFits : List SignalDecl → Event → Type 0
EventFits interface (React inputs took) = InputsFit interface inputs
EventFits interface _ = Unit {0}

-- an id needs no answer more: no instance runs with it, its instance has its last answer, or a last answer to
-- it waits
abbrev pub has_last : Option Instance → Bool
has_last (Some i) = ends_with_last i.queue
has_last None = true

abbrev pub is_last_for : ℕ → Answer → Bool
is_last_for id a = a.last && (a.id == id)

abbrev pub is_settled : {Place : Type 0} → State Place → ℕ → Bool
is_settled S id = has_last (holder S.running id) || list_any (is_last_for id) S.pending

-- one event: the reply and the next state are those of the machine's step, and one entry was added to the log
abbrev pub Reacts : {Place : Type 0} → Machine Place → State Place → State Place → Event → List Entry
    → List Entry → Reply → Type 0
Reacts M before after e log more r =
    (r ≡ reply_of M before e) × (after ≡ next_state M before e)
    × (more ≡ log ++ record { event = e; reply = r } ∷ [])
