-- What the lines of a scenario do to a machine: the events that they give, the answers that are posted
-- meanwhile, and the text that is due. (This project's own.)
use Rattle.std.specs.Prelude.{◌≡◌, Option, Some, None, List, [], ◌∷◌, ◌++◌}
use Rattle.std.specs.Option.{option_to_list}
use Rattle.hh_io.specs.SinkState.{SinkState, Puts, CutsOff}
use Rattle.hh_io.specs.declared.fault.SinkFault.{SinkFault}
use Rattle.hh_term.specs.declared.program.SignalDecl.{SignalDecl}
use Rattle.hh_term.specs.declared.program.BodyDecl.{BodyDecl}
use Rattle.exec_instance.specs.declared.answer.Answer.{Answer}
use Rattle.exec_instance.specs.declared.instance.Instance.{Instance}
use Rattle.exec_instance.specs.Running.{holder}
use Rattle.reaction_run.specs.declared.event.Event.{Event}
use Rattle.reaction_run.specs.declared.event.Event.TheVariants as event
use Rattle.reaction_run.specs.Machine.{Machine, State}
use Rattle.reaction_run.specs.Reacting.{InputsFit}
use Rattle.reaction_run.specs.Run.{replies, next_state}
use Rattle.host_hooks.specs.Promise.{Promise}
use Rattle.host_hooks.specs.Allowed.{IsAllowedAnswer}
use Rattle.scenario_lines.specs.declared.line.Line.{Line}
use Rattle.scenario_lines.specs.declared.line.Line.TheVariants.{React, Work, Notify, Reset, Settle}
use Rattle.scenario_print.specs.Print.{printed}

-- the inputs of a line fit the interface
abbrev pub LineFits : List SignalDecl → Line → Type 0
LineFits signals (React inputs) = InputsFit signals inputs
LineFits signals _ = Unit {0}

-- where the instance runs, an answer is posted that its body may give, and else none
abbrev pub Works : List Promise → List BodyDecl → Option Instance → List Answer → List Answer → Type 0
Works hooks bodies (Some i) posts more =
    (a : Answer) × IsAllowedAnswer hooks bodies i a × (more ≡ posts ++ a ∷ [])
Works hooks bodies None posts more = more ≡ posts

module _ {Place : Type 0} (M : Machine Place) (hooks : List Promise) (bodies : List BodyDecl) where
  -- the event that a line gives, if any, and the answers that are posted after it: a reaction takes all that
  -- were posted before
  abbrev pub Does : State Place → List Answer → Line → Option Event → List Answer → Type 0
  Does S posts (React inputs) e more = (e ≡ Some (event.React inputs posts)) × (more ≡ [])
  Does S posts (Work id) e more = (e ≡ None) × Works hooks bodies (holder S.running id) posts more
  Does S posts (Notify a) e more = (e ≡ None) × (more ≡ posts ++ a ∷ [])
  Does S posts Reset e more = (e ≡ Some event.Reset) × (more ≡ posts)
  Does S posts Settle e more = (e ≡ None) × (more ≡ posts)

  -- the state after an event, if there is one
  abbrev pub state_after : State Place → Option Event → State Place
  state_after S (Some e) = next_state M S e
  state_after S None = S

  -- the lines give these events, one after the other, and leave these answers posted
  abbrev pub Plays : State Place → List Answer → List Line → List Event → List Answer → Type 0
  Plays S posts [] events left = (events ≡ []) × (left ≡ posts)
  Plays S posts (l ∷ ls) events left =
      (e : Option Event) × (more : List Answer) × (rest : List Event) × Does S posts l e more
      × (events ≡ option_to_list e ++ rest) × Plays (state_after S e) more ls rest left

  -- the lines were played from here on, and the print of the replies was written
  pub record WritesPlay (signals : List SignalDecl) (S : State Place) (lines : List Line)
      (old new : SinkState) : Type 0 where
    pub events : List Event
    pub left : List Answer
    pub plays : Plays S [] lines events left
    pub written : Puts old new (printed signals bodies (replies M S events))

  -- the first lines were played, and the print of their replies was cut off
  pub record CutsPlay (signals : List SignalDecl) (S : State Place) (lines : List Line)
      (old new : SinkState) (fault : SinkFault) : Type 0 where
    pub front : List Line
    pub behind : List Line
    pub parted : lines ≡ front ++ behind
    pub events : List Event
    pub left : List Answer
    pub plays : Plays S [] front events left
    pub cut : CutsOff old new (printed signals bodies (replies M S events)) fault
