-- How a play goes on by one line. (This project's own; a bridge, and no part of a promise.)
use Rattle.std.specs.Prelude.{◌≡◌, ◌⊎◌, ℕ, ◌<◌, Option, Some, None, List, [], ◌∷◌, ◌++◌, length, map}
use Rattle.hh_io.specs.declared.fault.SinkFault.{SinkFault}
use Rattle.hh_io.specs.declared.fault.SinkFault.TheVariants.{NoMemory}
use Rattle.hh_io.specs.declared.sink.TheConstants.{WAITING_LIMIT}
use Rattle.hh_io.specs.SinkState.{SinkState, Puts, CutsOff}
use Rattle.hh_term.specs.declared.program.SignalDecl.{SignalDecl}
use Rattle.hh_term.specs.declared.program.BodyDecl.{BodyDecl}
use Rattle.exec_instance.specs.declared.answer.Answer.{Answer}
use Rattle.reaction_run.specs.declared.event.Event.{Event}
use Rattle.reaction_run.specs.declared.log.Entry.{Entry}
use Rattle.reaction_run.specs.declared.reply.Reply.{Reply}
use Rattle.reaction_run.specs.Machine.{Machine, State}
use Rattle.reaction_run.specs.Run.{reply_of}
use Rattle.host_hooks.specs.Promise.{Promise}
use Rattle.scenario_lines.specs.declared.line.Line.{Line}
use Rattle.scenario_print.specs.Print.{printed_from, number_after}
use Rattle.scenario_play.specs.declared.play.Turn.{Turn}
use Rattle.scenario_play.specs.Plays.{Does, state_after}

-- the replies that a log has
abbrev pub told_in : List Entry → List Reply
told_in log = map (λ (e : Entry). e.reply) log

-- the number of the next accepted reaction behind these replies
abbrev pub number_behind : ℕ → List Reply → ℕ
number_behind n [] = n
number_behind n (r ∷ rs) = number_behind (number_after n r) rs

module _ {Place : Type 0} (M : Machine Place) (hooks : List Promise) (bodies : List BodyDecl) where
  -- the replies to an event, if there is one
  abbrev pub replies_to : State Place → Option Event → List Reply
  replies_to S (Some e) = reply_of M S e ∷ []
  replies_to S None = []

  -- what a line did: the state and the posts are those after it, and the log has the reply to its event
  pub record LineDone (before after : State Place) (posts more : List Answer) (l : Line) (log : List Entry)
      : Type 0 where
    pub event : Option Event
    pub does : Does M hooks bodies before posts l event more
    pub stands : after ≡ state_after M hooks bodies before event
    pub told : told_in log ≡ replies_to before event

  -- the text of the reply to an event of a line, if it gives one
  abbrev pub line_text : List SignalDecl → ℕ → State Place → Option Event → List ℕ
  line_text signals number S event = printed_from signals bodies number (replies_to S event)

  -- a line was done, its text was added and the number counts it
  pub record LineAdds (signals : List SignalDecl) (before after : State Place) (l : Line) (old new : Turn)
      : Type 0 where
    pub event : Option Event
    pub does : Does M hooks bodies before old.posts l event new.posts
    pub stands : after ≡ state_after M hooks bodies before event
    pub counts : new.number ≡ number_behind old.number (replies_to before event)
    pub text : new.out.items ≡ old.out.items ++ line_text signals old.number before event

  -- the same where a part of the text may have been written meanwhile
  pub record LinePlayed (signals : List SignalDecl) (before after : State Place) (l : Line) (old new : Turn)
      (sink sink' : SinkState) : Type 0 where
    pub event : Option Event
    pub does : Does M hooks bodies before old.posts l event new.posts
    pub stands : after ≡ state_after M hooks bodies before event
    pub counts : new.number ≡ number_behind old.number (replies_to before event)
    pub put : List ℕ
    pub written : Puts sink sink' put
    pub whole : old.out.items ++ line_text signals old.number before event ≡ put ++ new.out.items
    -- less than the limit goes on waiting, and a text that is shorter is not written yet
    pub waits : length new.out.items < WAITING_LIMIT
    pub patient : length (old.out.items ++ line_text signals old.number before event) < WAITING_LIMIT
        → sink' ≡ sink

  -- a line was done, and its text was cut off
  pub record LineCut (signals : List SignalDecl) (before : State Place) (l : Line) (old : Turn)
      (sink sink' : SinkState) (fault : SinkFault) : Type 0 where
    pub event : Option Event
    pub more : List Answer
    pub does : Does M hooks bodies before old.posts l event more
    pub cut : CutsOff sink sink' (old.out.items ++ line_text signals old.number before event) fault

  -- or memory ran out before, and nothing was written
  abbrev pub CutsLine : List SignalDecl → State Place → Line → Turn → SinkState → SinkState → SinkFault → Type 0
  CutsLine signals before l old sink sink' fault =
      ((fault ≡ NoMemory) × (sink' ≡ sink)) ⊎ LineCut signals before l old sink sink' fault
