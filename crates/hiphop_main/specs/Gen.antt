-- What `hiphop gen` owes: the text that is made of the seed and the size is played, and its summary is
-- written. (This project's own.)
use Rattle.std.specs.Prelude.{◌≡◌, ◌≢◌, ℕ, Some, List, [], codes, slice_get}
use Rattle.clap.specs.Words.{fault_of}
use Rattle.hh_io.specs.SinkState.{SinkState, Puts}
use Rattle.hh_term.specs.declared.program.Program.{Program}
use Rattle.host_hooks.specs.Promise.{Promise}
use Rattle.scenario_lines.specs.declared.line.Line.{Line}
use Rattle.scenario_make.specs.Make.{made}
use Rattle.gen_words.specs.Words.{IsOrder, command}
use Rattle.hiphop_main.specs.declared.ending.Cause.{Cause}
use Rattle.hiphop_main.specs.declared.ending.Cause.TheVariants.{Fine, NoMemory, Usage}
use Rattle.hiphop_main.specs.Ends.{Ends}
use Rattle.hiphop_main.specs.Exchange.{Exchange}
use Rattle.hiphop_main.specs.Play.{IsInput, IsLogText, IsRefusedInput, CompletesUnlessCutOff}
use Rattle.hiphop_main.specs.Status.{refusal_line}
use Rattle.hiphop_main.specs.Summary.{summary}

-- the first word is `gen`
abbrev pub IsGenWord : List (List ℕ) → Type 0
IsGenWord words = slice_get words 0 ≡ Some (codes "gen")

-- the words of `gen` with this seed and this size
pub record IsGen (words : List (List ℕ)) (seed size : ℕ) : Type 0 where
  pub word : IsGenWord words
  pub order : IsOrder words seed size

-- how the call ends: the made text was played to its end, and its summary is due; or it is refused as an
-- input of `play` is; or memory ran out before anything was due
pub data SumsUp (hooks : List Promise) (seed size : ℕ) (old new : SinkState) : Cause → Type 0 where
  sums_up : {text : List ℕ} {cause : Cause} → IsLogText hooks (made seed size) text []
      → Ends Fine (summary seed size text) old new cause → SumsUp hooks seed size old new cause
  refuses : {due cause : Cause} → IsRefusedInput hooks (made seed size) due →
      Ends due (refusal_line due) old new cause
      → SumsUp hooks seed size old new cause
  lacks_memory : new ≡ old → SumsUp hooks seed size old new NoMemory

-- what is done with words whose first is passed over, as that of the command
pub data AnswersWords (hooks : List Promise) (words : List (List ℕ)) (old new : SinkState)
    (cause : Cause) : Type 0 where
  -- clap takes them
  ordered : {seed size : ℕ} → IsOrder words seed size → SumsUp hooks seed size old new cause
      → AnswersWords hooks words old new cause
  -- clap refuses them, also by a request for help
  misused : fault_of command words ≢ [] → Ends Usage (refusal_line Usage) old new cause →
      AnswersWords hooks words old new cause
  -- memory ran out while they were read
  no_order : cause ≡ NoMemory → new ≡ old → AnswersWords hooks words old new cause

-- the made text was played to its end, and its summary was written
pub record WritesSummary (hooks : List Promise) (seed size : ℕ) (old new : SinkState) : Type 0 where
  pub text : List ℕ
  pub log : IsLogText hooks (made seed size) text []
  pub written : Puts old new (summary seed size text)

-- What `gen` promises
pub record Gens (hooks : List Promise) (seed size : ℕ) (x : Exchange) (cause : Cause) : Type 0 where
  -- how the call ends, by its cause
  pub ends : SumsUp hooks seed size x.sink_before x.sink_after cause
  -- where it is fine, the summary was written
  pub fine : cause ≡ Fine → WritesSummary hooks seed size x.sink_before x.sink_after
  -- a made text that is a program with its scenario is played
  pub complete : (p : Program) (ls : List Line) → IsInput hooks (made seed size) p ls →
      CompletesUnlessCutOff x cause
  -- the words were those of a command
  pub command : cause ≢ Usage
  -- and nothing was read
  pub unread : x.source_after ≡ x.source_before
