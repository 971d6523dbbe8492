-- What a call of `hiphop` does where its source and its sink are in memory, tell their bytes and never fail.
-- (This project's own.)
use Rattle.std.specs.Prelude.{◌≡◌, ℕ, ◌<◌, ◌≤◌, List, [], length, take}
use Rattle.scenario_lines.specs.declared.line.Line.{Line}
use Rattle.host_hooks.specs.Promise.{Promise}
use Rattle.hiphop_main.specs.declared.ending.Cause.{Cause}
use Rattle.hiphop_main.specs.declared.ending.Cause.TheVariants.{Fine, Usage, NoMemory, TooLong}
use Rattle.hiphop_main.specs.declared.limits.TheConstants.{INPUT_LIMIT}
use Rattle.hiphop_main.specs.Gen.{IsGen, IsGenWord}
use Rattle.hiphop_main.specs.Obeys.{IsPlay, IsCommand}
use Rattle.hiphop_main.specs.Play.{IsRefusedInput, IsLogText}
use Rattle.hiphop_main.specs.Status.{refusal_line}
use Rattle.hiphop_main.specs.Summary.{summary}
use Rattle.scenario_make.specs.Make.{made}

-- the text written is the one that is due, or a prefix of it where memory ran out
pub data EndsInMemory (due : Cause) (line text : List ℕ) : Cause → Type 0 where
  all : text ≡ line → EndsInMemory due line text due
  cut_off : (n : ℕ) → n ≤ length line → text ≡ take n line → EndsInMemory due line text NoMemory

-- an input within the limit is refused by its line, or played to its end, or its log is cut off
pub data InputInMemory (hooks : List Promise) (input text : List ℕ) : Cause → Type 0 where
  refused_in : {due cause : Cause} → IsRefusedInput hooks input due →
      EndsInMemory due (refusal_line due) text cause → InputInMemory hooks input text cause
  played_in : IsLogText hooks input text [] → InputInMemory hooks input text Fine
  cut_in : {log : List ℕ} {behind : List Line} → IsLogText hooks input log behind →
      (n : ℕ) → n ≤ length log → text ≡ take n log → InputInMemory hooks input text NoMemory

-- the text is that of an input within the limit, or the line that refuses a longer one, or memory ran out
-- before anything was due
pub data PlaysInMemory (hooks : List Promise) (input text : List ℕ) : Cause → Type 0 where
  within : {cause : Cause} → length input ≤ INPUT_LIMIT → InputInMemory hooks input text cause →
      PlaysInMemory hooks input text cause
  beyond : {cause : Cause} → INPUT_LIMIT < length input →
      EndsInMemory TooLong (refusal_line TooLong) text cause → PlaysInMemory hooks input text cause
  nothing : text ≡ [] → PlaysInMemory hooks input text NoMemory

-- the text sums up what was played of a made text, or is the line that refuses it, or memory ran out before
-- anything was due
pub data GensInMemory (hooks : List Promise) (seed size : ℕ) (text : List ℕ) : Cause → Type 0 where
  summed_in : {log : List ℕ} {cause : Cause} → IsLogText hooks (made seed size) log [] →
      EndsInMemory Fine (summary seed size log) text cause → GensInMemory hooks seed size text cause
  refused_made : {due cause : Cause} → IsRefusedInput hooks (made seed size) due →
      EndsInMemory due (refusal_line due) text cause → GensInMemory hooks seed size text cause
  nothing_made : text ≡ [] → GensInMemory hooks seed size text NoMemory

-- the call does what its words ask for
pub data ObeysInMemory (hooks : List Promise) (words : List (List ℕ)) (input text : List ℕ)
    (cause : Cause) : Type 0 where
  plays_in : IsPlay words → PlaysInMemory hooks input text cause → ObeysInMemory hooks words input text cause
  gens_in : {seed size : ℕ} → IsGen words seed size → GensInMemory hooks seed size text cause →
      ObeysInMemory hooks words input text cause
  unanswered_in : IsGenWord words → cause ≡ NoMemory → text ≡ [] → ObeysInMemory hooks words input text cause
  says_in : ¬ IsCommand words → EndsInMemory Usage (refusal_line Usage) text cause →
      ObeysInMemory hooks words input text cause

-- the text is the summary of what was played of the made text
pub record IsSummary (hooks : List Promise) (seed size : ℕ) (text : List ℕ) : Type 0 where
  pub log : List ℕ
  pub log_is : IsLogText hooks (made seed size) log []
  pub text_is : text ≡ summary seed size log
