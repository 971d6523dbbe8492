-- What a call of `hiphop` owes for its words: the promise of the program. Each command has its words, a line
-- of `Obeys`, and a record of its own for what it does. (This project's own.)
use Rattle.std.specs.Prelude.{◌≡◌, ℕ, List, [], ◌∷◌, codes}
use Rattle.host_hooks.specs.Promise.{Promise}
use Rattle.hiphop_main.specs.declared.ending.Cause.{Cause}
use Rattle.hiphop_main.specs.declared.ending.Cause.TheVariants.{NoMemory, Usage}
use Rattle.hiphop_main.specs.Ends.{Ends}
use Rattle.hiphop_main.specs.Exchange.{Exchange}
use Rattle.hiphop_main.specs.Gen.{Gens, IsGen, IsGenWord}
use Rattle.hiphop_main.specs.Play.{Plays}
use Rattle.hiphop_main.specs.Status.{refusal_line}

-- the words of `play`
abbrev pub IsPlay : List (List ℕ) → Type 0
IsPlay words = words ≡ codes "play" ∷ []

-- the words of a command
pub data IsCommand (words : List (List ℕ)) : Type 0 where
  play : IsPlay words → IsCommand words
  gen : {seed size : ℕ} → IsGen words seed size → IsCommand words

-- the usage line is due, and nothing is read
pub record SaysUsage (x : Exchange) (cause : Cause) : Type 0 where
  pub line : Ends Usage (refusal_line Usage) x.sink_before x.sink_after cause
  pub unread : x.source_after ≡ x.source_before

-- memory ran out while the words were read: nothing is read and nothing written
pub record Unanswered (x : Exchange) (cause : Cause) : Type 0 where
  pub lacks_memory : cause ≡ NoMemory
  pub unwritten : x.sink_after ≡ x.sink_before
  pub unread : x.source_after ≡ x.source_before

-- a call does what its words ask for, where these hooks are stored
pub data Obeys (hooks : List Promise) (words : List (List ℕ)) (x : Exchange) (cause : Cause) : Type 0 where
  -- `play` plays the module and the scenario of the source
  plays : IsPlay words → Plays hooks x cause → Obeys hooks words x cause
  -- `gen` plays a made text, and sums it up
  gens : {seed size : ℕ} → IsGen words seed size → Gens hooks seed size x cause → Obeys hooks words x cause
  -- reading the words of `gen` takes memory
  unanswered : IsGenWord words → Unanswered x cause → Obeys hooks words x cause
  -- words that are no command are answered by the usage line
  says_usage : ¬ IsCommand words → SaysUsage x cause → Obeys hooks words x cause
