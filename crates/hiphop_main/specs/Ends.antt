-- How a command ends that has a text to write, its log or the line of a refusal. (This project's own.)
use Rattle.std.specs.Prelude.{ℕ, List}
use Rattle.hh_io.specs.SinkState.{SinkState, Puts, PutsPart, FailsPutting}
use Rattle.hiphop_main.specs.declared.ending.Cause.{Cause}
use Rattle.hiphop_main.specs.declared.ending.Cause.TheVariants.{NoMemory, WriteFault}

-- the text was written whole, and the cause is the one that is due with it; or memory ran out behind a prefix
-- of it; or a write failed behind a prefix of it
pub data Ends (due : Cause) (text : List ℕ) (old new : SinkState) : Cause → Type 0 where
  whole : Puts old new text → Ends due text old new due
  out_of_memory : PutsPart old new text → Ends due text old new NoMemory
  failed : FailsPutting old new text → Ends due text old new WriteFault
