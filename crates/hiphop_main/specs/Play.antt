-- What `hiphop play` owes for its input: what it writes for each cause, and when each cause comes. (This
-- project's own.)
use Rattle.std.specs.Prelude.{◌≡◌, ◌≢◌, ℕ, ◌+◌, ◌≤◌, Some, List, [], ◌++◌, All, length}
use Rattle.hh_base.specs.declared.value.Pos.{Pos}
use Rattle.hh_io.specs.Counts.{one_more}
use Rattle.hh_io.specs.SourceState.{SourceState, GivesAll, GivesCount, GivesAtMost, FailsReading}
use Rattle.hh_io.specs.SinkState.{SinkState, Puts, CutsOff}
use Rattle.hh_io.specs.declared.fault.SinkFault.{SinkFault}
use Rattle.hh_io.specs.declared.fault.SinkFault.TheVariants.{Failed, NoMemory as OutOfMemory}
use Rattle.hh_term.specs.declared.program.Program.{Program}
use Rattle.hh_term.specs.declared.program.BodyDecl.{BodyDecl}
use Rattle.hh_term.specs.declared.program.SignalDecl.{SignalDecl}
use Rattle.hh_term.specs.IsProgram.{interface_of}
use Rattle.hh_term.specs.ProgramView.{kernel_of, placed_of}
use Rattle.exec_instance.specs.declared.answer.Answer.{Answer}
use Rattle.reaction_run.specs.declared.log.Entry.{Entry}
use Rattle.reaction_run.specs.Machine.{State, begin}
use Rattle.reaction_run.specs.Legal.{Legal, events_of, replies_in}
use Rattle.term_machine.specs.Place.{Place, start_of}
use Rattle.term_machine.specs.ConstructiveMachine.{constructive}
use Rattle.host_hooks.specs.Promise.{Promise}
use Rattle.host_hooks.specs.Allowed.{IsCovered, IsFirstUncovered}
use Rattle.scenario_lines.specs.declared.line.Line.{Line}
use Rattle.scenario_lines.specs.declared.line.Mode.TheVariants.{Play}
use Rattle.scenario_lines.specs.Scenario.{IsScenario, IsFirstRefused}
use Rattle.scenario_print.specs.Print.{printed}
use Rattle.scenario_play.specs.Plays as lines
use Rattle.module_compile.specs.declared.fault.ModuleFault.{ModuleFault}
use Rattle.module_compile.specs.Compiling.{CompilesTo, IsRefused}
use Rattle.hiphop_main.specs.declared.ending.Cause.{Cause}
use Rattle.hiphop_main.specs.declared.ending.Cause.TheVariants.{Fine, ReadFault, Usage, Module, NoHook}
use Rattle.hiphop_main.specs.declared.ending.Cause.TheVariants.{Scenario}
use Rattle.hiphop_main.specs.declared.ending.Cause.TheVariants.{NoMemory, WriteFault, TooLong}
use Rattle.hiphop_main.specs.declared.limits.TheConstants.{INPUT_LIMIT}
use Rattle.hiphop_main.specs.Ends.{Ends}
use Rattle.hiphop_main.specs.Exchange.{Exchange}
use Rattle.hiphop_main.specs.Split.{module_text, scenario_text}
use Rattle.hiphop_main.specs.Status.{refusal_line}

-- the interface and the bodies of a program, and the machine at its start
abbrev pub signals_of : Program → List SignalDecl
signals_of p = interface_of (kernel_of p)

abbrev pub bodies_of : Program → List BodyDecl
bodies_of p = (placed_of p).bodies

abbrev pub start : Program → State Place
start p = begin constructive (start_of (kernel_of p)) 0

-- ---- inputs, where these hooks are stored

-- the input is a module text that compiles to this program, with a hook for each body of the host, and a
-- scenario of these lines
pub record IsInput (hooks : List Promise) (input : List ℕ) (p : Program) (ls : List Line) : Type 0 where
  pub compiled : CompilesTo (module_text input) p
  pub covered : All (IsCovered hooks) (bodies_of p)
  pub scenario : IsScenario Play (kernel_of p).signals (scenario_text input) ls

-- and it is no other program, with its positions, and no other lines
pub record IsOnlyInput (hooks : List Promise) (input : List ℕ) (p : Program) (ls : List Line) : Type 0 where
  pub is : IsInput hooks input p ls
  pub program : (q : Program) (ms : List Line) → IsInput hooks input q ms → kernel_of q ≡ kernel_of p
  pub statement : (q : Program) (ms : List Line) → IsInput hooks input q ms
      → (placed_of q).statement ≡ (placed_of p).statement
  pub lines : (q : Program) (ms : List Line) → IsInput hooks input q ms → ms ≡ ls

-- the first of these bodies that lacks a hook is declared here
pub record IsBare (hooks : List Promise) (bodies : List BodyDecl) (at : Pos) : Type 0 where
  pub place : ℕ
  pub first : IsFirstUncovered hooks bodies place
  pub position : first.body.pos ≡ at

-- the input has a program whose first body of the host without a hook is declared here
pub record LacksHook (hooks : List Promise) (input : List ℕ) (at : Pos) : Type 0 where
  pub program : Program
  pub compiled : CompilesTo (module_text input) program
  pub bare : IsBare hooks (bodies_of program) at

-- it has a program with all hooks, and this is the first line of its scenario that is refused
pub record HasBadLine (hooks : List Promise) (input : List ℕ) (n : ℕ) : Type 0 where
  pub program : Program
  pub compiled : CompilesTo (module_text input) program
  pub covered : All (IsCovered hooks) (bodies_of program)
  pub line : IsFirstRefused Play (kernel_of program).signals (scenario_text input) n

-- what is refused, in this order: the module text, a body without a hook, a line of the scenario
pub data IsBad (hooks : List Promise) (input : List ℕ) : Cause → Type 0 where
  of_module : {f : ModuleFault} → IsRefused (module_text input) f → IsBad hooks input (Module f)
  of_hooks : {at : Pos} → LacksHook hooks input at → IsBad hooks input (NoHook at)
  of_scenario : {n : ℕ} → HasBadLine hooks input n → IsBad hooks input (Scenario n)

-- a refused input has this cause alone, and is no program with its scenario
pub record IsRefusedInput (hooks : List Promise) (input : List ℕ) (due : Cause) : Type 0 where
  pub bad : IsBad hooks input due
  pub only : (other : Cause) → IsBad hooks input other → other ≡ due
  pub none : (p : Program) (ls : List Line) → IsInput hooks input p ls → ⊥

-- ---- logs

-- a log of the program, legal from its start, whose events are those that the lines give
pub record IsLogOf (hooks : List Promise) (p : Program) (ls : List Line) (log : List Entry) : Type 0 where
  pub legal : Legal constructive (start p) log
  pub left : List Answer
  pub plays : lines.Plays constructive hooks (bodies_of p) (start p) [] ls (events_of log) left

-- the print of such a log for the first lines of an input, up to these
pub record IsLogText (hooks : List Promise) (input text : List ℕ) (behind : List Line) : Type 0 where
  pub program : Program
  pub front : List Line
  pub input_is : IsOnlyInput hooks input program (front ++ behind)
  pub log : List Entry
  pub log_is : IsLogOf hooks program front log
  pub text_is : text ≡ printed (signals_of program) (bodies_of program) (replies_in log)

-- ---- how a call ends

-- the source was read to its end, and gave this input
pub record ReadsWhole (old new : SourceState) (input : List ℕ) : Type 0 where
  pub gave : GivesAll old new input
  pub within : length input ≤ INPUT_LIMIT

-- the cause of a text that was cut off
abbrev pub cause_of : SinkFault → Cause
cause_of Failed = WriteFault
cause_of OutOfMemory = NoMemory

-- an input that was read whole: it is refused, or played to its end, or its log is cut off, or memory runs out
-- before anything is due
pub data InputPlayed (hooks : List Promise) (input : List ℕ) (old new : SinkState) : Cause → Type 0 where
  refused : {due cause : Cause} → IsRefusedInput hooks input due → Ends due (refusal_line due) old new cause
      → InputPlayed hooks input old new cause
  played : {text : List ℕ} → IsLogText hooks input text [] → Puts old new text →
      InputPlayed hooks input old new Fine
  cut_off : {text : List ℕ} {behind : List Line} (fault : SinkFault) → IsLogText hooks input text behind
      → CutsOff old new text fault → InputPlayed hooks input old new (cause_of fault)
  unanswered : new ≡ old → InputPlayed hooks input old new NoMemory

-- how a call ends: by what became of the input that was read whole, by one that was too long, by a read that
-- failed, or by want of memory while reading
pub data Played (hooks : List Promise) (x : Exchange) : Cause → Type 0 where
  read : {input : List ℕ} {cause : Cause} → ReadsWhole x.source_before x.source_after input
      → InputPlayed hooks input x.sink_before x.sink_after cause → Played hooks x cause
  too_long : {cause : Cause} → GivesCount x.source_before x.source_after (INPUT_LIMIT + 1)
      → Ends TooLong (refusal_line TooLong) x.sink_before x.sink_after cause → Played hooks x cause
  read_fault : FailsReading x.source_before x.source_after (INPUT_LIMIT + 1) → x.sink_after ≡ x.sink_before
      → Played hooks x ReadFault
  no_memory : GivesAtMost x.source_before x.source_after (INPUT_LIMIT + 1) → x.sink_after ≡ x.sink_before
      → Played hooks x NoMemory

-- the source was read to its end, and the print of a legal log of its input was written
pub record PlaysLog (hooks : List Promise) (x : Exchange) : Type 0 where
  pub input : List ℕ
  pub text : List ℕ
  pub read : ReadsWhole x.source_before x.source_after input
  pub log : IsLogText hooks input text []
  pub written : Puts x.sink_before x.sink_after text

-- the source told its input, which is within the limit and is a program with its scenario
pub record Accepts (hooks : List Promise) (source : SourceState) : Type 0 where
  pub input : List ℕ
  pub told : source.rest ≡ Some input
  pub within : length input ≤ INPUT_LIMIT
  pub program : Program
  pub lines : List Line
  pub input_is : IsInput hooks input program lines

-- it was played, unless memory ran out, or a read or a write failed, which the count tells
abbrev pub CompletesUnlessCutOff : Exchange → Cause → Type 0
CompletesUnlessCutOff x Fine = Unit {0}
CompletesUnlessCutOff x NoMemory = Unit {0}
CompletesUnlessCutOff x ReadFault = x.source_after.faults ≡ one_more x.source_before.faults
CompletesUnlessCutOff x WriteFault = x.sink_after.faults ≡ one_more x.sink_before.faults
CompletesUnlessCutOff x _ = ⊥

-- What `play` promises
pub record Plays (hooks : List Promise) (x : Exchange) (cause : Cause) : Type 0 where
  -- how the call ends, by its cause
  pub ends : Played hooks x cause
  -- where it is fine, the log was played
  pub fine : cause ≡ Fine → PlaysLog hooks x
  -- a program with its scenario is played
  pub complete : Accepts hooks x.source_before → CompletesUnlessCutOff x cause
  -- the words were those of a command
  pub command : cause ≢ Usage
