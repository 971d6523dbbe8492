-- The steps from an input to its play, one by one. (This project's own; bridges, and no part of a promise.)
use Rattle.std.specs.Prelude.{◌≡◌, ℕ, List, Result, Ok, Err, All}
use Rattle.hh_io.specs.SinkState.{SinkState}
use Rattle.hh_io.specs.declared.fault.SinkFault.TheVariants.{Failed, NoMemory as OutOfMemory}
use Rattle.hh_term.specs.declared.program.Program.{Program}
use Rattle.hh_term.specs.declared.program.BodyDecl.{BodyDecl}
use Rattle.hh_term.specs.declared.program.SignalDecl.{SignalDecl}
use Rattle.term_machine.specs.ConstructiveMachine.{constructive}
use Rattle.host_hooks.specs.Promise.{Promise}
use Rattle.host_hooks.specs.Allowed.{IsCovered}
use Rattle.scenario_lines.specs.declared.line.Line.{Line}
use Rattle.scenario_lines.specs.declared.line.Mode.TheVariants.{Play}
use Rattle.scenario_lines.specs.Scenario.{IsScenario, IsFirstRefused}
use Rattle.scenario_play.specs.Plays.{WritesPlay, CutsPlay}
use Rattle.module_compile.specs.Compiling.{CompilesTo, IsRefused}
use Rattle.hiphop_main.specs.declared.ending.Cause.{Cause}
use Rattle.hiphop_main.specs.declared.ending.Cause.TheVariants.{Fine, Module, NoHook, Scenario, NoMemory}
use Rattle.hiphop_main.specs.declared.ending.Cause.TheVariants.{WriteFault}
use Rattle.hiphop_main.specs.Play.{IsBare, bodies_of, signals_of, start}

-- the program of a module text
abbrev pub Compiled : List ℕ → Result Program Cause → Type 0
Compiled text (Ok p) = CompilesTo text p
Compiled text (Err (Module f)) = IsRefused text f
Compiled text (Err NoMemory) = Unit {0}
Compiled text (Err _) = ⊥

abbrev pub Covered : List Promise → List BodyDecl → Result (Unit {0}) Cause → Type 0
Covered hooks bodies (Ok x) = All (IsCovered hooks) bodies
Covered hooks bodies (Err (NoHook p)) = IsBare hooks bodies p
Covered hooks bodies (Err _) = ⊥

-- the text is a scenario of these lines, and of no others
pub record IsOnlyScenario (signals : List SignalDecl) (text : List ℕ) (ls : List Line) : Type 0 where
  pub is : IsScenario Play signals text ls
  pub only : (ms : List Line) → IsScenario Play signals text ms → ms ≡ ls

-- the lines of a scenario
abbrev pub Lined : List SignalDecl → List ℕ → Result (List Line) Cause → Type 0
Lined signals text (Ok ls) = IsOnlyScenario signals text ls
Lined signals text (Err (Scenario n)) =
    IsFirstRefused Play signals text n × ((ls : List Line) → IsScenario Play signals text ls → ⊥)
Lined signals text (Err NoMemory) = Unit {0}
Lined signals text (Err _) = ⊥

-- a program with lines was played, or its log was cut off
abbrev pub PlaysScript : List Promise → Program → List Line → SinkState → SinkState → Cause → Type 0
PlaysScript hooks p ls old new Fine =
    WritesPlay constructive hooks (bodies_of p) (signals_of p) (start p) ls old new
PlaysScript hooks p ls old new WriteFault =
    CutsPlay constructive hooks (bodies_of p) (signals_of p) (start p) ls old new Failed
PlaysScript hooks p ls old new NoMemory =
    CutsPlay constructive hooks (bodies_of p) (signals_of p) (start p) ls old new OutOfMemory
PlaysScript hooks p ls old new _ = ⊥
