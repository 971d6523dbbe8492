-- A script whose machine stands at its start. (This project's own; a bridge, and no part of a promise.)
use Rattle.std.specs.Prelude.{◌≡◌, List}
use Rattle.hh_term.specs.declared.program.Program.{Program}
use Rattle.hh_term.specs.ProgramView.{kernel_of}
use Rattle.scenario_lines.specs.declared.line.Line.{Line}
use Rattle.term_reactor.specs.Seen.{state_of}
use Rattle.hiphop_main.specs.declared.ready.Ready.{Ready}
use Rattle.hiphop_main.specs.Play.{bodies_of, start}

pub record IsReady (p : Program) (ls : List Line) (r : Ready) : Type 0 where
  pub state : state_of r.machine ≡ start p
  pub kernel : kernel_of r.machine.program ≡ kernel_of p
  pub bodies : r.bodies.items ≡ bodies_of p
  pub lines : r.lines.items ≡ ls
