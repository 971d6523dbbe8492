-- A machine that stands at the start of a script, in place of the script.
use Rattle.std.proofs.Common.{◌≡◌, ◌<◌, ◌^◌, ◌∙◌, List, All, length, ap, subst, sym}
use Rattle.hh_io.specs.SinkState.{SinkState}
use Rattle.hh_io.specs.declared.fault.SinkFault.{SinkFault}
use Rattle.hh_term.specs.declared.program.Program.{Program}
use Rattle.hh_term.specs.declared.program.BodyDecl.{BodyDecl}
use Rattle.hh_term.specs.IsProgram.{interface_of}
use Rattle.hh_term.specs.Kernel.{Kernel}
use Rattle.hh_term.specs.ProgramView.{kernel_of}
use Rattle.reaction_run.specs.Machine.{State}
use Rattle.term_machine.specs.ConstructiveMachine.{constructive}
use Rattle.term_machine.specs.Place.{Place}
use Rattle.term_reactor.specs.declared.machine.TermMachine.{TermMachine}
use Rattle.term_reactor.specs.Seen.{state_of}
use Rattle.host_hooks.specs.Allowed.{IsCovered}
use Rattle.host_hooks.specs.Promise.{Promise}
use Rattle.scenario_lines.specs.declared.line.Line.{Line}
use Rattle.scenario_play.specs.Plays.{LineFits, WritesPlay, CutsPlay}
use Rattle.hiphop_main.specs.declared.ending.Cause.TheVariants.{Fine}
use Rattle.hiphop_main.specs.declared.ready.Ready.{Ready}
use Rattle.hiphop_main.specs.Play.{bodies_of, signals_of, start, cause_of}
use Rattle.hiphop_main.specs.Readiness.{IsReady}
use Rattle.hiphop_main.specs.Scripts.{PlaysScript}
use Rattle.hiphop_main.proofs.Scripts.{fault_played}

-- the program of a machine is that of its place
pub same_kernel : (p : Program) (m : TermMachine) → state_of m ≡ start p → kernel_of m.program ≡ kernel_of p
same_kernel p m e = ap (λ (S : State Place). S.place.kernel) e

-- what is said of a machine that is ready, and of its bodies and lines, said of its script
at_start : (P : List BodyDecl → Kernel → State Place → List Line → Type 0) (p : Program) (ls : List Line) (r : Ready)
    (bodies : List BodyDecl) (lines : List Line) → IsReady p ls r → bodies ≡ r.bodies.items → lines ≡ r.lines.items
    → P bodies (kernel_of r.machine.program) (state_of r.machine) lines → P (bodies_of p) (kernel_of p) (start p) ls
at_start P p ls r bodies lines is own own_lines h =
    subst (λ (t : List Line). P (bodies_of p) (kernel_of p) (start p) t) (own_lines ∙ is.lines)
    (subst (λ (S : State Place). P (bodies_of p) (kernel_of p) S lines) is.state
    (subst (λ (K : Kernel). P (bodies_of p) K (state_of r.machine) lines) is.kernel
    (subst (λ (b : List BodyDecl). P b (kernel_of r.machine.program) (state_of r.machine) lines) (own ∙ is.bodies) h)))

pub ready_written : (hooks : List Promise) (p : Program) (ls : List Line) (r : Ready) (bodies : List BodyDecl)
    (lines : List Line) (old new : SinkState) → IsReady p ls r → bodies ≡ r.bodies.items → lines ≡ r.lines.items
    → WritesPlay constructive hooks bodies (interface_of (kernel_of r.machine.program)) (state_of r.machine) lines old new
    → PlaysScript hooks p ls old new Fine
ready_written hooks p ls r bodies lines old new is own own_lines h =
    at_start (λ b K S t. WritesPlay constructive hooks b (interface_of K) S t old new) p ls r bodies lines is own own_lines h

pub ready_cut : (hooks : List Promise) (p : Program) (ls : List Line) (r : Ready) (bodies : List BodyDecl)
    (lines : List Line) (old new : SinkState) (fault : SinkFault) → IsReady p ls r → bodies ≡ r.bodies.items
    → lines ≡ r.lines.items
    → CutsPlay constructive hooks bodies (interface_of (kernel_of r.machine.program)) (state_of r.machine) lines old new fault
    → PlaysScript hooks p ls old new (cause_of fault)
ready_cut hooks p ls r bodies lines old new fault is own own_lines h =
    fault_played hooks p ls old new fault
    (at_start (λ b K S t. CutsPlay constructive hooks b (interface_of K) S t old new fault) p ls r bodies lines is own own_lines h)

-- what a script was asked for holds of what is ready

pub ready_covered : (hooks : List Promise) (p : Program) (ls : List Line) (r : Ready) → IsReady p ls r
    → All (IsCovered hooks) (bodies_of p) → All (IsCovered hooks) r.bodies.items
ready_covered hooks p ls r is h = subst (All (IsCovered hooks)) (sym is.bodies) h

pub ready_fits : (p : Program) (ls : List Line) (r : Ready) → IsReady p ls r → All (LineFits (signals_of p)) ls
    → All (LineFits (interface_of (kernel_of r.machine.program))) r.lines.items
ready_fits p ls r is h =
    subst (All (LineFits (interface_of (kernel_of r.machine.program)))) (sym is.lines)
    (subst (λ (K : Kernel). All (LineFits (interface_of K)) ls) (sym is.kernel) h)

pub ready_few : (p : Program) (ls : List Line) (r : Ready) → IsReady p ls r → length ls < 2 ^ 61
    → length r.lines.items < 2 ^ 61
ready_few p ls r is h = subst (λ (t : List Line). length t < 2 ^ 61) (sym is.lines) h
