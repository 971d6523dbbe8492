-- From the steps of reading an input to what is promised of it.
use Rattle.std.proofs.Common.{◌≡◌, ◌≢◌, ◌⊎◌, ℕ, ◌<◌, ◌^◌, List, [], ◌∷◌, ◌++◌, All, get_or, Err, inl, inr, refl}
use Rattle.std.proofs.Common.{sym, ◌∙◌, ap, subst, append-nil, arith}
use Rattle.std.proofs.Math.Logic.{∥∥₁_elim}
use Rattle.std.proofs.Math.Bridge.{le_prop}
use Rattle.std.proofs.Math.Nat.{ℕ_set}
use Rattle.std.proofs.lemmas.Option.{get_or_from_slice_get}
use Rattle.hh_base.specs.declared.value.Pos.{Pos}
use Rattle.hh_io.specs.SinkState.{SinkState}
use Rattle.hh_io.specs.declared.fault.SinkFault.{SinkFault}
use Rattle.hh_io.specs.declared.fault.SinkFault.TheVariants.{Failed, NoMemory as OutOfMemory}
use Rattle.hh_term.specs.declared.program.Program.{Program}
use Rattle.hh_term.specs.declared.program.BodyDecl.{BodyDecl}
use Rattle.hh_term.specs.declared.program.SignalDecl.{SignalDecl}
use Rattle.hh_term.specs.Kernel.{Kernel}
use Rattle.hh_term.specs.ProgramView.{kernel_of}
use Rattle.exec_instance.specs.declared.answer.Answer.{Answer}
use Rattle.reaction_run.specs.declared.event.Event.{Event}
use Rattle.reaction_run.specs.declared.log.Entry.{Entry}
use Rattle.reaction_run.specs.declared.reply.Reply.{Reply}
use Rattle.reaction_run.specs.Machine.{State}
use Rattle.reaction_run.specs.Run.{reply_of, next_state, replies}
use Rattle.reaction_run.specs.Legal.{events_of, replies_in}
use Rattle.term_machine.specs.Place.{Place}
use Rattle.term_machine.specs.ConstructiveMachine.{constructive}
use Rattle.host_hooks.specs.Promise.{Promise}
use Rattle.host_hooks.specs.Allowed.{IsCovered, IsFirstUncovered}
use Rattle.scenario_lines.specs.declared.line.Line.{Line}
use Rattle.scenario_lines.specs.declared.line.Mode.TheVariants.{Play}
use Rattle.hh_term.specs.IsProgram.{IsProgram}
use Rattle.scenario_lines.specs.Interface.{HasNames}
use Rattle.scenario_lines.specs.Scenario.{IsScenario}
use Rattle.scenario_lines.proofs.Programs.{program_has_names}
use Rattle.scenario_print.specs.Print.{printed}
use Rattle.scenario_play.specs.Plays as lines
use Rattle.scenario_play.specs.Plays.{WritesPlay, CutsPlay}
use Rattle.module_compile.specs.declared.fault.ModuleFault.{ModuleFault}
use Rattle.module_compile.specs.Compiling.{CompilesTo}
use Rattle.module_compile.proofs.CompileLaws.{one_kernel, one_statement, refused_is_none}
use Rattle.hiphop_main.specs.declared.ending.Cause.{Cause}
use Rattle.hiphop_main.specs.declared.ending.Cause.TheVariants as cause
use Rattle.hiphop_main.specs.Ends.{Ends}
use Rattle.hiphop_main.specs.Status.{refusal_line}
use Rattle.hiphop_main.specs.Split.{module_text, scenario_text}
use Rattle.hiphop_main.specs.Play.{IsInput, IsOnlyInput, IsBare, IsBad, of_module, of_hooks, of_scenario}
use Rattle.hiphop_main.specs.Play.{IsRefusedInput, IsLogText, InputPlayed, refused, played, cut_off}
use Rattle.hiphop_main.specs.Play.{bodies_of, signals_of, start, cause_of}
use Rattle.hiphop_main.proofs.Covering.{covered_all}
use Rattle.hiphop_main.proofs.Refusals.{one_cause}
use Rattle.hiphop_main.specs.Scripts.{Compiled, Covered, IsOnlyScenario, Lined, PlaysScript}
use Rattle.scenario_play.proofs.Puts.{puts_no_part}

-- the first body that lacks a hook, by its place
pub bare_at : (hooks : List Promise) (read own : List BodyDecl) (place : ℕ) (b : BodyDecl) → read ≡ own
    → IsFirstUncovered hooks read place → b ≡ get_or read place b → IsBare hooks own (get_or read place b).pos
bare_at hooks read own place b same first is =
    let there : get_or read place b ≡ first.body = get_or_from_slice_get read place first.body b first.at in
    subst (λ (bodies : List BodyDecl). IsBare hooks bodies (get_or read place b).pos) same
    (record { place = place; first = first; position = sym (ap (λ (d : BodyDecl). d.pos) there) })

-- ---- an input is one program with one list of lines

pub only_input : (hooks : List Promise) (input : List ℕ) (p : Program) (ls : List Line) → CompilesTo (module_text input) p
    → All (IsCovered hooks) (bodies_of p) → IsOnlyScenario (kernel_of p).signals (scenario_text input) ls
    → IsOnlyInput hooks input p ls
only_input hooks input p ls compiled covered scenario =
    record {
      is = record { compiled = compiled; covered = covered; scenario = scenario.is };
      program = λ q ms h. one_kernel (module_text input) q p h.compiled compiled;
      statement = λ q ms h. one_statement (module_text input) q p h.compiled compiled;
      lines = λ q ms h.
          let same = one_kernel (module_text input) q p h.compiled compiled in
          scenario.only ms (subst (λ (K : Kernel). IsScenario Play K.signals (scenario_text input) ms) same h.scenario);
    }

-- ---- refused inputs

refused_input : (hooks : List Promise) (input : List ℕ) (due : Cause) → IsBad hooks input due
    → ((p : Program) (ls : List Line) → IsInput hooks input p ls → ⊥) → IsRefusedInput hooks input due
refused_input hooks input due bad none =
    record { bad = bad; only = λ other h. one_cause hooks input due other bad h; none = none }

pub bad_module : (hooks : List Promise) (input : List ℕ) (f : ModuleFault) → Compiled (module_text input) (Err (cause.Module f))
    → IsRefusedInput hooks input (cause.Module f)
bad_module hooks input f h =
    refused_input hooks input (cause.Module f) (of_module h) (λ p ls is. refused_is_none (module_text input) f p h is.compiled)

pub bad_hook : (hooks : List Promise) (input : List ℕ) (p : Program) (at : Pos) → CompilesTo (module_text input) p
    → Covered hooks (bodies_of p) (Err (cause.NoHook at)) → IsRefusedInput hooks input (cause.NoHook at)
bad_hook hooks input p at compiled h =
    refused_input hooks input (cause.NoHook at) (of_hooks (record { program = p; compiled = compiled; bare = h }))
    (λ q ls is.
    let same = one_kernel (module_text input) q p is.compiled compiled in
    h.first.uncovered (covered_all hooks q p same is.covered h.place h.first.body h.first.at))

pub bad_line : (hooks : List Promise) (input : List ℕ) (p : Program) (n : ℕ) → CompilesTo (module_text input) p
    → All (IsCovered hooks) (bodies_of p) → Lined (kernel_of p).signals (scenario_text input) (Err (cause.Scenario n))
    → IsRefusedInput hooks input (cause.Scenario n)
bad_line hooks input p n compiled covered h =
    refused_input hooks input (cause.Scenario n)
    (of_scenario (record { program = p; compiled = compiled; covered = covered; line = h.0 }))
    (λ q ls is.
    let same = one_kernel (module_text input) q p is.compiled compiled in
    h.1 ls (subst (λ (K : Kernel). IsScenario Play K.signals (scenario_text input) ls) same is.scenario))

-- what is refused at each step, or memory ran out
pub module_refused : (hooks : List Promise) (input : List ℕ) (c : Cause) → Compiled (module_text input) (Err c)
    → (c ≡ cause.NoMemory) ⊎ IsRefusedInput hooks input c
module_refused hooks input cause.Fine h = absurd h
module_refused hooks input cause.ReadFault h = absurd h
module_refused hooks input cause.Usage h = absurd h
module_refused hooks input (cause.Module f) h = inr (bad_module hooks input f h)
module_refused hooks input (cause.NoHook p) h = absurd h
module_refused hooks input (cause.Scenario n) h = absurd h
module_refused hooks input cause.NoMemory h = inl refl
module_refused hooks input cause.WriteFault h = absurd h
module_refused hooks input cause.TooLong h = absurd h

pub hook_refused : (hooks : List Promise) (input : List ℕ) (p : Program) (c : Cause) → CompilesTo (module_text input) p
    → Covered hooks (bodies_of p) (Err c) → (c ≡ cause.NoMemory) ⊎ IsRefusedInput hooks input c
hook_refused hooks input p cause.Fine compiled h = absurd h
hook_refused hooks input p cause.ReadFault compiled h = absurd h
hook_refused hooks input p cause.Usage compiled h = absurd h
hook_refused hooks input p (cause.Module f) compiled h = absurd h
hook_refused hooks input p (cause.NoHook at) compiled h = inr (bad_hook hooks input p at compiled h)
hook_refused hooks input p (cause.Scenario n) compiled h = absurd h
hook_refused hooks input p cause.NoMemory compiled h = absurd h
hook_refused hooks input p cause.WriteFault compiled h = absurd h
hook_refused hooks input p cause.TooLong compiled h = absurd h

pub line_refused : (hooks : List Promise) (input : List ℕ) (p : Program) (c : Cause) → CompilesTo (module_text input) p
    → All (IsCovered hooks) (bodies_of p) → Lined (kernel_of p).signals (scenario_text input) (Err c)
    → (c ≡ cause.NoMemory) ⊎ IsRefusedInput hooks input c
line_refused hooks input p cause.Fine compiled covered h = absurd h
line_refused hooks input p cause.ReadFault compiled covered h = absurd h
line_refused hooks input p cause.Usage compiled covered h = absurd h
line_refused hooks input p (cause.Module f) compiled covered h = absurd h
line_refused hooks input p (cause.NoHook at) compiled covered h = absurd h
line_refused hooks input p (cause.Scenario n) compiled covered h = inr (bad_line hooks input p n compiled covered h)
line_refused hooks input p cause.NoMemory compiled covered h = inl refl
line_refused hooks input p cause.WriteFault compiled covered h = absurd h
line_refused hooks input p cause.TooLong compiled covered h = absurd h

-- ---- logs

abbrev pub recorded : State Place → List Event → List Entry
recorded S [] = []
recorded S (e ∷ es) = record { event = e; reply = reply_of constructive S e } ∷ recorded (next_state constructive S e) es

events_recorded : (S : State Place) (es : List Event) → events_of (recorded S es) ≡ es
events_recorded S [] = refl
events_recorded S (e ∷ es) = ap (λ (l : List Event). e ∷ l) (events_recorded (next_state constructive S e) es)

replies_recorded : (S : State Place) (es : List Event) → replies_in (recorded S es) ≡ replies constructive S es
replies_recorded S [] = refl
replies_recorded S (e ∷ es) =
    ap (λ (l : List Reply). reply_of constructive S e ∷ l) (replies_recorded (next_state constructive S e) es)

log_text : (hooks : List Promise) (input : List ℕ) (p : Program) (front behind : List Line) (es : List Event)
    (left : List Answer) → IsOnlyInput hooks input p (front ++ behind)
    → lines.Plays constructive hooks (bodies_of p) (start p) [] front es left
    → IsLogText hooks input (printed (signals_of p) (bodies_of p) (replies constructive (start p) es)) behind
log_text hooks input p front behind es left is plays =
    record {
      program = p;
      front = front;
      input_is = is;
      log = recorded (start p) es;
      log_is = record {
        legal = replies_recorded (start p) es ∙ ap (replies constructive (start p)) (sym (events_recorded (start p) es));
        left = left;
        plays = subst (λ (fs : List Event). lines.Plays constructive hooks (bodies_of p) (start p) [] front fs left) (sym (events_recorded (start p) es)) plays;
      };
      text_is = ap (printed (signals_of p) (bodies_of p)) (sym (replies_recorded (start p) es));
    }

pub whole_played : (hooks : List Promise) (input : List ℕ) (p : Program) (ls : List Line) (old new : SinkState)
    → IsOnlyInput hooks input p ls
    → WritesPlay constructive hooks (bodies_of p) (signals_of p) (start p) ls old new
    → InputPlayed hooks input old new cause.Fine
whole_played hooks input p ls old new is w =
    played (log_text hooks input p ls [] w.events w.left (subst (IsOnlyInput hooks input p) (sym (append-nil ls)) is) w.plays) w.written

front_played : (hooks : List Promise) (input : List ℕ) (p : Program) (ls : List Line) (old new : SinkState) (fault : SinkFault)
    → IsOnlyInput hooks input p ls
    → (c : CutsPlay constructive hooks (bodies_of p) (signals_of p) (start p) ls old new fault)
    → IsLogText hooks input (printed (signals_of p) (bodies_of p) (replies constructive (start p) c.events)) c.behind
front_played hooks input p ls old new fault is c =
    log_text hooks input p c.front c.behind c.events c.left (subst (IsOnlyInput hooks input p) c.parted is) c.plays

-- a script of an input that was played
pub script_played : (hooks : List Promise) (input : List ℕ) (p : Program) (ls : List Line) (old new : SinkState) (c : Cause)
    → IsOnlyInput hooks input p ls → PlaysScript hooks p ls old new c → InputPlayed hooks input old new c
script_played hooks input p ls old new cause.Fine is h = whole_played hooks input p ls old new is h
script_played hooks input p ls old new cause.ReadFault is h = absurd h
script_played hooks input p ls old new cause.Usage is h = absurd h
script_played hooks input p ls old new (cause.Module f) is h = absurd h
script_played hooks input p ls old new (cause.NoHook at) is h = absurd h
script_played hooks input p ls old new (cause.Scenario n) is h = absurd h
script_played hooks input p ls old new cause.NoMemory is h =
    cut_off OutOfMemory (front_played hooks input p ls old new OutOfMemory is h) h.cut
script_played hooks input p ls old new cause.WriteFault is h =
    cut_off Failed (front_played hooks input p ls old new Failed is h) h.cut
script_played hooks input p ls old new cause.TooLong is h = absurd h

-- memory ran out before the first line
pub nothing_played : (hooks : List Promise) (p : Program) (ls : List Line) (w : SinkState)
    → PlaysScript hooks p ls w w cause.NoMemory
nothing_played hooks p ls w =
    record {
      front = [];
      behind = ls;
      parted = refl;
      events = [];
      left = [];
      plays = (refl, refl);
      cut = puts_no_part w [];
    }

-- the cause of a fault of the sink
pub fault_played : (hooks : List Promise) (p : Program) (ls : List Line) (old new : SinkState) (fault : SinkFault)
    → CutsPlay constructive hooks (bodies_of p) (signals_of p) (start p) ls old new fault
    → PlaysScript hooks p ls old new (cause_of fault)
fault_played hooks p ls old new Failed h = h
fault_played hooks p ls old new OutOfMemory h = h

-- ---- the signals of a program have names, by its rules

names_prop : (signals : List SignalDecl) → IsProp (HasNames signals)
names_prop signals = hlevel (le_prop, ℕ_set)

pub named : (K : Kernel) (signals : List SignalDecl) (count : ℕ) → signals ≡ K.signals → count ≡ K.interface → count < 2 ^ 32
    → ∥ IsProgram K ∥₁ → HasNames signals
named K signals count d e few rules =
    subst HasNames (sym d)
    (∥∥₁_elim rules (names_prop K.signals)
    (λ r. program_has_names K r (let lt : K.interface < 2 ^ 32 = subst (λ n. n < 2 ^ 32) e few in omega arith)))

-- ---- a refusal, or want of memory

pub refused_played : (hooks : List Promise) (input : List ℕ) (due : Cause) (c : Cause) (old new : SinkState)
    → due ≢ cause.NoMemory → (due ≡ cause.NoMemory) ⊎ IsRefusedInput hooks input due
    → Ends due (refusal_line due) old new c → InputPlayed hooks input old new c
refused_played hooks input due c old new other (inl h) e = absurd (other h)
refused_played hooks input due c old new other (inr r) e = refused r e
