-- The faults of names, kinds and runs: for each kind of fault the positions at which a text has it. All
-- modules are judged, also those that nobody runs. This project's own.
use Rattle.std.specs.Prelude.{ℕ, ◌&&◌, ◌||◌, not, cond, Bool, false, Option, Some, None}
use Rattle.std.specs.Prelude.{is_some, is_none, option_map, List, [], ◌∷◌, ◌++◌, map, filter}
use Rattle.std.specs.List.{flat_map, filter_map}
use Rattle.hh_base.specs.declared.value.Pos.{Pos}
use Rattle.hh_base.specs.declared.value.Kind.{Kind}
use Rattle.hh_base.specs.declared.value.Kind.TheVariants as kind
use Rattle.module_tree.specs.declared.source.NameAt.{NameAt}
use Rattle.module_tree.specs.declared.source.ExprAt.{ExprAt}
use Rattle.module_tree.specs.declared.source.SignalNode.{SignalNode}
use Rattle.module_tree.specs.declared.source.InterfaceNode.{InterfaceNode}
use Rattle.module_tree.specs.declared.source.ParameterNode.{ParameterNode}
use Rattle.module_tree.specs.declared.source.Binding.{Binding}
use Rattle.module_tree.specs.declared.source.AsyncNode.{AsyncNode}
use Rattle.module_tree.specs.declared.source.ModuleNode.{ModuleNode}
use Rattle.module_tree.specs.declared.source.Part.{Part}
use Rattle.module_tree.specs.declared.source.Part.TheVariants as top
use Rattle.module_tree.specs.Scopes.{Signal, InScope, interface_signals}
use Rattle.module_tree.specs.Parts.{StatementPart, Test, Emission, Locals, Exit, Call, Start, Placed}
use Rattle.module_tree.specs.Parts.{parts_of, signals_read, parameters_read, signals_named, parameters_named}
use Rattle.module_tree.specs.Callables.{Signature, modules_of, signatures_of}
use Rattle.module_tree.specs.LinkedFacts.{is_kind, sig_fits, is_input}
use Rattle.link_faults.specs.Named.{Name, signal_named, trap_named, module_named, signature_named}
use Rattle.link_faults.specs.Named.{parameter_named, interface_named, place_of, is_named, first_ones}
use Rattle.link_faults.specs.SourceKinds.{Kinds, misfits_in, wrong_for, wrong_value}

abbrev pub Program : Type 0
Program = List (Part Name)

-- the positions that the parts of all modules have, each in its scope
abbrev pub in_parts : (InScope → StatementPart Name → List Pos) → Program → List Pos
in_parts row parts = flat_map (λ (m : ModuleNode Name). flat_map (λ (p : Placed Name). row p.scope p.part)
    (parts_of m)) (modules_of parts)

-- those of these names that mean nothing
abbrev pub unknown_among : (Name → Bool) → List (NameAt Name) → List Pos
unknown_among known names = map (λ n. n.pos) (filter (λ (n : NameAt Name). not (known n.name)) names)

abbrev pub here_if : Bool → Pos → List Pos
here_if b p = cond b (p ∷ []) []

-- ---- TwiceDeclared: a name stands twice among modules, among bodies and hosts, in one interface, in one
-- `signal` list, or in one parameter list; at the second name

abbrev pub repeated_behind : List Name → List (NameAt Name) → List Pos
repeated_behind before [] = []
repeated_behind before (n ∷ ns) = here_if (is_named before n.name) n.pos
    ++ repeated_behind (n.name ∷ before) ns

abbrev pub repeated : List (NameAt Name) → List Pos
repeated = repeated_behind []

abbrev pub name_of_signal : SignalNode → NameAt Name
name_of_signal s = record { pos = s.pos; name = s.name }

abbrev pub repeated_in_part : Part Name → List Pos
repeated_in_part (top.Module m) = repeated (map (λ (d : InterfaceNode). name_of_signal d.signal) m.interface)
repeated_in_part (top.Body b) = repeated (map (λ (p : ParameterNode). record {
  pos = p.pos;
  name =
      p.name;
}) b.parameters)
repeated_in_part (top.Host h) = []

abbrev pub repeated_in_statement : InScope → StatementPart Name → List Pos
repeated_in_statement scope (Locals signals) = repeated (map name_of_signal signals)
repeated_in_statement scope _ = []

abbrev pub twice_declared : Program → List Pos
twice_declared parts =
    repeated (map (λ (m : ModuleNode Name). record { pos = m.pos; name = m.name }) (modules_of parts))
    ++ repeated (map (λ (s : Signature). record { pos = s.pos; name = s.name }) (signatures_of parts))
    ++ flat_map repeated_in_part parts ++ in_parts repeated_in_statement parts

-- ---- UnknownSignal: a name in an expression, emission, async result or right side of a binding is no
-- signal in scope, or no parameter in a body; at the name

abbrev pub unknown_in_statement : InScope → StatementPart Name → List Pos
unknown_in_statement scope part = unknown_among (λ n. is_some (signal_named scope n)) (signals_named part)
    ++ unknown_among (λ n. false) (parameters_named part)

abbrev pub unknown_in_part : Part Name → List Pos
unknown_in_part (top.Body b) = unknown_among (λ n. false) (signals_read b.expr.expr)
    ++ unknown_among (λ n. is_some (parameter_named b.parameters n)) (parameters_read b.expr.expr)
unknown_in_part _ = []

abbrev pub unknown_signal : Program → List Pos
unknown_signal parts = flat_map unknown_in_part parts ++ in_parts unknown_in_statement parts

-- ---- UnknownModule, UnknownTrap, UnknownBody: what is named is not declared; a trap has to enclose its
-- break in the same module; at the name

abbrev pub called : StatementPart Name → List (NameAt Name)
called (Call callee bindings) = callee ∷ []
called _ = []

abbrev pub unknown_module : Program → List Pos
unknown_module parts = in_parts (λ scope part. unknown_among (λ n. is_some (module_named parts n))
    (called part)) parts

abbrev pub broken_out : StatementPart Name → List (NameAt Name)
broken_out (Exit trap) = trap ∷ []
broken_out _ = []

abbrev pub unknown_trap : Program → List Pos
unknown_trap = in_parts (λ scope part. unknown_among (λ n. is_some (trap_named scope n)) (broken_out part))

abbrev pub started : StatementPart Name → List (NameAt Name)
started (Start a) = a.body ∷ []
started _ = []

abbrev pub unknown_body : Program → List Pos
unknown_body parts = in_parts (λ scope part. unknown_among (λ n. is_some (signature_named parts n))
    (started part)) parts

-- ---- KindWrong: the kinds within an expression do not fit; a place needs another kind; a pure signal is
-- emitted with a value or a valued one without; a first value or combine word does not fit; the arguments or
-- the result of an async do not fit the body; at the node that does not fit, else at the first token of the
-- expression, else at the name, and for a wrong number of arguments at the body's name in the call

abbrev pub kinds_in : InScope → Kinds
kinds_in scope n = option_map (λ (s : Signal). s.signal.kind) (signal_named scope n)

abbrev pub no_kinds : Kinds
no_kinds n = None

-- a first value or combine word that does not fit
abbrev pub wrong_signal : SignalNode → List Pos
wrong_signal s = here_if (not (sig_fits s)) s.pos

abbrev pub wrong_emission : Kinds → NameAt Name → Option Kind → Option (ExprAt Name) → List Pos
wrong_emission signals n None None = []
wrong_emission signals n None (Some x) = misfits_in signals no_kinds x
wrong_emission signals n (Some kind.Pure) None = []
wrong_emission signals n (Some kind.Pure) (Some x) = wrong_value (misfits_in signals no_kinds x) x.pos
wrong_emission signals n (Some k) None = n.pos ∷ []
wrong_emission signals n (Some k) (Some x) = wrong_for signals no_kinds k x

-- as many arguments as parameters, each of its kind
abbrev pub wrong_arguments : Kinds → Pos → List Kind → List (ExprAt Name) → List Pos
wrong_arguments signals call [] [] = []
wrong_arguments signals call (k ∷ ks) (x ∷ xs) = wrong_for signals no_kinds k x
    ++ wrong_arguments signals call ks xs
wrong_arguments signals call _ args = call ∷ flat_map (misfits_in signals no_kinds) args

abbrev pub wrong_result : Kinds → Kind → Option (NameAt Name) → List Pos
wrong_result signals answer None = []
wrong_result signals answer (Some n) = here_if (is_some (signals n.name)
    && not (is_kind answer (signals n.name))) n.pos

abbrev pub wrong_start : Kinds → AsyncNode Name → Option Signature → List Pos
wrong_start signals a None = flat_map (misfits_in signals no_kinds) a.args
wrong_start signals a (Some body) = wrong_arguments signals a.body.pos body.parameters a.args
    ++ wrong_result signals body.answer a.signal

abbrev pub wrong_in_statement : Program → InScope → StatementPart Name → List Pos
wrong_in_statement parts scope (Test x) = wrong_for (kinds_in scope) no_kinds kind.Bool x
wrong_in_statement parts scope (Emission n value) = wrong_emission (kinds_in scope) n
    (kinds_in scope n.name) value
wrong_in_statement parts scope (Locals signals) = flat_map wrong_signal signals
wrong_in_statement parts scope (Start a) = wrong_start (kinds_in scope) a (signature_named parts a.body.name)
wrong_in_statement parts scope _ = []

abbrev pub wrong_in_part : Part Name → List Pos
wrong_in_part (top.Module m) = flat_map (λ (d : InterfaceNode). wrong_signal d.signal) m.interface
wrong_in_part (top.Body b) = wrong_for no_kinds (λ n. option_map (λ (p : ParameterNode). p.kind)
    (parameter_named b.parameters n)) b.answer b.expr
wrong_in_part (top.Host h) = []

abbrev pub kind_wrong : Program → List Pos
kind_wrong parts = flat_map wrong_in_part parts ++ in_parts (wrong_in_statement parts) parts

-- ---- what a run binds: each signal of the interface of the module that it runs once, where its name is
-- declared first

abbrev pub interface_of : ModuleNode Name → List Signal
interface_of m = first_ones [] (interface_signals m.interface)

-- the signals of the interface that no binding names
abbrev pub unbound : List (Binding Name) → ModuleNode Name → List Signal
unbound bindings m = filter (λ (s : Signal). not (is_named
    (map (λ (b : Binding Name). b.left.name) bindings) s.signal.name)) (interface_of m)

abbrev pub in_run : (NameAt Name → List (Binding Name) → ModuleNode Name → List Pos) → Program
    → StatementPart Name → List Pos
in_run row parts (Call callee bindings) = at_callee (module_named parts callee.name)
  where
    at_callee : Option (ModuleNode Name) → List Pos
    at_callee None = []
    at_callee (Some m) = row callee bindings m
in_run row parts _ = []

abbrev pub is_in : Option Signal → Bool
is_in None = false
is_in (Some s) = is_input s.dir

abbrev pub is_emitted : Option Signal → Bool
is_emitted None = false
is_emitted (Some s) = not (is_input s.dir)

-- ---- EmitsInput: an `in` signal is emitted, is an async result, or is bound to an `out` or `inout` of the
-- module that is run; at the caller's name, or at the module name of the run where no binding is written

abbrev pub emits : StatementPart Name → List (NameAt Name)
emits (Emission n value) = n ∷ []
emits (Start a) = emitted a.signal
  where
    emitted : Option (NameAt Name) → List (NameAt Name)
    emitted None = []
    emitted (Some n) = n ∷ []
emits _ = []

abbrev pub emitted_by_callee : InScope → NameAt Name → List (Binding Name) → ModuleNode Name → List Pos
emitted_by_callee scope callee bindings m =
    flat_map (λ (b : Binding Name). here_if (is_emitted (interface_named m.interface b.left.name)
    && is_in (signal_named scope b.right.name)) b.right.pos) bindings
    ++ flat_map (λ (s : Signal). here_if (not (is_input s.dir)
    && is_in (signal_named scope s.signal.name)) callee.pos) (unbound bindings m)

abbrev pub emits_input : Program → List Pos
emits_input parts =
    in_parts (λ scope part. flat_map (λ (n : NameAt Name). here_if (is_in (signal_named scope n.name))
    n.pos) (emits part) ++ in_run (emitted_by_callee scope) parts part) parts

-- ---- BadBinding: the left name is no interface signal of the module that is run or is bound twice; the
-- kinds differ; a signal of that module has neither a binding nor a signal of its name in scope; at the left
-- name, or at the module name of the run

abbrev pub differ : Option Signal → Option Signal → Bool
differ (Some s) (Some t) = not (is_kind s.signal.kind (Some t.signal.kind))
differ _ _ = false

abbrev pub bad_left : InScope → ModuleNode Name → List Name → List (Binding Name) → List Pos
bad_left scope m before [] = []
bad_left scope m before (b ∷ bs) =
    here_if (is_none (interface_named m.interface b.left.name) || is_named before b.left.name
    || differ (interface_named m.interface b.left.name) (signal_named scope b.right.name)) b.left.pos
    ++ bad_left scope m (b.left.name ∷ before) bs

abbrev pub badly_bound : InScope → NameAt Name → List (Binding Name) → ModuleNode Name → List Pos
badly_bound scope callee bindings m =
    bad_left scope m [] bindings ++ flat_map (λ (s : Signal). here_if
    (is_none (signal_named scope s.signal.name) || differ (Some s) (signal_named scope s.signal.name))
    callee.pos) (unbound bindings m)

abbrev pub bad_binding : Program → List Pos
bad_binding parts = in_parts (λ scope part. in_run (badly_bound scope) parts part) parts

-- ---- RunCycle: the module that is run reaches, by runs, the module that holds this run; at the module
-- name of the run

-- where a module name stands in the list of modules first
abbrev pub module_place : Program → Name → Option ℕ
module_place parts = place_of (map (λ (m : ModuleNode Name). m.name) (modules_of parts))

-- the runs of a module, in the order of the text
abbrev pub runs_in : ModuleNode Name → List (NameAt Name)
runs_in m = flat_map (λ (p : Placed Name). called p.part) (parts_of m)

-- for each module, by its place, those that it runs
abbrev pub source_runs : Program → List (List ℕ)
source_runs parts = map (λ (m : ModuleNode Name). filter_map
    (λ (n : NameAt Name). module_place parts n.name) (runs_in m)) (modules_of parts)
