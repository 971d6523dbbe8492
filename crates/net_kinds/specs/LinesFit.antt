-- For each line of a net text, whether its kinds fit, and its name does. (This project's own.)
use Rattle.std.specs.Prelude.{ℕ, Bool, true, false, List, [], ◌∷◌, ◌++◌}
use Rattle.hh_base.specs.declared.value.Kind.{Kind}
use Rattle.host_expr.specs.declared.expr.Expr.{Expr}
use Rattle.net_list.specs.declared.record.NetRecords.{NetRecords}
use Rattle.net_list.specs.Lookup.{kinds_of}
use Rattle.net_list.specs.Kinds.{signal_fits, body_fits, test_fits, emit_fits, exec_fits, line_has_kind}
use Rattle.net_range.specs.RuledLines.{section, IsFirstRefused}
use Rattle.net_kinds.specs.declared.kinds.KindFault.{KindFault}
use Rattle.net_kinds.specs.declared.kinds.KindFault.TheVariants.{Line, NoMemory}

-- registers and gates have no kinds
abbrev pub unruled : {X : Type 0} → List X → List Bool
unruled xs = section (λ _. true) xs

abbrev pub lines_over : NetRecords → List Kind → List Bool
lines_over N kinds =
    (true ∷ []) ++ section signal_fits N.signals ++ section body_fits N.bodies ++ unruled N.registers
    ++ unruled N.gates ++ section (test_fits kinds) N.tests ++ section (emit_fits N kinds) N.emits
    ++ section (exec_fits N kinds) N.execs ++ (true ∷ true ∷ [])

abbrev pub lines_fit : NetRecords → List Bool
lines_fit N = lines_over N (kinds_of N)

-- a fault that names a line names the first one that does not fit
abbrev pub IsMisfit : List Bool → KindFault → Type 0
IsMisfit lines (Line n) = IsFirstRefused lines n
IsMisfit lines NoMemory = Unit {0}

-- a bridge: the first argument has this kind
abbrev pub first_fits : List Kind → Kind → List (Expr ℕ) → Bool
first_fits kinds k [] = false
first_fits kinds k (e ∷ args) = line_has_kind kinds k e
