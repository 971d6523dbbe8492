-- What a statement with a body does in a reaction, from what the body does. (After the preemptions of Berry,
-- The Esterel v5 Language Primer; codes, marks, touches and faults are this project's own.)
use Rattle.std.specs.Prelude.{cond, max, Option, Some, None, List, [], ◌∷◌, ◌++◌, map}
use Rattle.std.specs.Prelude.{option_map}
use Rattle.hh_base.specs.declared.value.Pos.{Pos}
use Rattle.hh_base.specs.declared.value.FaultKind.{FaultKind}
use Rattle.host_expr.specs.declared.cell.Cell.{Cell}
use Rattle.host_expr.specs.declared.cell.Cell.TheVariants as cell
use Rattle.host_expr.specs.Evaluation.{truth}
use Rattle.hh_term.specs.Statement.{Statement}
use Rattle.hh_term.specs.Selection.{Selection}
use Rattle.hh_term.specs.MustCan.{lower}
use Rattle.hh_term.specs.Step.{Stepped, completes, mark_map, on_test}
use Rattle.hh_term.specs.Touches.{stopped, held_touches}

-- the body reacts inside the statement: its mark stands in the statement's, and its exits leave one trap less
abbrev pub inside : (Selection → Selection) → Stepped → Stepped
inside f a = record a { code = lower a.code; next = mark_map f a.next }

-- the body has reacted, and is ended: code 0, or its own where it exits outward
abbrev pub cut : Stepped → Stepped
cut a = record a { code = lower (max 2 a.code); next = None; touches = map stopped a.touches }

-- the body is ended before it reacts
abbrev pub killed : Statement → Selection → Stepped
killed p m = record (completes 0) { touches = map stopped (held_touches p m) }

abbrev pub fault_of : Cell → List (Pos × FaultKind)
fault_of (cell.Faulted o k) = (o, k) ∷ []
fault_of _ = []

-- the test is looked at behind the body too
abbrev pub then_fault : Cell → Stepped → Stepped
then_fault c a = record a { faults = a.faults ++ fault_of c }

-- by a test: undefined where it is unknown; a test that faults does not hold
abbrev pub by_test : Cell → Option Stepped → Option Stepped → Option Stepped
by_test cell.Unknown p q = None
by_test (cell.Known v) p q = cond (truth v) p q
by_test (cell.Faulted o k) p q = q

-- strong preemption: where the test holds, the body is killed and does not react; else it reacts. The test is
-- looked at in front of the body and behind it
abbrev pub preempts : (Selection → Selection) → Cell → Stepped → Option Stepped → Option Stepped
preempts f c kill p = on_test c (Some kill) (option_map (λ a. then_fault c (inside f a)) p)

-- weak preemption: the body reacts, and is ended where the test holds
abbrev pub cuts : (Selection → Selection) → Cell → Option Stepped → Option Stepped
cuts f c p = by_test c (option_map cut p) (option_map (λ a. then_fault c (inside f a)) p)
