-- How the values of the code stand for what a statement must do and can do. (This project's own.)
use Rattle.std.specs.Prelude.{ℕ, Bool, true, false, Option, Some, None, cond, List, map}
use Rattle.hh_base.specs.declared.value.Value.{Value}
use Rattle.hh_term.specs.Flags.{codes_in}
use Rattle.hh_term.specs.MustCan as kernel
use Rattle.hh_term.specs.MustCan.{Index, Executed, Possible, go_on}
use Rattle.host_expr.specs.Environment.{Env}
use Rattle.hh_term.specs.Kernel.{Kernel}
use Rattle.hh_term.specs.Reaction.{Last, Outer, given_to, program_must_can}
use Rattle.hh_term.specs.Selection.{Control}
use Rattle.nested_reaction.specs.declared.must_can.MustCan.{MustCan}
use Rattle.nested_reaction.specs.declared.walk.Verdict.{Verdict}
use Rattle.nested_reaction.specs.declared.walk.Verdict.TheVariants.{Undecided, Holds, Fails}
use Rattle.host_expr.specs.declared.cell.Cell.{Cell}
use Rattle.host_expr.specs.declared.cell.Cell.TheVariants as cell
use Rattle.host_expr.specs.Evaluation.{truth}

-- known to be executed, or only possible
abbrev pub index_of : Bool → Index
index_of true = Executed
index_of false = Possible

-- the code of a statement that completes with it, where it is known to be executed
abbrev pub code_of : ℕ → Bool → Option ℕ
code_of k true = Some k
code_of k false = None

abbrev pub must_can_of : MustCan → kernel.MustCan
must_can_of a = record { must = a.must.items; code = a.code; can = a.can.items; codes = codes_in a.codes }

-- the second after the first, where that is known
abbrev pub in_sequence : kernel.MustCan → kernel.MustCan → kernel.MustCan
in_sequence a b = kernel.sequence a (λ i. b)

-- what a test gives; a fault counts as not holding
abbrev pub verdict : Cell → Verdict
verdict cell.Unknown = Undecided
verdict (cell.Known v) = cond (truth v) Holds Fails
verdict (cell.Faulted _ _) = Fails

-- the interface before a reaction: statuses and values
abbrev pub last_at : Bool × Value → Last
last_at c = record { status = c.0; val = c.1 }

abbrev pub lasts_of : List (Bool × Value) → List Last
lasts_of = map last_at

-- a signal of the interface that had this last status and value
abbrev pub outer_at : List (ℕ × Value) → ℕ → Last → Outer
outer_at inputs s l = record { signal = s; last = l; given = given_to inputs s }

-- what a program must and can do where its control is here
abbrev pub body_of : Kernel → Control → Env → kernel.MustCan
body_of K c = program_must_can (kernel.table_of K) K.statement c
