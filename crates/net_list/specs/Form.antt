-- What the form of a net text asks of the records that it says. (This project's own.)
use Rattle.std.specs.Prelude.{◌≡◌, ℕ, ◌≤◌, ◌^◌, ◌-◌, ◌⊎◌, true, Option, Some, None, List, length}
use Rattle.std.specs.List.{AllByRecursion}
use Rattle.hh_base.specs.Value.{is_interface}
use Rattle.host_expr.specs.declared.expr.Expr.{Expr}
use Rattle.host_expr.specs.declared.expr.TheConstants.{EXPRESSION_LIMIT}
use Rattle.host_expr.specs.Expression.{expression_of}
use Rattle.host_expr.specs.Measures.{leaves_and_operators}
use Rattle.hh_term.specs.Pairs.{EachPair}
use Rattle.net_list.specs.declared.gate.NetGate.{NetGate}
use Rattle.net_list.specs.declared.gate.NetGate.TheVariants as gate
use Rattle.net_list.specs.declared.record.Sent.{Sent}
use Rattle.net_list.specs.declared.record.Sent.TheVariants as sent
use Rattle.net_list.specs.declared.record.NetSignal.{NetSignal}
use Rattle.net_list.specs.declared.record.NetRecords.{NetRecords}
use Rattle.net_list.specs.Expressions.{only_arithmetic_placed}

-- the greatest number of a net text, in which counts are written too
abbrev pub GREATEST : ℕ
GREATEST = 2 ^ 32 - 1

abbrev pub IsCounted : {X : Type 0} → List X → Type 0
IsCounted xs = length xs ≤ GREATEST

-- an expression that a line may have: as long as it may be, and with no place that is not written
pub record IsWritten (e : Expr ℕ) : Type 0 where
  pub small : leaves_and_operators (expression_of e) ≤ EXPRESSION_LIMIT
  pub placed : only_arithmetic_placed e ≡ true

abbrev pub IsWrittenIfThere : Option (Expr ℕ) → Type 0
IsWrittenIfThere (Some e) = IsWritten e
IsWrittenIfThere None = Unit {0}

abbrev pub IsSentWritten : Sent → Type 0
IsSentWritten (sent.Computed e) = IsWritten e
IsSentWritten _ = Unit {0}

pub record ExpressionsWritten (N : NetRecords) : Type 0 where
  pub bodies : AllByRecursion (λ b. IsWrittenIfThere b.expr) N.bodies
  pub tests : AllByRecursion (λ t. IsWritten t.expr) N.tests
  pub emits : AllByRecursion (λ e. IsSentWritten e.sent) N.emits
  pub execs : AllByRecursion (λ e. AllByRecursion IsWritten e.site.args) N.execs

pub record ListsCounted (N : NetRecords) : Type 0 where
  pub signals : IsCounted N.signals
  pub bodies : IsCounted N.bodies
  pub params : AllByRecursion (λ b. IsCounted b.params) N.bodies
  pub registers : IsCounted N.registers
  pub gates : IsCounted N.gates
  pub tests : IsCounted N.tests
  pub emits : IsCounted N.emits
  pub execs : IsCounted N.execs
  pub args : AllByRecursion (λ e. IsCounted e.site.args) N.execs

-- no interface signal stands behind a local one
abbrev pub InterfaceFirst : List NetSignal → Type 0
InterfaceFirst signals =
    EachPair (λ s t. is_interface t.decl.dir ≡ true → is_interface s.decl.dir ≡ true) signals

abbrev pub IsNoPart : NetGate → Type 0
IsNoPart (gate.Part x) = ⊥
IsNoPart _ = Unit {0}

-- nets of version 1 have no part gates, and nothing that its lines do not say: positions of records and
-- used gates, which are 0
pub record IsFirstVersion (N : NetRecords) : Type 0 where
  pub gates : AllByRecursion IsNoPart N.gates
  pub tests : AllByRecursion (λ t. t.pos.0 ≡ 0) N.tests
  pub emits : AllByRecursion (λ e. e.pos.0 ≡ 0) N.emits
  pub execs : AllByRecursion (λ e. (e.pos.0 ≡ 0) × (e.used ≡ 0)) N.execs

pub record HasForm (N : NetRecords) : Type 0 where
  pub version : (N.version ≡ 1) ⊎ (N.version ≡ 2)
  pub first_version : N.version ≡ 1 → IsFirstVersion N
  pub interface_first : InterfaceFirst N.signals
  pub lists : ListsCounted N
  pub expressions : ExpressionsWritten N
