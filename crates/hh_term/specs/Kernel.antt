-- A kernel program as definitions see it: signals, the first `interface` of them being its interface,
-- bodies, async sites and
-- the statement. (This project's own.)
use Rattle.std.specs.Prelude.{ℕ, Option, Some, None, List, [], slice_get}
use Rattle.hh_base.specs.declared.value.Pos.{Pos}
use Rattle.hh_base.specs.declared.value.Kind.{Kind}
use Rattle.hh_base.specs.declared.value.Kind.TheVariants as kind
use Rattle.hh_base.specs.declared.value.Value.{Value}
use Rattle.hh_base.specs.declared.value.Value.TheVariants as value
use Rattle.hh_base.specs.declared.value.CombineWord.{CombineWord}
use Rattle.host_expr.specs.Expression.{Expression}
use Rattle.hh_term.specs.declared.program.SignalDecl.{SignalDecl}
use Rattle.hh_term.specs.Statement.{Statement}

pub record Body : Type 0 where
  pub name : List ℕ
  pub params : List Kind
  pub answer : Kind
  pub expr : Option Expression
  pub pos : Pos

pub record AsyncSite : Type 0 where
  pub body : ℕ
  pub signal : Option ℕ
  pub args : List Expression
  pub kill : Option (List ℕ)
  pub suspend : Option (List ℕ)
  pub resume : Option (List ℕ)

pub record Kernel : Type 0 where
  pub signals : List SignalDecl
  pub interface : ℕ
  pub bodies : List Body
  pub sites : List AsyncSite
  pub statement : Statement

-- what a program says of signal s
abbrev pub kind_at : Kernel → ℕ → Kind
kind_at K s = (elim (slice_get K.signals s) [ Some d ↦ d.kind | None ↦ kind.Pure ])

abbrev pub first_at : Kernel → ℕ → Value
first_at K s = (elim (slice_get K.signals s) [ Some d ↦ d.first | None ↦ value.Unit ])

abbrev pub word_at : Kernel → ℕ → Option CombineWord
word_at K s = (elim (slice_get K.signals s) [ Some d ↦ d.combine | None ↦ None ])

abbrev pub position_at : Kernel → ℕ → Pos
position_at K s = (elim (slice_get K.signals s) [ Some d ↦ d.pos | None ↦ record { 0 = 0 } ])

-- what a program says of async site n: the signal of its answers, its arguments and their kinds
abbrev pub target_at : Kernel → ℕ → Option ℕ
target_at K n = (elim (slice_get K.sites n) [ Some a ↦ a.signal | None ↦ None ])

abbrev pub arguments_at : Kernel → ℕ → List Expression
arguments_at K n = (elim (slice_get K.sites n) [ Some a ↦ a.args | None ↦ [] ])

abbrev pub body_params : Option Body → List Kind
body_params (Some b) = b.params
body_params None = []

abbrev pub params_at : Kernel → ℕ → List Kind
params_at K n = (elim (slice_get K.sites n) [ Some a ↦ body_params (slice_get K.bodies a.body) | None ↦ [] ])
