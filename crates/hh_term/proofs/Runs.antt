-- Runs of reactions over the definitions alone, and short words for the kernel statements of worked programs.
use Rattle.std.specs.Prelude.{◌&&◌, ◌++◌, ◌∷◌, Bool, List, None, Option, Some, [], cond, false, length}
use Rattle.std.specs.Prelude.{map, pos, slice_get, true, ℕ}
use Rattle.hh_base.specs.declared.value.Pos.{Pos}
use Rattle.hh_base.specs.declared.value.Kind.{Kind}
use Rattle.hh_base.specs.declared.value.Kind.TheVariants as kind
use Rattle.hh_base.specs.declared.value.Value.{Value}
use Rattle.hh_base.specs.declared.value.Value.TheVariants as value
use Rattle.hh_base.specs.declared.value.CombineWord.{CombineWord}
use Rattle.host_expr.specs.Expression.{Expression, Int}
use Rattle.hh_base.specs.declared.value.Dir.{Dir}
use Rattle.hh_base.specs.declared.value.Dir.TheVariants as dir
use Rattle.hh_term.specs.declared.program.SignalDecl.{SignalDecl}
use Rattle.hh_term.specs.Statement.{Statement, Nothing, Pause, Emit, If, Suspend, Seq, Par, Loop, Trap, Exit}
use Rattle.hh_term.specs.Selection.{Control, Fresh}
use Rattle.hh_term.specs.Kernel.{Kernel}
use Rattle.hh_term.specs.Reaction.{Last, Now as SignalNow, Outcome, Completes, reaction, last_of, first_lasts}

-- ---- a run of reactions

-- what a reaction shows: its code and its present outputs with their values, or why it is refused
pub data Line : Type 0 where
  Replies : (code : Option ℕ) (present : List (ℕ × Value)) → Line
  Refuses : (outcome : Outcome) → Line

abbrev pub pauses : List (ℕ × Value) → Line
pauses = Replies (Some 1)

abbrev pub ends : List (ℕ × Value) → Line
ends = Replies (Some 0)

abbrev pub is_over : List (ℕ × Value) → Line
is_over = Replies None

abbrev pub emits : Dir → Bool
emits dir.Output = true
emits dir.Both = true
emits _ = false

abbrev pub is_output : Option SignalDecl → Bool
is_output (Some d) = emits d.dir
is_output None = false

abbrev pub shown : Kernel → List SignalNow → List (ℕ × Value)
shown K [] = []
shown K (n ∷ ns) =
    cond (n.status && is_output (slice_get K.signals n.signal)) ((n.signal, n.val) ∷ shown K ns)
    (shown K ns)

-- a reaction that completes leaves its control and its interface to the next one, a refused one changes
-- nothing
abbrev pub follow : Kernel → Control → List Last → (Control → List Last → List Line) → Outcome → List Line
follow K c before rest (Completes done) =
    Replies done.code (shown K done.signals) ∷ rest done.next (map last_of done.signals)
follow K c before rest refused = Refuses refused ∷ rest c before

abbrev pub runs_from : Kernel → Control → List Last → List (List (ℕ × Value)) → List Line
runs_from K c before [] = []
runs_from K c before (given ∷ later) =
    follow K c before (λ d after. runs_from K d after later) (reaction K c before given 0)

abbrev pub runs : Kernel → List (List (ℕ × Value)) → List Line
runs K inputs = runs_from K Fresh (first_lasts K) inputs

-- ---- programs

abbrev pub declared : Dir → Kind → Value → Option CombineWord → ℕ → SignalDecl
declared d k v w p =
    record { name = Some []; dir = d; kind = k; first = v; combine = w; pos = record { 0 = p } }

abbrev pub input : ℕ → SignalDecl
input p = declared dir.Input kind.Pure value.Unit None p

abbrev pub output : ℕ → SignalDecl
output p = declared dir.Output kind.Pure value.Unit None p

abbrev pub number : Option CombineWord → ℕ → SignalDecl
number w p = declared dir.Output kind.Int (value.Int (pos 0)) w p

abbrev pub hidden : ℕ → SignalDecl
hidden p = declared dir.Local kind.Pure value.Unit None p

abbrev pub program : List SignalDecl → List SignalDecl → Statement → Kernel
program interface locals p =
    record {
      signals = interface ++ locals;
      interface = length interface;
      bodies = [];
      sites = [];
      statement = p;
    }

abbrev pub emit : ℕ → Statement
emit s = Emit s None

abbrev pub emit_number : ℕ → ℕ → Statement
emit_number s n = Emit s (Some (Int (pos n)))

abbrev pub position : ℕ → Pos
position n = record { 0 = n }

-- a pure signal that is present, and a number
abbrev pub on : ℕ → ℕ × Value
on s = (s, value.Unit)

abbrev pub is : ℕ → ℕ → ℕ × Value
is s n = (s, value.Int (pos n))

abbrev pub halt : Statement
halt = Loop Pause

abbrev pub sustain : ℕ → Statement
sustain s = Loop (Seq (emit s) Pause)

-- from the next reaction on, leaves the trap where the test holds
abbrev pub watch : Expression → Statement
watch d = Loop (Seq Pause (If d (Exit 0) Nothing))

abbrev pub await : Expression → Statement
await d = Trap (watch d)

abbrev pub abort : Expression → Statement → Statement
abort d p = Trap (Par (Seq (Suspend d p) (Exit 0)) (watch d))

abbrev pub weak_abort : Expression → Statement → Statement
weak_abort d p = Trap (Par (Seq p (Exit 0)) (watch d))
