-- What each derived statement expands to, computed from the definitions alone, at a position `o`, where `p`
-- stands for its body.
use Rattle.std.proofs.Common.{◌≡◌, ℕ, true, false, [], ◌∷◌, Some, None, refl}
use Rattle.hh_base.specs.declared.value.Pos.{Pos}
use Rattle.host_expr.specs.declared.expr.Expr.{Expr, roll-Expr}
use Rattle.host_expr.specs.declared.expr.ExprNode.TheVariants as node
use Rattle.hh_base.specs.declared.value.Kind.TheVariants as kind
use Rattle.module_tree.specs.declared.source.SignalNode.{SignalNode}
use Rattle.module_tree.specs.declared.source.Binding.{Binding}
use Rattle.module_tree.specs.declared.source.NameAt.{NameAt}
use Rattle.module_tree.specs.declared.source.ExprAt.{ExprAt}
use Rattle.module_tree.specs.declared.source.Statement.TheOpen as s
use Rattle.module_tree.specs.declared.source.Later.TheVariants as later
use Rattle.module_tree.specs.declared.source.Delay.TheVariants as delay
use Rattle.hh_term.specs.Placed.{Placed, Nothing, Pause, Emit, If, Suspend, Seq, Par, Loop, Trap, Exit, Local}
use Rattle.kernel_expand.specs.Halves.{halved}
use Rattle.kernel_expand.specs.Interpretation.{statement_means}
use Rattle.kernel_expand.specs.Numbering.{Around, Numbered, Piece, alone, in_numbers, numbering}

-- a module with one signal, whose number is 4, of a program with no signals and sites so far
start : Numbered
start = record { signals = []; sites = []; places = 4 ∷ []; traps = 0 }

around : Around
around = record { traps = []; counter = 0 }

abbrev What : Type 0
What = s.Statement-F ℕ ℕ Piece ℕ

module _ (o : Pos) (e : Expr ℕ) (runs : ℕ → Piece) where
  abbrev placed : What → Placed
  placed what = (statement_means (numbering runs o) what around start).0

  abbrev d : ExprAt ℕ
  d = record { pos = o; expr = e }

  abbrev when : Expr ℕ
  when = in_numbers start e

  abbrev signal : NameAt ℕ
  signal = record { pos = o; name = 0 }

  -- a body: `pause`, at a position of its own
  abbrev q : Pos
  q = record { 0 = 99 }

  abbrev p : Piece
  p = alone (λ n. Pause q)

  abbrev body : Placed
  body = Pause q

  halts : Placed
  halts = Loop o (Pause o)

  -- W(d), and the same from the first instant on
  waits : Placed
  waits = Loop o (Seq o (Pause o) (If o when (Exit o 0) (Nothing o)))

  waits_now : Placed
  waits_now = Loop o (Seq o (If o when (Exit o 0) (Nothing o)) (Pause o))

  halt : placed s.Halt ≡ halts
  unfolding halts start
  halt = refl

  sustain : placed (s.Sustain signal (Some d)) ≡ Loop o (Seq o (Emit o 4 (Some when)) (Pause o))
  unfolding start
  sustain = refl

  if_without_else : placed (s.If d p None) ≡ If o when body (Nothing o)
  unfolding start
  if_without_else = refl

  await : placed (s.Await (delay.Later (later.Once d))) ≡ Trap o waits
  unfolding waits start
  await = refl

  await_immediate : placed (s.Await (delay.Immediate d)) ≡ Trap o waits_now
  unfolding waits_now start
  await_immediate = refl

  await_count : placed (s.Await (delay.Later (later.Count 3 d))) ≡ Seq o
      (Seq o (Trap o waits) (Trap o waits)) (Trap o waits)
  unfolding waits start halved
  await_count = refl

  abort : placed (s.Abort (delay.Later (later.Once d)) p) ≡ Trap o
      (Par o (Seq o (Suspend o when body) (Exit o 0)) waits)
  unfolding waits start
  abort = refl

  abort_immediate : placed (s.Abort (delay.Immediate d) p) ≡ If o when (Nothing o)
      (Trap o (Par o (Seq o (Suspend o when body) (Exit o 0)) waits))
  unfolding waits start
  abort_immediate = refl

  -- the counter is the program's first signal
  counted : Expr ℕ
  counted = roll-Expr ℕ (record { pos = o; node = node.Now 0 })

  counts : Placed → Placed
  counts b = Trap o (Local o 0 (Par o (Seq o (Suspend o counted b) (Exit o 0))
      (Seq o (Seq o (Seq o (Trap o waits) (Trap o waits)) (Emit o 0 None)) (Exit o 0))))

  abort_count : placed (s.Abort (delay.Later (later.Count 2 d)) p) ≡ counts body
  unfolding waits start counted counts halved
  abort_count = refl

  weak_abort : placed (s.WeakAbort (delay.Later (later.Once d)) p) ≡ Trap o
      (Par o (Seq o body (Exit o 0)) waits)
  unfolding waits start
  weak_abort = refl

  weak_abort_immediate : placed (s.WeakAbort (delay.Immediate d) p) ≡ Trap o
      (Par o (Seq o body (Exit o 0)) waits_now)
  unfolding waits_now start
  weak_abort_immediate = refl

  weak_abort_count : placed (s.WeakAbort (delay.Later (later.Count 2 d)) p) ≡ Trap o
      (Par o (Seq o body (Exit o 0)) (Seq o (Seq o (Trap o waits) (Trap o waits)) (Exit o 0)))
  unfolding waits start halved
  weak_abort_count = refl

  suspend : placed (s.Suspend false d p) ≡ Suspend o when body
  unfolding start
  suspend = refl

  suspend_immediate : placed (s.Suspend true d p) ≡ Suspend o when
      (Seq o (If o when (Pause o) (Nothing o)) body)
  unfolding start
  suspend_immediate = refl

  repeats : Placed
  repeats = Loop o (Trap o (Par o (Seq o (Suspend o when (Seq o body halts)) (Exit o 0)) waits))

  do_every : placed (s.DoEvery p (later.Once d)) ≡ repeats
  unfolding waits start halts repeats
  do_every = refl

  do_every_count : placed (s.DoEvery p (later.Count 2 d)) ≡ Loop o (counts (Seq o body halts))
  unfolding waits start halts counted counts halved
  do_every_count = refl

  every : placed (s.Every (delay.Later (later.Once d)) p) ≡ Seq o (Trap o waits) repeats
  unfolding waits start halts repeats
  every = refl

  every_immediate : placed (s.Every (delay.Immediate d) p) ≡ Seq o (Trap o waits_now) repeats
  unfolding waits waits_now start halts repeats
  every_immediate = refl

  every_count : placed (s.Every (delay.Later (later.Count 2 d)) p) ≡ Seq o
      (Seq o (Trap o waits) (Trap o waits)) (Loop o (counts (Seq o body halts)))
  unfolding waits start halts counted counts halved
  every_count = refl

  -- the exit of a trap of the text from inside an `abort`, whose own trap counts
  aborted : What
  aborted = s.Abort (delay.Later (later.Once d)) ((numbering runs o).leave 0)

  trap_and_break : placed (s.Trap [] (statement_means (numbering runs o) aborted)) ≡ Trap o
      (Trap o (Par o (Seq o (Suspend o when (Exit o 1)) (Exit o 0)) waits))
  unfolding waits start aborted around
  trap_and_break = refl

  -- ---- numbers

  sig : ℕ → SignalNode
  sig n = record { pos = o; name = n ∷ []; kind = kind.Pure; first = None; combine = None }

  -- the first local signal outermost; places 1 and 2 are theirs, as place 0 is the interface's
  local_signals : placed (s.Signal (sig 1 ∷ sig 2 ∷ []) ((numbering runs o).emit 2 None)) ≡ Local o 0
      (Local o 1 (Emit o 1 None))
  unfolding start
  local_signals = refl

  one_local : What
  one_local = s.Signal (sig 1 ∷ []) ((numbering runs o).emit 1 None)

  -- the counter is numbered before the signals of the body; what is read behind the body is numbered as
  -- before it
  behind_body : Numbered
  behind_body = record { signals = []; sites = []; places = 4 ∷ 1 ∷ []; traps = 0 }

  waits_behind : Placed
  waits_behind = Loop o (Seq o (Pause o) (If o (in_numbers behind_body e) (Exit o 0) (Nothing o)))

  counter_first : placed (s.Abort (delay.Later (later.Count 1 d))
      (statement_means (numbering runs o) one_local))
      ≡ Trap o (Local o 0 (Par o (Seq o (Suspend o counted (Local o 1 (Emit o 1 None))) (Exit o 0))
      (Seq o (Seq o (Trap o waits_behind) (Emit o 0 None)) (Exit o 0))))
  unfolding start waits_behind behind_body counted halved one_local sig
  counter_first = refl

  -- branches are numbered from left to right
  branch : Piece
  branch = (numbering runs o).local (sig 1) ((numbering runs o).emit 0 None)

  branches : placed (s.Fork (branch ∷ branch ∷ branch ∷ [])) ≡ Par o
      (Par o (Local o 0 (Emit o 4 None)) (Local o 1 (Emit o 4 None))) (Local o 2 (Emit o 4 None))
  unfolding start branch halved
  branches = refl

  -- two signals bound the other way round: the first of the module's interface is the caller's second
  two_signals : Numbered
  two_signals = record { signals = []; sites = []; places = 4 ∷ 7 ∷ []; traps = 0 }

  bound : ℕ → ℕ → Binding ℕ
  bound l r = record { left = record { pos = o; name = l }; right = record { pos = o; name = r } }

  crossed : What
  crossed = s.Run signal (bound 0 1 ∷ bound 1 0 ∷ [])

  run : (statement_means (numbering (λ m. (numbering runs q).emit 0 None) o) crossed around
      two_signals).0 ≡ Emit q 7 None
  unfolding two_signals crossed bound
  run = refl
