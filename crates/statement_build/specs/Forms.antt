-- More statements that the rows make, with the numbers that their tests have. (This project's own.)
use Rattle.std.specs.Prelude.{ℕ, None, List, [], ◌∷◌}
use Rattle.hh_base.specs.declared.value.Pos.{Pos}
use Rattle.host_expr.specs.declared.expr.Expr.{Expr}
use Rattle.module_tree.specs.declared.source.Later.TheVariants as later
use Rattle.module_tree.specs.declared.source.Delay.{Delay}
use Rattle.module_tree.specs.declared.source.Delay.TheVariants as delay
use Rattle.hh_term.specs.Placed.{Placed, Emit, Suspend, Seq, Par, Trap, Exit, Local}
use Rattle.kernel_expand.specs.Forms.{waits, waits_now, awaits, present}
use Rattle.kernel_expand.specs.Interpretation.{test_of}
use Rattle.kernel_expand.specs.Numbering.{Numbered, in_numbers}

-- what exits where a weak abort aborts
abbrev pub watches : Pos → Delay ℕ → Numbered → Placed
watches at (delay.Later (later.Once x)) n = waits at (in_numbers n (test_of x))
watches at (delay.Later (later.Count i x)) n = Seq at (awaits at i (in_numbers n (test_of x))) (Exit at 0)
watches at (delay.Immediate x) n = waits_now at (in_numbers n (test_of x))

abbrev pub awaited : Pos → Delay ℕ → Numbered → Placed
awaited at (delay.Later (later.Once x)) n = Trap at (waits at (in_numbers n (test_of x)))
awaited at (delay.Later (later.Count i x)) n = awaits at i (in_numbers n (test_of x))
awaited at (delay.Immediate x) n = Trap at (waits_now at (in_numbers n (test_of x)))

-- a body that is suspended while its counter is present, beside what counts up to it
abbrev pub counts : Pos → ℕ → ℕ → Expr ℕ → Placed → Placed
counts at s i d body =
    Trap at (Local at s (Par at (Seq at (Suspend at (present at s) body) (Exit at 0))
    (Seq at (Seq at (awaits at i d) (Emit at s None)) (Exit at 0))))

-- local signals nested, the first outermost
abbrev pub nested : Pos → List ℕ → Placed → Placed
nested at [] t = t
nested at (s ∷ ss) t = Local at s (nested at ss t)
