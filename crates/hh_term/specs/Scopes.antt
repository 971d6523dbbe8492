-- Where exits, local signals and async sites stand in a statement. (Berry, The Constructive Semantics of
-- Pure Esterel; the numbers
-- of locals and sites are this project's own.)
use Rattle.std.specs.Prelude.{◌≡◌, ℕ, suc, ◌<◌, ◌==◌, false, ◌||◌, nat_lt, IsTrue, Option, Some, None}
use Rattle.std.specs.Prelude.{List, [], ◌∷◌, ◌++◌, flat_map}
use Rattle.std.specs.List.{AllByRecursion, list_any}
use Rattle.host_expr.specs.Expression.{Expression}
use Rattle.host_expr.specs.Measures.{signals_read}
use Rattle.hh_term.specs.Statement.{Statement, Nothing, Pause, Emit, If, Suspend, Seq, Par, Loop, Trap}
use Rattle.hh_term.specs.Statement.{Exit, Local, Async}
use Rattle.hh_term.specs.Kernel.{Kernel, target_at, arguments_at}
use Rattle.hh_term.specs.Codes.{static_codes}

-- each exit has its trap round it, where n traps stand round the statement
abbrev pub ExitsFit : ℕ → Statement → Type 0
ExitsFit n (If e p q) = ExitsFit n p × ExitsFit n q
ExitsFit n (Suspend e p) = ExitsFit n p
ExitsFit n (Seq p q) = ExitsFit n p × ExitsFit n q
ExitsFit n (Par p q) = ExitsFit n p × ExitsFit n q
ExitsFit n (Loop p) = ExitsFit n p
ExitsFit n (Trap p) = ExitsFit (suc n) p
ExitsFit n (Exit k) = k < n
ExitsFit n (Local s p) = ExitsFit n p
ExitsFit n _ = Unit {0}

-- no loop has a body that may end in the reaction in which it starts
abbrev pub LoopsWait : Statement → Type 0
LoopsWait (If e p q) = LoopsWait p × LoopsWait q
LoopsWait (Suspend e p) = LoopsWait p
LoopsWait (Seq p q) = LoopsWait p × LoopsWait q
LoopsWait (Par p q) = LoopsWait p × LoopsWait q
LoopsWait (Loop p) = (static_codes p 0 ≡ false) × LoopsWait p
LoopsWait (Trap p) = LoopsWait p
LoopsWait (Local s p) = LoopsWait p
LoopsWait _ = Unit {0}

-- the signals that stand at a local, and the sites that stand at an async, from left to right
abbrev pub locals_of : Statement → List ℕ
locals_of (If e p q) = locals_of p ++ locals_of q
locals_of (Suspend e p) = locals_of p
locals_of (Seq p q) = locals_of p ++ locals_of q
locals_of (Par p q) = locals_of p ++ locals_of q
locals_of (Loop p) = locals_of p
locals_of (Trap p) = locals_of p
locals_of (Local s p) = s ∷ locals_of p
locals_of _ = []

abbrev pub sites_of : Statement → List ℕ
sites_of (If e p q) = sites_of p ++ sites_of q
sites_of (Suspend e p) = sites_of p
sites_of (Seq p q) = sites_of p ++ sites_of q
sites_of (Par p q) = sites_of p ++ sites_of q
sites_of (Loop p) = sites_of p
sites_of (Trap p) = sites_of p
sites_of (Local s p) = sites_of p
sites_of (Async n) = n ∷ []
sites_of _ = []

-- the signal is of the interface, or of a local round the statement
abbrev pub IsInScope : Kernel → List ℕ → ℕ → Type 0
IsInScope K locals s = IsTrue (nat_lt s K.interface || list_any (λ t. t == s) locals)

abbrev pub optional_signals : Option Expression → List ℕ
optional_signals None = []
optional_signals (Some e) = signals_read e

-- the signals that an async site names: that of its answers, and those which its arguments read
abbrev pub signal_list : Option ℕ → List ℕ
signal_list None = []
signal_list (Some s) = s ∷ []

abbrev pub site_signals : Kernel → ℕ → List ℕ
site_signals K n = signal_list (target_at K n) ++ flat_map signals_read (arguments_at K n)

-- each signal that is read, emitted or named by a site is in scope there
abbrev pub UsesInScope : Kernel → List ℕ → Statement → Type 0
UsesInScope K locals Nothing = Unit {0}
UsesInScope K locals Pause = Unit {0}
UsesInScope K locals (Emit s e) =
    IsInScope K locals s × AllByRecursion (IsInScope K locals) (optional_signals e)
UsesInScope K locals (If e p q) =
    AllByRecursion (IsInScope K locals) (signals_read e) × UsesInScope K locals p × UsesInScope K locals q
UsesInScope K locals (Suspend e p) =
    AllByRecursion (IsInScope K locals) (signals_read e) × UsesInScope K locals p
UsesInScope K locals (Seq p q) = UsesInScope K locals p × UsesInScope K locals q
UsesInScope K locals (Par p q) = UsesInScope K locals p × UsesInScope K locals q
UsesInScope K locals (Loop p) = UsesInScope K locals p
UsesInScope K locals (Trap p) = UsesInScope K locals p
UsesInScope K locals (Exit k) = Unit {0}
UsesInScope K locals (Local s p) = UsesInScope K (s ∷ locals) p
UsesInScope K locals (Async n) = AllByRecursion (IsInScope K locals) (site_signals K n)
