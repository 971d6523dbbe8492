-- What every copied program keeps: the rules of a program, with limits of its own, and that its loops are
-- doubled. (This project's own.)
use Rattle.std.specs.Prelude.{◌≡◌, ◌≢◌, ◌-◌, ◌≤◌, ◌+◌, ℕ, max, false, [], length}
use Rattle.std.specs.List.{AllByRecursion, range_with_len}
use Rattle.hh_base.specs.declared.value.Dir.TheVariants as dir
use Rattle.hh_term.specs.declared.limits.TheConstants.{COPIED_LIMIT, HEIGHT_LIMIT, TRAP_LIMIT}
use Rattle.hh_term.specs.Statement.{Statement, If, Suspend, Seq, Par, Loop, Trap, Local}
use Rattle.hh_term.specs.Kernel.{Kernel}
use Rattle.hh_term.specs.Codes.{static_codes}
use Rattle.hh_term.specs.Sizes.{size_of, traps_round}
use Rattle.hh_term.specs.Scopes.{ExitsFit, LoopsWait, locals_of, sites_of, UsesInScope}
use Rattle.hh_term.specs.Fits.{SignalFits, BodyIsFit, SiteFits, StatementFits}
use Rattle.hh_term.specs.IsProgram.{NamesDiffer, NamesGoByPosition, interface_of, locals_declared}

-- each loop's body is two statements one after the other, neither of which may end in the reaction in which
-- it starts
abbrev pub LoopsAreDoubled : Statement → Type 0
LoopsAreDoubled (If e p q) = LoopsAreDoubled p × LoopsAreDoubled q
LoopsAreDoubled (Suspend e p) = LoopsAreDoubled p
LoopsAreDoubled (Seq p q) = LoopsAreDoubled p × LoopsAreDoubled q
LoopsAreDoubled (Par p q) = LoopsAreDoubled p × LoopsAreDoubled q
LoopsAreDoubled (Loop (Seq p q)) =
    (static_codes p 0 ≡ false) × (static_codes q 0 ≡ false) × LoopsAreDoubled p × LoopsAreDoubled q
LoopsAreDoubled (Loop _) = ⊥
LoopsAreDoubled (Trap p) = LoopsAreDoubled p
LoopsAreDoubled (Local s p) = LoopsAreDoubled p
LoopsAreDoubled _ = Unit {0}

-- a loop counts one, as any other node
abbrev pub nodes_high : Statement → ℕ
nodes_high (If e p q) = 1 + max (nodes_high p) (nodes_high q)
nodes_high (Suspend e p) = 1 + nodes_high p
nodes_high (Seq p q) = 1 + max (nodes_high p) (nodes_high q)
nodes_high (Par p q) = 1 + max (nodes_high p) (nodes_high q)
nodes_high (Loop p) = 1 + nodes_high p
nodes_high (Trap p) = 1 + nodes_high p
nodes_high (Local s p) = 1 + nodes_high p
nodes_high _ = 1

pub record IsWithinCopiedLimits (K : Kernel) : Type 0 where
  pub size : size_of K K.statement ≤ COPIED_LIMIT
  pub height : nodes_high K.statement ≤ HEIGHT_LIMIT
  pub traps : traps_round K.statement ≤ TRAP_LIMIT

pub record IsCopied (K : Kernel) : Type 0 where
  pub interface_declared : K.interface ≤ length K.signals
  pub interface_not_local : AllByRecursion (λ d. d.dir ≢ dir.Local) (interface_of K)
  pub others_local : AllByRecursion (λ d. d.dir ≡ dir.Local) (locals_declared K)
  pub names_differ : NamesDiffer (interface_of K)
  pub names_by_position : NamesGoByPosition K.signals
  pub signals_fit : AllByRecursion SignalFits K.signals
  pub bodies_fit : AllByRecursion BodyIsFit K.bodies
  pub sites_fit : AllByRecursion (SiteFits K) K.sites
  pub statement_fits : StatementFits K K.statement
  pub loops_wait : LoopsWait K.statement
  pub loops_are_doubled : LoopsAreDoubled K.statement
  pub exits_fit : ExitsFit 0 K.statement
  pub locals_in_order : locals_of K.statement ≡ range_with_len K.interface (length K.signals - K.interface)
  pub sites_in_order : sites_of K.statement ≡ range_with_len 0 (length K.sites)
  pub uses_in_scope : UsesInScope K [] K.statement
  pub within_limits : IsWithinCopiedLimits K
