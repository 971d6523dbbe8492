-- What every program keeps: the rules on its declarations, its statement and their limits. (This
-- project's own.)
use Rattle.std.specs.Prelude.{◌≡◌, ◌≢◌, ◌-◌, ◌≤◌, IsSome, List, [], length, take, drop}
use Rattle.std.specs.List.{AllByRecursion, range_with_len}
use Rattle.hh_base.specs.declared.value.Dir.TheVariants as dir
use Rattle.hh_term.specs.declared.program.SignalDecl.{SignalDecl}
use Rattle.hh_term.specs.declared.limits.TheConstants.{SIZE_LIMIT, COPIED_LIMIT, HEIGHT_LIMIT, TRAP_LIMIT}
use Rattle.hh_term.specs.declared.limits.TheConstants.{SITE_LIMIT}
use Rattle.hh_term.specs.Kernel.{Kernel}
use Rattle.hh_term.specs.Pairs.{EachPair}
use Rattle.hh_term.specs.Sizes.{size_of, copied_size_of, height_of, traps_round}
use Rattle.hh_term.specs.Scopes.{ExitsFit, LoopsWait, locals_of, sites_of, UsesInScope}
use Rattle.hh_term.specs.Fits.{SignalFits, BodyIsFit, SiteFits, StatementFits}

-- the first signals are the interface
abbrev pub interface_of : Kernel → List SignalDecl
interface_of K = take K.interface K.signals

abbrev pub locals_declared : Kernel → List SignalDecl
locals_declared K = drop K.interface K.signals

-- interface signals have names, which differ
pub record NamesDiffer (signals : List SignalDecl) : Type 0 where
  pub named : AllByRecursion (λ d. IsSome d.name) signals
  pub differ : EachPair (λ d e. d.name ≢ e.name) signals

-- signals of one position have the same name, or none of them has one
abbrev pub NamesGoByPosition : List SignalDecl → Type 0
NamesGoByPosition = EachPair (λ d e. d.pos ≡ e.pos → d.name ≡ e.name)

pub record IsWithinLimits (K : Kernel) : Type 0 where
  pub size : size_of K K.statement ≤ SIZE_LIMIT
  pub copied : copied_size_of K K.statement ≤ COPIED_LIMIT
  pub height : height_of K.statement ≤ HEIGHT_LIMIT
  pub traps : traps_round K.statement ≤ TRAP_LIMIT
  pub sites : length K.sites ≤ SITE_LIMIT

pub record IsProgram (K : Kernel) : Type 0 where
  pub interface_declared : K.interface ≤ length K.signals
  pub interface_not_local : AllByRecursion (λ d. d.dir ≢ dir.Local) (interface_of K)
  pub others_local : AllByRecursion (λ d. d.dir ≡ dir.Local) (locals_declared K)
  pub names_differ : NamesDiffer (interface_of K)
  pub names_by_position : NamesGoByPosition K.signals
  pub signals_fit : AllByRecursion SignalFits K.signals
  pub bodies_fit : AllByRecursion BodyIsFit K.bodies
  pub sites_fit : AllByRecursion (SiteFits K) K.sites
  pub statement_fits : StatementFits K K.statement
  pub loops_wait : LoopsWait K.statement
  pub exits_fit : ExitsFit 0 K.statement
  pub locals_in_order : locals_of K.statement ≡ range_with_len K.interface (length K.signals - K.interface)
  pub sites_in_order : sites_of K.statement ≡ range_with_len 0 (length K.sites)
  pub uses_in_scope : UsesInScope K [] K.statement
  pub within_limits : IsWithinLimits K
