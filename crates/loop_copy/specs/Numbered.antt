-- How far a copy is numbered, and what the copy of one statement adds. (This project's own.)
use Rattle.std.specs.Prelude.{◌≡◌, ℕ, List, [], ◌∷◌, ◌++◌, length, map, set}
use Rattle.hh_term.specs.declared.program.SignalDecl.{SignalDecl}
use Rattle.hh_term.specs.Statement.{Statement}
use Rattle.hh_term.specs.Kernel.{Kernel, AsyncSite}
use Rattle.hh_term.specs.Views.{site_of}
use Rattle.loop_copy.specs.Renaming.{numbers_in}
use Rattle.loop_copy.specs.Copies.{copy, copied_sites, copied_locals, copied_asyncs, items_at}
use Rattle.loop_copy.specs.declared.copier.Copier.{Copier}

-- the numbers of the signals, and the signals and async sites of the copied program so far
pub record Numbered : Type 0 where
  pub numbers : List ℕ
  pub signals : List SignalDecl
  pub sites : List AsyncSite

abbrev pub numbered : Copier → Numbered
numbered c = record { numbers = c.numbers.items; signals = c.signals.items; sites = map site_of c.sites.items }

-- the next local signal copies signal s
pub record Declares (K : Kernel) (s n : ℕ) (before after : Numbered) : Type 0 where
  pub number : n ≡ length before.signals
  pub numbers : after.numbers ≡ set before.numbers s n
  pub signals : after.signals ≡ before.signals ++ items_at K.signals (s ∷ [])
  pub more : length (items_at K.signals (s ∷ [])) ≡ 1
  pub sites : after.sites ≡ before.sites

-- behind what was declared stand copies of these locals, and these sites, as many as are copied
pub record Adds (K : Kernel) (before after : Numbered) (locals asyncs : List ℕ)
    (added : List AsyncSite) : Type 0 where
  pub numbers : after.numbers ≡ before.numbers
  pub signals : after.signals ≡ before.signals ++ items_at K.signals locals
  pub sites : after.sites ≡ before.sites ++ added
  pub more_signals : length (items_at K.signals locals) ≡ length locals
  pub more_sites : length added ≡ length asyncs

-- the second statement is the copy of the first, and what it declares stands behind what was declared
pub record Copies (K : Kernel) (before after : Numbered) (p c : Statement) : Type 0 where
  pub statement : c ≡ copy (numbers_in before.numbers) (length before.signals) (length before.sites) p
  pub adds : Adds K before after (copied_locals p) (copied_asyncs p)
      (copied_sites K.sites (numbers_in before.numbers) (length before.signals) p)
