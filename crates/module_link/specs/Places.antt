-- The places that a walk over a text gives to names: those of its tables. This project's own.
use Rattle.std.specs.Prelude.{◌≡◌, ℕ, None, map}
use Rattle.indexmap.specs.IndexMap.{get_by_text}
use Rattle.module_tree.specs.Scopes.{TrapName, InScope, Declared}
use Rattle.link_faults.specs.Named.{Name}
use Rattle.link_faults.specs.InnermostFirst.{Named, IsScope, declares, in_scope, place_in, shown}
use Rattle.module_link.specs.declared.places.Places.{Places}
use Rattle.module_link.specs.Resolved.{or_first}

abbrev pub signal_place_of : Places → Name → ℕ
signal_place_of p n = or_first (place_in (in_scope p.signals) n)

abbrev pub trap_place_of : Places → Name → ℕ
trap_place_of p n = or_first (place_in (in_scope p.traps) n)

abbrev pub parameter_place_of : Places → Name → ℕ
parameter_place_of p n = or_first (get_by_text p.parameters n)

-- the tables find the innermost declaration of each name
pub record ArePlaces (p : Places) : Type 0 where
  pub signals : IsScope p.signals
  pub traps : IsScope p.traps

abbrev pub shown_trap : TrapName → Named
shown_trap t = declares t.name t.place

-- the tables show this scope of a module, in which nothing is a parameter
pub record Shows (p : Places) (c : InScope) : Type 0 where
  pub signals : in_scope p.signals ≡ map shown c.signals
  pub traps : in_scope p.traps ≡ map shown_trap c.traps
  pub parameters : (n : Name) → get_by_text p.parameters n ≡ None

-- how much is declared before
abbrev pub declared_before : Places → Declared
declared_before p = record { signals = p.next_signal; traps = p.next_trap }
