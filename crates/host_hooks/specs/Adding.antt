-- What the adding of a hook answers. (This project's own.)
use Rattle.std.specs.Prelude.{◌≡◌, ℕ, List, Contains}
use Rattle.host_hooks.specs.declared.hook.Hook.{Hook}
use Rattle.host_hooks.specs.declared.table.AddFault.{AddFault}
use Rattle.host_hooks.specs.declared.table.AddFault.TheVariants.{TwiceNamed, NoMemory}
use Rattle.host_hooks.specs.Promise.{Promise, promise_of}

-- a hook has this name
abbrev pub HasName : List Promise → List ℕ → Type 0
HasName hooks name = (h : Promise) × Contains hooks h × (h.name ≡ name)

module _ {Stored : Type 0} {Value : Stored → Type 0} {called : _} where
  -- the hook is given back: its name is taken, or it is not and memory ran out
  abbrev pub IsAddFault : List Promise → Hook Stored Value called → AddFault Stored Value called → Type 0
  IsAddFault hooks hook (TwiceNamed h) = (h ≡ hook) × HasName hooks (promise_of hook).name
  IsAddFault hooks hook (NoMemory h) = (h ≡ hook) × (HasName hooks (promise_of hook).name → ⊥)
