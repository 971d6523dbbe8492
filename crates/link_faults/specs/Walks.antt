-- What a walk over a piece of a module finds: the first fault of its parts, and the runs that it has. This
-- project's own.
use Rattle.std.specs.Prelude.{◌≡◌, ℕ, Option, Some, None, option_map, List, [], ◌∷◌, ◌++◌, map, slice_get}
use Rattle.std.specs.Prelude.{is_some}
use Rattle.std.specs.List.{flat_map}
use Rattle.hh_base.specs.declared.value.Kind.TheVariants as kind
use Rattle.module_tree.specs.declared.source.NameAt.{NameAt}
use Rattle.module_tree.specs.declared.source.ModuleNode.{ModuleNode}
use Rattle.hh_base.specs.declared.value.Dir.TheVariants as dir
use Rattle.module_tree.specs.declared.source.SignalNode.{SignalNode}
use Rattle.module_tree.specs.declared.source.Statement.{Statement}
use Rattle.module_tree.specs.declared.source.StatementNode.{StatementNode}
use Rattle.module_tree.specs.declared.source.Statement.TheFolds.{fold-Statement, fold-StatementNode}
use Rattle.module_tree.specs.Scopes.{Signal, TrapName, InScope, Declared}
use Rattle.module_tree.specs.Parts.{StatementPart, Test, Times, Emission, Locals, Exit, Call, Start, Placed}
use Rattle.module_tree.specs.Parts.{Walk, statement_step, block_step}
use Rattle.link_faults.specs.declared.fault.LinkKind.TheVariants as fault
use Rattle.link_faults.specs.declared.fault.LinkFault.{LinkFault}
use Rattle.link_faults.specs.declared.names.Meaning.{Meaning}
use Rattle.link_faults.specs.declared.walk.RunAt.{RunAt}
use Rattle.link_faults.specs.declared.walk.Walker.{Walker}
use Rattle.link_faults.specs.Faults.{earlier}
use Rattle.link_faults.specs.Earliest.{first_at, first_by}
use Rattle.link_faults.specs.Named.{Name, trap_named, module_named, signature_named}
use Rattle.link_faults.specs.InnermostFirst.{Named, IsScope, in_scope}
use Rattle.link_faults.specs.Rows.{Program, no_kinds, repeated, name_of_signal, unknown_among, called}
use Rattle.link_faults.specs.Rows.{module_place}
use Rattle.link_faults.specs.Meanings.{meaning, meant_in, kind_of_parameter}
use Rattle.link_faults.specs.CallableTables.{callable}
use Rattle.link_faults.specs.PartFaults.{kinds_by, first_expected, first_emission, first_wrong}
use Rattle.link_faults.specs.RunFaults.{first_call, first_start}

-- ---- a part

-- the first fault of a part in this scope
abbrev pub first_of_part : Program → InScope → StatementPart Name → Option LinkFault
first_of_part parts scope (Test x) = first_expected (kinds_by (meant_in scope)) no_kinds kind.Bool x
first_of_part parts scope (Times n) = None
first_of_part parts scope (Emission n value) = first_emission (meant_in scope) no_kinds n value
first_of_part parts scope (Locals signals) =
    earlier (first_at fault.TwiceDeclared (repeated (map name_of_signal signals))) (first_wrong signals)
first_of_part parts scope (Exit trap) = first_at fault.UnknownTrap
    (unknown_among (λ n. is_some (trap_named scope n)) (trap ∷ []))
first_of_part parts scope (Call callee bindings) = first_call (meant_in scope) callee bindings
    (option_map (λ (m : ModuleNode Name). m.interface) (module_named parts callee.name))
first_of_part parts scope (Start a) = first_start (meant_in scope) no_kinds a
    (option_map callable (signature_named parts a.body.name))

abbrev pub first_placed : Program → Placed Name → Option LinkFault
first_placed parts p = first_of_part parts p.scope p.part

-- a run of a module that is there
abbrev pub run_to : NameAt Name → ℕ → RunAt
run_to n place = record { pos = n.pos; callee = place }

abbrev pub cons_run : NameAt Name → Option ℕ → List RunAt
cons_run n None = []
cons_run n (Some place) = run_to n place ∷ []

abbrev pub runs_among : Program → List (NameAt Name) → List RunAt
runs_among parts [] = []
runs_among parts (n ∷ ns) = cons_run n (module_place parts n.name) ++ runs_among parts ns

abbrev pub runs_placed : Program → Placed Name → List RunAt
runs_placed parts p = runs_among parts (called p.part)

-- ---- where a walker stands

-- a name in scope, and what it means
pub record Shown : Type 0 where
  pub name : Name
  pub meaning : Option Meaning

abbrev pub shown_by : List Meaning → Named → Shown
shown_by meanings n = record { name = n.name; meaning = slice_get meanings n.place }

abbrev pub shown_signal : Signal → Shown
shown_signal s = record { name = s.signal.name; meaning = Some (meaning s) }

-- its tables show what is in scope, and it is in no body
pub record Stands (scope : InScope) (w : Walker) : Type 0 where
  pub signals : IsScope w.names.signals
  pub meant : map (shown_by w.names.meanings) (in_scope w.names.signals) ≡ map shown_signal scope.signals
  pub traps : IsScope w.traps
  pub named : map (λ (n : Named). n.name) (in_scope w.traps) ≡ map (λ (t : TrapName). t.name) scope.traps
  pub bodiless : kind_of_parameter w.names ≡ no_kinds

-- its tables find the innermost declarations
pub record IsReady (w : Walker) : Type 0 where
  pub signals : IsScope w.names.signals
  pub traps : IsScope w.traps

-- it has gone over these parts
pub record Passes (parts : Program) (scope : InScope) (passed : List (Placed Name)) (old new : Walker) : Type
    0 where
  pub stands : Stands scope new
  pub first : new.first ≡ earlier old.first (first_by (first_placed parts) passed)
  pub runs : new.runs ≡ old.runs ++ flat_map (runs_placed parts) passed

-- it has gone over this piece of a module, whatever is in scope and declared before
pub record Follows (parts : Program) (piece : Walk Name) (old new : Walker) : Type 0 where
  pub ready : IsReady old → IsReady new
  pub passes : (scope : InScope) (before : Declared) → Stands scope old
      → Passes parts scope (piece scope before).parts old new

-- it has only moved to where this is in scope
pub record Moves (scope : InScope) (old new : Walker) : Type 0 where
  pub stands : Stands scope new
  pub first : new.first ≡ old.first
  pub runs : new.runs ≡ old.runs

abbrev pub statement_walk : Statement Name → Walk Name
statement_walk = fold-Statement Name (Walk Name) (Walk Name) (Walk Name) statement_step block_step
    (λ n. n.what)

abbrev pub node_walk : StatementNode Name → Walk Name
node_walk = fold-StatementNode Name (Walk Name) (Walk Name) (Walk Name) statement_step block_step
    (λ n. n.what)

-- the meaning of a signal that is declared in a block
abbrev pub local_meaning : SignalNode → Meaning
local_meaning s = record { kind = s.kind; dir = dir.Local }
