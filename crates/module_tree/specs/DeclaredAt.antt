-- The signals and counters that a text declares, each with its position and its name. A counter stands for
-- the `count` of an `abort`, `every` or `do .. every`: it has the position of its statement, and no name. The
-- same in a tree as it is written and in one whose names are resolved, since declarations keep both. This
-- project's own.
use Rattle.std.specs.Prelude.{◌≡◌, ℕ, Option, Some, None, List, [], ◌∷◌, ◌++◌, map}
use Rattle.std.specs.List.{flat_map, AllByRecursion}
use Rattle.hh_base.specs.declared.value.Pos.{Pos}
use Rattle.module_tree.specs.declared.source.SignalNode.{SignalNode}
use Rattle.module_tree.specs.declared.source.InterfaceNode.{InterfaceNode}
use Rattle.module_tree.specs.declared.source.ModuleNode.{ModuleNode}
use Rattle.module_tree.specs.declared.source.BlockNode.{BlockNode}
use Rattle.module_tree.specs.declared.source.Statement.TheOpen as s
use Rattle.module_tree.specs.declared.source.Statement.TheFolds.{fold-BlockNode}
use Rattle.module_tree.specs.declared.source.Later.{Later}
use Rattle.module_tree.specs.declared.source.Later.TheVariants as plain
use Rattle.module_tree.specs.declared.source.Delay.{Delay}
use Rattle.module_tree.specs.declared.source.Delay.TheVariants as delay
use Rattle.module_tree.specs.declared.source.Part.{Part}
use Rattle.module_tree.specs.Callables.{modules_of}

pub record DeclaredAt : Type 0 where
  pub pos : Pos
  pub name : Option (List ℕ)

abbrev pub declared_signal : SignalNode → DeclaredAt
declared_signal s = record { pos = s.pos; name = Some s.name }

abbrev pub declared_counter : Pos → DeclaredAt
declared_counter p = record { pos = p; name = None }

-- the counter of a statement at this position that aborts its block, if it counts
abbrev pub later_counter : {R : Type 0} → Later R → Pos → List DeclaredAt
later_counter (plain.Once x) p = []
later_counter (plain.Count n x) p = declared_counter p ∷ []

abbrev pub delay_counter : {R : Type 0} → Delay R → Pos → List DeclaredAt
delay_counter (delay.Later l) p = later_counter l p
delay_counter (delay.Immediate x) p = []

abbrev pub if_there : {A : Type 0} → Option (List A) → List A
if_there None = []
if_there (Some xs) = xs

-- by one layer: what a statement at this position declares, with what its blocks declare in their places
abbrev pub statement_step : {R A : Type 0} → s.Statement-F R A (List DeclaredAt) (List DeclaredAt) → Pos
    → List DeclaredAt
statement_step (s.If x b other) p = b ++ if_there other
statement_step (s.Loop b) p = b
statement_step (s.Fork bs) p = flat_map (λ b. b) bs
statement_step (s.Block b) p = b
statement_step (s.Every d b) p = delay_counter d p ++ b
statement_step (s.DoEvery b l) p = later_counter l p ++ b
statement_step (s.Abort d b) p = delay_counter d p ++ b
statement_step (s.WeakAbort d b) p = b
statement_step (s.Suspend immediate x b) p = b
statement_step (s.Signal signals b) p = map declared_signal signals ++ b
statement_step (s.Trap n b) p = b
statement_step _ p = []

abbrev pub block_step : {R A : Type 0} → s.BlockNode-F R A (List DeclaredAt) (List DeclaredAt)
    → List DeclaredAt
block_step b = flat_map (λ xs. xs) b.statements

abbrev pub node_step : {R A : Type 0} → s.StatementNode-F R (Pos → List DeclaredAt) A A → List DeclaredAt
node_step n = n.what n.pos

abbrev pub declared_in_block : {R : Type 0} → BlockNode R → List DeclaredAt
declared_in_block {R} = fold-BlockNode R (Pos → List DeclaredAt) (List DeclaredAt) (List DeclaredAt)
    statement_step block_step node_step

abbrev pub declared_in_module : {R : Type 0} → ModuleNode R → List DeclaredAt
declared_in_module m = map (λ (d : InterfaceNode). declared_signal d.signal) m.interface
    ++ declared_in_block m.block

-- those of all modules of a text
abbrev pub declared_in : {R : Type 0} → List (Part R) → List DeclaredAt
declared_in parts = flat_map declared_in_module (modules_of parts)

-- Names go by position: each position has a name, or none, and each declaration has that of its position. So
-- declarations of one position have the same name, or none of them has one.
pub record NamesGoByPosition {R : Type 0} (parts : List (Part R)) : Type 0 where
  pub name_at : Pos → Option (List ℕ)
  pub each : AllByRecursion (λ (d : DeclaredAt). d.name ≡ name_at d.pos) (declared_in parts)
