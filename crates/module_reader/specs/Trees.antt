-- How the statements and texts of a source tree are made of what stands in a text. A place is the number of
-- bytes before it. This project's own.
use Rattle.std.specs.Prelude.{ℕ, Bool, List}
use Rattle.std.specs.List.{list_any}
use Rattle.module_tree.specs.declared.source.BlockNode.{BlockNode, roll-BlockNode, out-BlockNode}
use Rattle.module_tree.specs.declared.source.StatementNode.{StatementNode, roll-StatementNode}
use Rattle.module_tree.specs.declared.source.Statement.{Statement}
use Rattle.module_tree.specs.declared.source.Statement.TheVariants as s
use Rattle.module_tree.specs.declared.source.Part.{Part}
use Rattle.module_tree.specs.Source.{is_module}
use Rattle.expression_reader.specs.Trees.{Name, pos_at}

-- ---- statements

abbrev pub statement_at : ℕ → Statement Name → StatementNode Name
statement_at n what = roll-StatementNode Name (record { pos = pos_at n; what = what })

abbrev pub block_at : ℕ → List (StatementNode Name) → BlockNode Name
block_at n xs = roll-BlockNode Name (record { pos = pos_at n; statements = xs })

-- a block that is a statement stands where the block does
abbrev pub nested : BlockNode Name → StatementNode Name
nested b = roll-StatementNode Name (record { pos = (out-BlockNode Name b).pos; what = s.Block b })

-- ---- texts

abbrev pub has_module : List (Part Name) → Bool
has_module = list_any is_module
