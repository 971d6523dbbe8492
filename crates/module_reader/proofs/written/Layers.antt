-- What a recursion over a tree makes of one node: a step on what it makes of the node's parts.
use Rattle.std.proofs.Common.{◌≡◌, ℕ, List, map, sym, ap, ◌∙◌}
use Rattle.hh_base.specs.declared.value.Pos.{Pos}
use Rattle.module_tree.specs.declared.source.BlockNode.{BlockNode}
use Rattle.module_tree.specs.declared.source.StatementNode.{StatementNode, roll-StatementNode}
use Rattle.module_tree.specs.declared.source.Statement.{Statement, roll-Statement}
use Rattle.module_tree.specs.declared.source.Statement.TheOpen as s
use Rattle.module_tree.specs.declared.source.Statement.TheFolds.{fold-BlockNode, fold-StatementNode}
use Rattle.module_tree.specs.declared.source.Statement.TheFolds.{fold-Statement, fold-roll-BlockNode}
use Rattle.module_tree.specs.declared.source.Statement.TheFolds.{fold-roll-StatementNode, fold-roll-Statement}
use Rattle.module_tree.specs.declared.source.Statement.TheFolds.{map-Statement}
use Rattle.expression_reader.specs.Trees.{Name, pos_at}
use Rattle.module_reader.specs.Trees.{block_at}

module _ {A : Type 0} (step : s.Statement-F Name A A A → A) (join : s.BlockNode-F Name A A A → A) where
  abbrev pub of_block : BlockNode Name → A
  of_block = fold-BlockNode Name A A A step join (λ x. x.what)

  abbrev pub of_statement_node : StatementNode Name → A
  of_statement_node = fold-StatementNode Name A A A step join (λ x. x.what)

  abbrev of_statement : Statement Name → A
  of_statement = fold-Statement Name A A A step join (λ x. x.what)

  -- the statement's parts, with what the recursion makes of them in their places
  abbrev pub of_statement_parts : s.Statement-F Name (Statement Name) (BlockNode Name) (StatementNode Name)
      → s.Statement-F Name A A A
  of_statement_parts = map-Statement Name (Statement Name) (BlockNode Name)
      (StatementNode Name) A A A of_statement of_block of_statement_node

  pub statement_layer : (p : Pos) (parts : s.Statement-F Name (Statement Name) (BlockNode Name)
      (StatementNode Name)) {x : Statement Name} → roll-Statement Name parts ≡ x
      → of_statement_node (roll-StatementNode Name (record { pos = p; what = x }))
      ≡ step (of_statement_parts parts)
  statement_layer p parts {x} rolls =
      fold-roll-StatementNode Name A A A step join (λ x. x.what) (record { pos = p; what = x })
      ∙ ap of_statement (sym rolls) ∙ fold-roll-Statement Name A A A step join (λ x. x.what) parts

  pub block_layer : (n : ℕ) (xs : List (StatementNode Name))
      → of_block (block_at n xs) ≡ join (record { pos = pos_at n; statements = map of_statement_node xs })
  block_layer n xs = fold-roll-BlockNode Name A A A step join (λ x. x.what)
      (record { pos = pos_at n; statements = xs })
