-- What a node of the tree declares, by what its parts declare.
use Rattle.std.proofs.Common.{◌≡◌, ℕ, List, map, sym, ap, ◌∙◌}
use Rattle.std.specs.List.{flat_map}
use Rattle.hh_base.specs.declared.value.Pos.{Pos}
use Rattle.module_tree.specs.declared.source.BlockNode.{BlockNode}
use Rattle.module_tree.specs.declared.source.StatementNode.{StatementNode, roll-StatementNode}
use Rattle.module_tree.specs.declared.source.Statement.{Statement, roll-Statement}
use Rattle.module_tree.specs.declared.source.Statement.TheOpen as s
use Rattle.module_tree.specs.declared.source.Statement.TheFolds.{fold-StatementNode, fold-Statement}
use Rattle.module_tree.specs.declared.source.Statement.TheFolds.{fold-roll-BlockNode, fold-roll-StatementNode}
use Rattle.module_tree.specs.declared.source.Statement.TheFolds.{fold-roll-Statement, map-Statement}
use Rattle.module_tree.specs.DeclaredAt.{DeclaredAt, statement_step, block_step, node_step, declared_in_block}
use Rattle.expression_reader.specs.Trees.{Name, pos_at}
use Rattle.module_reader.specs.Trees.{block_at}

abbrev Declarations : Type 0
Declarations = List DeclaredAt

abbrev pub declared_in_node : StatementNode Name → Declarations
declared_in_node = fold-StatementNode Name (Pos → Declarations) Declarations Declarations statement_step
    block_step node_step

abbrev declared_in_statement : Statement Name → Pos → Declarations
declared_in_statement = fold-Statement Name (Pos → Declarations) Declarations Declarations statement_step
    block_step node_step

abbrev pub Layer : Type 0
Layer = s.Statement-F Name (Statement Name) (BlockNode Name) (StatementNode Name)

-- a statement's parts, with what they declare in their places
abbrev pub declared_by_parts : Layer → s.Statement-F Name (Pos → Declarations) Declarations Declarations
declared_by_parts = map-Statement Name (Statement Name) (BlockNode Name) (StatementNode Name)
    (Pos → Declarations) Declarations Declarations declared_in_statement declared_in_block declared_in_node

pub statement_layer : (p : Pos) (parts : Layer) {x : Statement Name} → roll-Statement Name parts ≡ x
    → declared_in_node (roll-StatementNode Name (record { pos = p; what = x }))
    ≡ statement_step (declared_by_parts parts) p
statement_layer p parts {x} rolls =
    fold-roll-StatementNode Name (Pos → Declarations) Declarations Declarations statement_step block_step
    node_step (record { pos = p; what = x })
    ∙ ap (λ y. declared_in_statement y p) (sym rolls)
    ∙ ap (λ f. f p) (fold-roll-Statement Name (Pos → Declarations) Declarations Declarations statement_step
    block_step node_step parts)

pub block_layer : (n : ℕ) (xs : List (StatementNode Name))
    → declared_in_block (block_at n xs) ≡ flat_map (λ ds. ds) (map declared_in_node xs)
block_layer n xs = fold-roll-BlockNode Name (Pos → Declarations) Declarations Declarations statement_step
    block_step node_step (record { pos = pos_at n; statements = xs })
