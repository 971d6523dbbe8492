-- What is written out: a term, and what is numbered behind it. (This project's own.)
use Rattle.std.specs.Prelude.{◌≡◌, ℕ, List, map, Result, IfOk}
use Rattle.hh_base.specs.declared.value.Pos.{Pos}
use Rattle.hh_base.specs.declared.memory.NoMemory.{NoMemory}
use Rattle.hh_term.specs.declared.term.Term.{Term}
use Rattle.hh_term.specs.Placed.{Placed, If, placed_term}
use Rattle.host_expr.specs.declared.expr.Expr.{Expr}
use Rattle.module_tree.specs.declared.source.BlockNode.{BlockNode}
use Rattle.module_tree.specs.declared.source.Binding.{Binding}
use Rattle.kernel_expand.specs.Interpretation.{of_block}
use Rattle.kernel_expand.specs.Numbering as numbers
use Rattle.kernel_expand.specs.Numbering.{Numbered, Piece}
use Rattle.kernel_expand.specs.Rows as row
use Rattle.statement_build.specs.declared.around.Around.{Around}
use Rattle.statement_build.specs.declared.builder.Builder.{Builder}
use Rattle.statement_build.specs.declared.chain.Level.{Level}
use Rattle.statement_build.specs.Building.{numbered_of, around_of}
use Rattle.statement_build.specs.Levels.{kernel_in}

-- what the piece makes
abbrev pub Writes : Result Term NoMemory → Builder → Builder → Piece → Around → Type 0
Writes result old new p a =
    IfOk result (λ t. (placed_term t, numbered_of new) ≡ p (around_of a) (numbered_of old))

abbrev pub forked_piece : Level → Pos → List (BlockNode ℕ) → Piece
forked_piece l at bs = row.forked (kernel_in l at) (map (of_block (kernel_in l)) bs)

-- at any position
abbrev pub run_piece : Level → ℕ → List (Binding ℕ) → Piece
run_piece l m bindings = (kernel_in l (record { 0 = 0 })).run m bindings

-- two blocks one after the other
abbrev pub both_pieces : Level → BlockNode ℕ → BlockNode ℕ → numbers.Around → Numbered →
    (Placed × Placed) × Numbered
both_pieces l p q a n =
    let x = of_block (kernel_in l) p a n in
    let y = of_block (kernel_in l) q a x.1 in
    ((x.0, y.0), y.1)

-- a test with these for its parts
abbrev pub choice_piece : Level → Pos → Expr ℕ → BlockNode ℕ → BlockNode ℕ → Piece
choice_piece l at test p q a n = let z = both_pieces l p q a n in (If at test z.0.0 z.0.1, z.1)
