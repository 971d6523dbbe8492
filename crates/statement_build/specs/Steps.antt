-- What a statement leaves to be written out. (This project's own.)
use Rattle.std.specs.Prelude.{ℕ, ◌<◌, ◌≤◌, map}
use Rattle.hh_base.specs.declared.value.Pos.{Pos}
use Rattle.hh_term.specs.Placed.{If, placed_term}
use Rattle.module_tree.specs.declared.source.BlockNode.{size-BlockNode}
use Rattle.module_tree.specs.declared.source.Statement.{size-Statement}
use Rattle.module_tree.specs.declared.source.Statement.TheVariants as v
use Rattle.kernel_expand.specs.Interpretation.{of_block}
use Rattle.kernel_expand.specs.Numbering.{Piece, numbering}
use Rattle.kernel_expand.specs.Rows as row
use Rattle.statement_build.specs.declared.steps.Step.{Step}
use Rattle.statement_build.specs.declared.steps.Step.TheVariants as step
use Rattle.statement_build.specs.Shapes.{wrapped}

-- what it comes to where modules are these pieces
abbrev pub made : (ℕ → Piece) → Pos → Step → Piece
made f at (step.Done t) a n = (placed_term t, n)
made f at (step.Inside w b) a n = wrapped at w (of_block (numbering f) b.now) n
made f at (step.Choice e p q) a n =
    let x = of_block (numbering f) p.now a n in
    let y = of_block (numbering f) q.now a x.1 in
    (If at e x.0 y.0, y.1)
made f at (step.Branches bs) a n = row.forked (numbering f at) (map (of_block (numbering f)) bs.now) a n
made f at (step.Run m bs) a n = (numbering f at).run m bs.now a n

-- ---- how deep its blocks are

abbrev pub IsWithin : ℕ → Step → Type 0
IsWithin depth (step.Done t) = Unit {0}
IsWithin depth (step.Inside w b) = size-BlockNode ℕ b.now < depth
IsWithin depth (step.Choice e p q) = (size-BlockNode ℕ p.now < depth) × (size-BlockNode ℕ q.now < depth)
IsWithin depth (step.Branches bs) = size-Statement ℕ (v.Fork bs.now) ≤ depth
IsWithin depth (step.Run m bs) = Unit {0}
