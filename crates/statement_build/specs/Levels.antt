-- What modules are where they may run one another so deep. (This project's own.)
use Rattle.std.specs.Prelude.{◌≡◌, ℕ, ◌<◌, ◌≤◌, max, Option, Some, None, List, [], ◌∷◌, map}
use Rattle.std.specs.Borrow.{Bor}
use Rattle.hh_term.specs.Placed.{Placed}
use Rattle.module_tree.specs.declared.source.BlockNode.{size-BlockNode}
use Rattle.module_tree.specs.declared.source.ModuleNode.{ModuleNode}
use Rattle.kernel_expand.specs.Interpretation.{Kernel, of_block}
use Rattle.kernel_expand.specs.Modules.{of_module}
use Rattle.kernel_expand.specs.Expansion.{no_module}
use Rattle.kernel_expand.specs.Numbering.{Piece, Numbered, numbering, behind_run}
use Rattle.statement_build.specs.declared.chain.Level.{Level}
use Rattle.statement_build.specs.declared.chain.Body.{Body}

abbrev pub modules_in : Level → List (ModuleNode ℕ)
modules_in l = map (λ (m : Bor (ModuleNode ℕ)). m.now) l.modules.now

-- the body of the module of this place
abbrev pub runs_in : Level → ℕ → Piece
runs_in l = of_module numbering no_module (modules_in l) l.deep

abbrev pub kernel_in : Level → Kernel Piece
kernel_in l = numbering (runs_in l)

abbrev pub body_piece : Option Body → Piece
body_piece None = no_module
body_piece (Some b) = of_block (kernel_in b.level) b.block.now

-- what a run keeps of it, which was begun behind n
abbrev pub tail : Numbered → Placed × Numbered → Placed × Numbered
tail n x = (x.0, behind_run n x.1)

-- the depth of the deepest body
abbrev pub largest : List (ModuleNode ℕ) → ℕ
largest [] = 0
largest (m ∷ ms) = max (size-BlockNode ℕ m.block) (largest ms)

-- a body of one of the modules, which may run the others less deep
pub record IsBelow (l : Level) (b : Body) : Type 0 where
  pub modules : modules_in b.level ≡ modules_in l
  pub deep : b.level.deep < l.deep
  pub size : size-BlockNode ℕ b.block.now ≤ largest (modules_in l)
