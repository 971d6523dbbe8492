-- The bodies of modules, and runs that are all of a body.
use Rattle.std.proofs.Common.{◌≡◌, ℕ, zero, suc, ◌≤◌, Option, Some, None, List, [], ◌∷◌, refl, ap}
use Rattle.std.proofs.Common.{subst, ◌∙◌, arith, Bor}
use Rattle.std.specs.Prelude.{slice_get, IfSome}
use Rattle.module_tree.specs.declared.source.BlockNode.{BlockNode, size-BlockNode}
use Rattle.module_tree.specs.declared.source.ModuleNode.{ModuleNode}
use Rattle.kernel_expand.specs.Interpretation.{of_block}
use Rattle.kernel_expand.specs.Modules.{body_means, of_module}
use Rattle.kernel_expand.specs.Expansion.{no_module}
use Rattle.kernel_expand.specs.Numbering.{Piece, numbering}
use Rattle.statement_build.specs.declared.chain.Body.{Body}
use Rattle.statement_build.specs.declared.chain.Level.{Level}
use Rattle.statement_build.specs.Levels.{largest, IsBelow}

module _ (modules : List (ModuleNode ℕ)) (m : ℕ) where
  abbrev runs : ℕ → ℕ → Piece
  runs deep = of_module numbering no_module modules deep

  pub not_deep : (deep : ℕ) → deep ≡ 0 → of_module numbering no_module modules deep m ≡ no_module
  unfolding of_module
  not_deep deep e = ap (λ d. runs d m) e

  pub not_there : (deep : ℕ) → slice_get modules m ≡ None
      → of_module numbering no_module modules deep m ≡ no_module
  unfolding of_module
  not_there zero e = refl
  not_there (suc deep) e = ap (body_means (numbering (runs deep)) no_module) e

  one_deeper : (d : ℕ) (x : ModuleNode ℕ) → slice_get modules m ≡ Some x
      → of_module numbering no_module modules (suc d) m ≡ of_block (numbering (runs d)) x.block
  unfolding of_module
  one_deeper d x e = ap (body_means (numbering (runs d)) no_module) e

  pub there : (deep d : ℕ) (x : ModuleNode ℕ) → deep ≡ suc d → slice_get modules m ≡ Some x
      → of_module numbering no_module modules deep m
      ≡ of_block (numbering (of_module numbering no_module modules d)) x.block
  there deep d x e is = ap (λ z. runs z m) e ∙ one_deeper d x is

abbrev depth_at : Option (ModuleNode ℕ) → ℕ
depth_at None = 0
depth_at (Some m) = size-BlockNode ℕ m.block

-- no module is deeper than the deepest
pub at_most : (ms : List (ModuleNode ℕ)) (i : ℕ) (x : ModuleNode ℕ) → slice_get ms i ≡ Some x
    → size-BlockNode ℕ x.block ≤ largest ms
at_most [] i x e = let same : 0 ≡ size-BlockNode ℕ x.block = ap depth_at e in omega (arith, same)
at_most (m ∷ ms) zero x e =
    let same : size-BlockNode ℕ m.block ≡ size-BlockNode ℕ x.block = ap depth_at e in
    omega (arith, same)
at_most (m ∷ ms) (suc i) x e = omega (arith, at_most ms i x e)

below_too : (l k : Level) (block : Bor (BlockNode ℕ)) (b : Option Body)
    → IsBelow l (record { level = k; block = block }) → IfSome b (IsBelow k) → IfSome b (IsBelow l)
below_too l k block None h g = tt
below_too l k block (Some b) h g =
    let deepest = ap largest h.modules in
    record {
      modules = g.modules ∙ h.modules;
      deep = omega (arith, g.deep, h.deep);
      size = omega (arith, g.size, deepest);
    }

-- what is below a level that is below another is below that
pub below_again : (l k : Level) (whole b : Option Body)
    → ((block : Bor (BlockNode ℕ)) × (whole ≡ Some (record { level = k; block = block })))
    → IfSome whole (IsBelow l) → IfSome b (IsBelow k) → IfSome b (IsBelow l)
below_again l k whole b is h g = below_too l k is.0 b (subst (λ z. IfSome z (IsBelow l)) is.1 h) g
