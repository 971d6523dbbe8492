-- Each branch of a fork is less deep than the fork.
use Rattle.std.proofs.Common.{◌≡◌, ℕ, zero, suc, ◌<◌, ◌≤◌, List, [], ◌∷◌, length, get_or, ap, arith}
use Rattle.module_tree.specs.declared.source.BlockNode.{BlockNode, size-BlockNode}
use Rattle.module_tree.specs.declared.source.Statement.{size-Statement}
use Rattle.module_tree.specs.declared.source.Statement.TheVariants as v

module _ (first : (b : BlockNode ℕ) (bs : List (BlockNode ℕ)) → size-BlockNode ℕ b < size-Statement ℕ (v.Fork (b ∷ bs)))
    (rest : (b : BlockNode ℕ) (bs : List (BlockNode ℕ)) → size-Statement ℕ (v.Fork bs) ≤ size-Statement ℕ (v.Fork (b ∷ bs))) where
  pub branch_is_less : (bs : List (BlockNode ℕ)) (i : ℕ) (b : BlockNode ℕ) → i < length bs → b ≡ get_or bs i b
      → size-BlockNode ℕ b < size-Statement ℕ (v.Fork bs)
  branch_is_less [] i b lt at = absurd (let no : ⊥ = omega arith in no)
  branch_is_less (c ∷ bs) zero b lt at =
      let same : size-BlockNode ℕ b ≡ size-BlockNode ℕ c = ap (size-BlockNode ℕ) at in
      omega (arith, first c bs, same)
  branch_is_less (c ∷ bs) (suc i) b lt at =
      omega (arith, branch_is_less bs i b (omega arith) at, rest c bs)
