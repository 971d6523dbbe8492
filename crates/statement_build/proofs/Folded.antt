-- What a block, a statement of a block and the statement of its position mean, one layer deep.
use Rattle.std.proofs.Common.{◌≡◌, ℕ, ◌<◌, ◌≤◌, Option, Some, None, List, [], ◌∷◌, length, map, get_or, refl, sym, ap, ◌∙◌, arith, Bor}
use Rattle.std.specs.Prelude.{IfSome}
use Rattle.hh_base.specs.declared.value.Pos.{Pos}
use Rattle.module_tree.specs.declared.source.BlockNode.{BlockNode, out-BlockNode, roll-out-BlockNode}
use Rattle.module_tree.specs.declared.source.StatementNode.{StatementNode, out-StatementNode, roll-out-StatementNode}
use Rattle.module_tree.specs.declared.source.Statement.{Statement}
use Rattle.module_tree.specs.declared.source.Statement.TheVariants as v
use Rattle.module_tree.specs.declared.source.Statement.TheOpen as s
use Rattle.module_tree.specs.declared.source.Statement.TheFolds.{fold-roll-BlockNode, fold-roll-Statement, fold-roll-StatementNode}
use Rattle.kernel_expand.specs.Halves.{halved}
use Rattle.kernel_expand.specs.Interpretation as tree
use Rattle.kernel_expand.specs.Interpretation.{Kernel, of_block, of_node, of_statement}
use Rattle.kernel_expand.specs.Operations.{Operations}
use Rattle.kernel_expand.specs.Rows as row

pub one_listed : {X : Type 0} (k : Operations X) (x : X) → row.listed k (x ∷ []) ≡ x
unfolding halved
one_listed k x = refl

pub one_forked : {X : Type 0} (k : Operations X) (x : X) → row.forked k (x ∷ []) ≡ x
unfolding halved
one_forked k x = refl

pub block_is : {X : Type 0} (k : Kernel X) (b : BlockNode ℕ) → of_block k b
    ≡ row.listed (k (out-BlockNode ℕ b).pos) (map (of_node k) (out-BlockNode ℕ b).statements)
block_is {X} k b =
    ap (of_block k) (sym (roll-out-BlockNode ℕ b))
    ∙ fold-roll-BlockNode ℕ (Pos → X) X X (tree.statement_step k) (tree.block_step k) tree.node_step
    (out-BlockNode ℕ b)

-- a block of one statement is that
pub only_is : {X : Type 0} (k : Kernel X) (b : BlockNode ℕ) (n : StatementNode ℕ) → (out-BlockNode ℕ b).statements ≡ n ∷ []
    → of_block k b ≡ of_node k n
only_is k b n e =
    let pos = (out-BlockNode ℕ b).pos in
    block_is k b ∙ ap (λ ns. row.listed (k pos) (map (of_node k) ns)) e ∙ one_listed (k pos) (of_node k n)

pub fork_is : {X : Type 0} (k : Kernel X) (bs : List (BlockNode ℕ)) (pos : Pos) → of_statement k (v.Fork bs) pos
    ≡ row.forked (k pos) (map (of_block k) bs)
fork_is {X} k bs pos = ap (λ w. of_statement k w pos) (sym (v.rolls-Fork bs))
    ∙ (λ i. fold-roll-Statement ℕ (Pos → X) X X (tree.statement_step k) (tree.block_step k) tree.node_step
    (s.Fork bs) i pos)

-- a fork of one branch is that
pub branch_is : {X : Type 0} (k : Kernel X) (pos : Pos) (what : Statement ℕ) (bs : List (BlockNode ℕ))
    (r : Option (Bor (BlockNode ℕ))) → what ≡ v.Fork bs → IfSome r (λ b. bs ≡ b.now ∷ [])
    → IfSome r (λ b. of_statement k what pos ≡ of_block k b.now)
branch_is k pos what bs None e is = tt
branch_is k pos what bs (Some b) e is = ap (λ w. of_statement k w pos) e ∙ fork_is k bs pos
    ∙ ap (λ zs. row.forked (k pos) (map (of_block k) zs)) is ∙ one_forked (k pos) (of_block k b.now)

pub node_is : {X : Type 0} (k : Kernel X) (n : StatementNode ℕ) → of_node k n ≡ of_statement k (out-StatementNode ℕ n).what (out-StatementNode ℕ n).pos
node_is {X} k n =
    ap (of_node k) (sym (roll-out-StatementNode ℕ n))
    ∙ fold-roll-StatementNode ℕ (Pos → X) X X (tree.statement_step k) (tree.block_step k) tree.node_step
    (out-StatementNode ℕ n)

pub sole : {A : Type 0} (xs : List A) (x : A) → 1 ≤ length xs → length xs < 2 → x ≡ get_or xs 0 x → xs ≡ x ∷ []
sole [] x one two e = absurd (let no : ⊥ = omega arith in no)
sole (y ∷ []) x one two e = ap (λ z. z ∷ []) (sym e)
sole (y ∷ z ∷ zs) x one two e = absurd (let no : ⊥ = omega arith in no)
