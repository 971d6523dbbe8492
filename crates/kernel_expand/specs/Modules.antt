-- A run is the body of the module that is run, with its signals replaced. What a module means, over the
-- modules of a text; the number bounds how deep modules run one another, and no more than all of them do
-- where none reaches itself. (This project's own.)
use Rattle.std.specs.Prelude.{ℕ, zero, suc, Option, Some, None, List, slice_get}
use Rattle.module_tree.specs.declared.source.ModuleNode.{ModuleNode}
use Rattle.kernel_expand.specs.Interpretation.{Kernel, of_block}

-- the kernel's operations at each position, given what the body of each module means
abbrev pub Language : Type 0 → Type 0
Language X = (ℕ → X) → Kernel X

abbrev pub body_means : {X : Type 0} → Kernel X → X → Option (ModuleNode ℕ) → X
body_means k none None = none
body_means k none (Some m) = of_block k m.block

unfoldable pub of_module : {X : Type 0} → Language X → X → List (ModuleNode ℕ) → ℕ → ℕ → X
of_module k none modules zero m = none
of_module k none modules (suc deep) m = body_means (k (of_module k none modules deep)) none
    (slice_get modules m)
