use Rattle.std.proofs.Common.{refl, ap}
use Rattle.kernel_expand.specs.declared.sizes.Sizes.{Sizes}
use Rattle.kernel_expand.specs.Measures.{leaf}
use Rattle.kernel_expand.proofs.SameSizes.{same_sizes}
use Rattle.kernel_expand.proofs.sizes.Sizes.site.Goals as goal

pub returns : goal.returns
unfolding leaf
returns c = same_sizes (ap (λ (s : Sizes). s.size) c.leaf.ensures)
    (ap (λ (s : Sizes). s.copied) c.leaf.ensures) (ap (λ (s : Sizes). s.height) c.leaf.ensures)
    (ap (λ (s : Sizes). s.traps) c.leaf.ensures) refl
