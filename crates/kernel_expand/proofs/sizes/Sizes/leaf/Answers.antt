use Rattle.std.proofs.Common.{arith}
use Rattle.kernel_expand.specs.Measures.{leaf}
use Rattle.kernel_expand.proofs.SameSizes.{same_sizes}
use Rattle.kernel_expand.proofs.sizes.Sizes.leaf.Goals as goal

pub returns : goal.returns
unfolding leaf
returns c = same_sizes (omega arith) (omega arith) (omega arith) (omega arith) (omega arith)
