use Rattle.std.proofs.Common.{arith}
use Rattle.kernel_expand.specs.Measures.{trapped}
use Rattle.kernel_expand.proofs.SameSizes.{same_sizes}
use Rattle.kernel_expand.proofs.sizes.Sizes.trapped.Goals as goal

pub returns : goal.returns
unfolding trapped
returns c = same_sizes (omega arith) (omega arith) (omega arith) (omega arith) (omega arith)
