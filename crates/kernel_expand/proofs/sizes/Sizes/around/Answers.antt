use Rattle.std.proofs.Common.{arith}
use Rattle.kernel_expand.specs.Measures.{around}
use Rattle.kernel_expand.proofs.SameSizes.{same_sizes}
use Rattle.kernel_expand.proofs.sizes.Sizes.around.Goals as goal

pub returns : goal.returns
unfolding around
returns c = same_sizes (omega arith) (omega arith) (omega arith) (omega arith) (omega arith)
