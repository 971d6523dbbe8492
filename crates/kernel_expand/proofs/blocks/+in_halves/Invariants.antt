use Rattle.std.proofs.Common.{length}
use Rattle.kernel_expand.proofs.blocks.+in_halves.Given as goal

abbrev pub decreases-in_halves : goal.decreases-in_halves
decreases-in_halves l = length l.parts.now
