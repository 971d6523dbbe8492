use Rattle.std.proofs.Common.{length}
use Rattle.random_tests.proofs.standing.+none_twice.Given as goal

abbrev pub decreases-none_twice : goal.decreases-none_twice
decreases-none_twice l = length l.inputs.now
