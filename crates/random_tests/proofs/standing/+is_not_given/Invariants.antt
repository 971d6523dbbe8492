use Rattle.std.proofs.Common.{length}
use Rattle.random_tests.proofs.standing.+is_not_given.Given as goal

abbrev pub decreases-is_not_given : goal.decreases-is_not_given
decreases-is_not_given l = length l.others.now
