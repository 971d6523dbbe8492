use Rattle.std.proofs.Common.{length}
use Rattle.statement_build.proofs.around.+traps_between.Given as goal

abbrev pub decreases-traps_between : goal.decreases-traps_between
decreases-traps_between l = length l.traps.now
