use Rattle.std.proofs.Common.{◌+◌, ◌*◌, length}
use Rattle.nested_reaction.proofs.interface.+nest.Given as goal

abbrev pub decreases-nest : goal.decreases-nest
decreases-nest l = 3 * length l.lasts.now

abbrev pub decreases-interface_round : goal.decreases-interface_round
decreases-interface_round l = 3 * length l.rest.now + 1

abbrev pub decreases-solved_cell : goal.decreases-solved_cell
decreases-solved_cell l = 3 * length l.rest.now + 2
