use Rattle.std.proofs.Common.{◌+◌, drop}
use Rattle.reaction_run.specs.declared.apart.TheConstants.{BLOCK}
use Rattle.reaction_run.proofs.Pairs.{Decides}
use Rattle.reaction_run.proofs.apart.differ_within.Given as goal

abbrev pub invariant-loop-input : goal.invariant-loop-input
invariant-loop-input l = Decides l.from (l.from + BLOCK) BLOCK l.seen (drop l.input-index l.inputs) l.inputs
