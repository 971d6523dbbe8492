use Rattle.std.proofs.Common.{None}
use Rattle.nested_reaction.proofs.Environments.{no_flag}
use Rattle.nested_reaction.proofs.interface.nothing_done.Goals as goal

pub returns : goal.returns
returns c = λ i. record { must = c.new.ensures.items i; code = None; can = c.new-2.ensures.items i; codes = λ x. no_flag 258 x i }
