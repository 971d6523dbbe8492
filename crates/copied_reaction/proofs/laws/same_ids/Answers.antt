use Rattle.copied_reaction.proofs.Whole.{gives_the_same_ids}
use Rattle.copied_reaction.proofs.laws.same_ids.Goals as goal

pub returns : goal.returns
returns c = λ K r c d h before many inputs last. gives_the_same_ids K r c d h before many inputs last
