use Rattle.copied_reaction.proofs.Whole.{reacts_the_same, starts_the_same}
use Rattle.copied_reaction.proofs.laws.same_reaction.Goals as goal

pub returns-clause-reacts : goal.returns-clause-reacts
returns-clause-reacts c = λ K r c d h before many inputs last. reacts_the_same K r c d h before many inputs last

pub returns-clause-starts : goal.returns-clause-starts
returns-clause-starts c = λ K r inputs last. starts_the_same K r inputs last
