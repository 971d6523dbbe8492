use Rattle.std.proofs.Common.{◌≢◌, ◌∙◌, subst}
use Rattle.hh_term.specs.Pairs.{EachPair}
use Rattle.random_tests.proofs.standing.ids_differ.Goals as goal

pub returns : goal.returns
returns c = λ t. subst (EachPair (λ i j. i ≢ j)) (c.deref.ensures.value ∙ c.in_ok-ids.ensures) (c.all_differ.ensures t)
