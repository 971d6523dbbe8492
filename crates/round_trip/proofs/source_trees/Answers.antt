use Rattle.round_trip.proofs.Trips.{has_text, is_source_tree}
use Rattle.round_trip.proofs.source_trees.Goals as goal

pub returns-clause-has_text : goal.returns-clause-has_text
returns-clause-has_text c = has_text

pub returns-clause-of_text : goal.returns-clause-of_text
returns-clause-of_text c = is_source_tree
