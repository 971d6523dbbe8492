use Rattle.reaction_run.proofs.Stages.{lives, lives_from_begin}
use Rattle.reaction_run.proofs.laws.lives_once.Goals as goal

pub returns-clause-lives : goal.returns-clause-lives
returns-clause-lives g c = λ M S events id rise. lives M id events S rise

pub returns-clause-from_begin : goal.returns-clause-from_begin
returns-clause-from_begin g c = λ M place last events id. lives_from_begin M place last events id
