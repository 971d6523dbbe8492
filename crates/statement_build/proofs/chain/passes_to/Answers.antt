use Rattle.std.proofs.Common.{ap, ◌∙◌}
use Rattle.statement_build.specs.Levels.{body_piece}
use Rattle.statement_build.proofs.chain.passes_to.Goals as goal

pub returns-in-Some-only_run-clause-means : goal.returns-in-Some-only_run-clause-means
returns-in-Some-only_run-clause-means c = λ a n pos. ap (λ o. body_piece o a n) c.in-Some.is
    ∙ c.in-Some-only_run.ensures a n pos

pub returns-in-Some-only_run-clause-level : goal.returns-in-Some-only_run-clause-level
returns-in-Some-only_run-clause-level c = (c.in-Some.body.block, c.in-Some.is)
