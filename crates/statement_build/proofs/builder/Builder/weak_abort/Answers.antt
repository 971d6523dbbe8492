use Rattle.statement_build.specs.Building.{numbered_of, around_of}
use Rattle.statement_build.proofs.Opening.{weak_abort_wraps}
use Rattle.statement_build.proofs.builder.Builder.weak_abort.Goals as goal

pub returns : goal.returns
returns c = λ f p. weak_abort_wraps f c.args.at.pos (numbered_of c.args.self.now)
    (around_of c.args.around.now) c.in_ok-inner.inner p c.args.delay c.in_ok-inner.ensures
