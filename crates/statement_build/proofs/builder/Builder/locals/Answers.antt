use Rattle.statement_build.specs.Building.{numbered_of, around_of}
use Rattle.statement_build.proofs.Opening.{locals_wraps}
use Rattle.statement_build.proofs.builder.Builder.locals.Goals as goal

pub returns : goal.returns
returns c = λ f p. locals_wraps f c.args.at.pos (numbered_of c.args.self.now) (around_of c.args.around.now)
    c.in_ok-copy.field-0 p c.args.signals.now c.in_ok-numbers.numbers (numbered_of c.declare_all.new.self)
    c.in_ok-copy.ensures c.in_ok-numbers.ensures.numbers c.in_ok-numbers.ensures.after
