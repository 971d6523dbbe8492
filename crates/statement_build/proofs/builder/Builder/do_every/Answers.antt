use Rattle.std.proofs.Common.{sym, ap, ◌∙◌}
use Rattle.statement_build.specs.Building.{numbered_of, around_of}
use Rattle.statement_build.specs.Shapes.{wrapped}
use Rattle.statement_build.proofs.Opening.{do_every_wraps}
use Rattle.statement_build.proofs.builder.Builder.do_every.Goals as goal

pub returns : goal.returns
returns c = λ f p.
    let pos = c.args.at.pos in
    let m = numbered_of c.abort_later.new.self in
    do_every_wraps f pos c.args.later.now c.in_ok-inner.inner p (around_of c.args.around.now)
    (numbered_of c.args.self.now) m (λ q. c.in_ok-inner.ensures f q)
    ∙ ap (λ w. wrapped pos w p m) (sym c.renewed.ensures)
