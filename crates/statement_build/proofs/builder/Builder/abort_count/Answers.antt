use Rattle.std.proofs.Common.{ap, ◌∙◌}
use Rattle.statement_build.specs.Building.{numbered_of, around_of}
use Rattle.statement_build.proofs.Opening.{abort_count_wraps, with_counter}
use Rattle.statement_build.proofs.builder.Builder.abort_count.Goals as goal

pub returns : goal.returns
returns c = λ f p. abort_count_wraps f c.args.at.pos (numbered_of c.args.self.now)
    (around_of c.args.around.now) c.counted-inner.result p c.args.test c.args.times c.in_ok-counter.counter
    (numbered_of c.declare_counter.new.self)
    (c.counted-inner.ensures ∙ ap (with_counter c.in_ok-counter.counter) c.in_ok-in_trap.ensures)
    c.in_ok-counter.ensures.number c.in_ok-counter.ensures.after
