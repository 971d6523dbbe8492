use Rattle.std.proofs.Common.{sym, ◌∙◌, ◌++◌, arith}
use Rattle.statement_build.proofs.Declaring.{bodies_more}
use Rattle.statement_build.proofs.declarations.bodies.Goals as goal

pub loop-part-preserved : goal.loop-part-preserved
loop-part-preserved c =
    c.in_ok-push_some.ensures
    ∙ (λ i. c.loop-part.invariant i ++ c.in_ok-body.ensures i)
    ∙ sym (bodies_more c.args.parts.now c.loop-part.part-index c.part-item.result (omega arith) c.part-item.is)
