use Rattle.std.proofs.Common.{subst, [], ◌∷◌}
use Rattle.host_expr.specs.declared.cell.Cell.TheVariants as cell
use Rattle.last_walk.specs.LastWalk.{Noted}
use Rattle.sync_step.proofs.OneByOne.{all_given, one_given}
use Rattle.sync_step.proofs.giving.give.Goals as goal

pub loop-input-preserved : goal.loop-input-preserved
loop-input-preserved c T =
    one_given T c.args.inputs.now c.loop-input.input-index c.input-item.result c.args.pass.now c.loop-input.pass
    c.emit.new.self c.loop-input-test.true c.input-item.is (c.loop-input.invariant T)
    (subst (λ v. Noted T ((c.input-item.result.0, cell.Known v) ∷ []) [] [] [] c.loop-input.pass c.emit.new.self)
    c.in_ok-copy.ensures (c.in_ok-emit.ensures T))

pub returns : goal.returns
returns c T =
    all_given T c.args.inputs.now c.loop-input.input-index c.args.pass.now c.loop-input.pass c.loop-input-test.false
    (c.loop-input.invariant T)
