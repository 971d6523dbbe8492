use Rattle.net_text.specs.Lines.{body_line}
use Rattle.net_text.proofs.Growing.{grown}
use Rattle.net_text.proofs.write.write_each_body.Goals as goal

pub loop-body-preserved : goal.loop-body-preserved
loop-body-preserved c =
    grown body_line c.args.bodies.now c.loop-body.body-index c.body-item.result c.args.out.now.items
    c.loop-body.out.items c.write_body.new.out.items c.loop-body-test.true c.body-item.is
    c.loop-body.invariant c.in_ok-write_body.ensures
