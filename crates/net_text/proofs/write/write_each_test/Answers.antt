use Rattle.net_text.specs.Lines.{test_line}
use Rattle.net_text.proofs.Growing.{grown}
use Rattle.net_text.proofs.write.write_each_test.Goals as goal

pub loop-test-preserved : goal.loop-test-preserved
loop-test-preserved c =
    grown (test_line 2) c.args.tests.now c.loop-test.test-index c.test-item.result c.args.out.now.items
    c.loop-test.out.items c.write_test.new.out.items c.loop-test-test.true c.test-item.is
    c.loop-test.invariant c.in_ok-write_test.ensures
