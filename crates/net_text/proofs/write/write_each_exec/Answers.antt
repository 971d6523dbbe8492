use Rattle.net_text.specs.Lines.{exec_line}
use Rattle.net_text.proofs.Growing.{grown}
use Rattle.net_text.proofs.write.write_each_exec.Goals as goal

pub loop-exec-preserved : goal.loop-exec-preserved
loop-exec-preserved c =
    grown (exec_line 2) c.args.execs.now c.loop-exec.exec-index c.exec-item.result c.args.out.now.items
    c.loop-exec.out.items c.write_exec.new.out.items c.loop-exec-test.true c.exec-item.is
    c.loop-exec.invariant c.in_ok-write_exec.ensures
