use Rattle.net_text.specs.Lines.{emit_line}
use Rattle.net_text.proofs.Growing.{grown}
use Rattle.net_text.proofs.write.write_each_emit.Goals as goal

pub loop-emit-preserved : goal.loop-emit-preserved
loop-emit-preserved c =
    grown (emit_line 2) c.args.emits.now c.loop-emit.emit-index c.emit-item.result c.args.out.now.items
    c.loop-emit.out.items c.write_emit.new.out.items c.loop-emit-test.true c.emit-item.is
    c.loop-emit.invariant c.in_ok-write_emit.ensures
