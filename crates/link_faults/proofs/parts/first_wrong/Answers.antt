use Rattle.module_tree.specs.declared.source.SignalNode.{SignalNode}
use Rattle.link_faults.specs.declared.fault.LinkKind.TheVariants as fault
use Rattle.link_faults.specs.Earliest.{first_at}
use Rattle.link_faults.specs.Rows.{wrong_signal}
use Rattle.link_faults.proofs.EarlierLaws.{first_by_step}
use Rattle.link_faults.proofs.parts.first_wrong.Goals as goal

pub signals-preserved : goal.signals-preserved
signals-preserved c =
    first_by_step (λ (s : SignalNode). first_at fault.KindWrong (wrong_signal s)) c.args.signals.now
    c.signals.signal-index c.signal-item.result c.signals.first c.earlier-first.result c.wrong_signal.result
    c.signals-test.true c.signal-item.is c.signals.invariant c.wrong_signal.ensures c.earlier-first.ensures
