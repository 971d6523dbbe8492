use Rattle.link_faults.proofs.EarlierLaws.{first_by_step}
use Rattle.link_verdict.specs.Declarations.{wrong_declared}
use Rattle.link_verdict.proofs.modules.wrong_in_interface.Goals as goal

pub interface-preserved : goal.interface-preserved
interface-preserved c = first_by_step wrong_declared c.args.interface.now c.interface.node-index
    c.node-item.result c.interface.first c.earlier-first.result c.wrong_signal.result c.interface-test.true
    c.node-item.is c.interface.invariant c.wrong_signal.ensures c.earlier-first.ensures
