use Rattle.link_faults.specs.Meanings.{kind_of_signal, kind_of_parameter}
use Rattle.link_faults.specs.RunFaults.{first_arguments}
use Rattle.link_faults.proofs.RunLaws.{arguments_step}
use Rattle.link_faults.proofs.runs.first_arguments.Goals as goal

pub each-preserved : goal.each-preserved
each-preserved c =
    let signals = kind_of_signal c.args.names.now in
    let args = kind_of_parameter c.args.names.now in
    let found = c.first_argument-found.result in
    arguments_step signals args c.each.left.now found.1.now c.args.args.now c.each.arg-index c.arg-item.result
    (first_arguments signals args c.args.kinds.now c.args.args.now) c.each.first found.0
    c.earlier-first.result c.each-test.true c.arg-item.is c.each.invariant c.first_argument-found.ensures
    c.earlier-first.ensures
