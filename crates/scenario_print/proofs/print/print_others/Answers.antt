use Rattle.scenario_print.specs.Print.{argument_behind}
use Rattle.scenario_print.proofs.Growing.{grown}
use Rattle.scenario_print.proofs.print.print_others.Goals as goal

pub loop-value-preserved : goal.loop-value-preserved
loop-value-preserved c =
    grown argument_behind c.args.values.now c.loop-value.value-index c.value-item.result c.args.out.now.items
    c.loop-value.out.items c.print_other.new.out.items
    c.loop-value-test.true c.value-item.is c.loop-value.invariant c.in_ok-print_other.ensures
