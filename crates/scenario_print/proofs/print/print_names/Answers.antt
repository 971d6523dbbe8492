use Rattle.scenario_print.specs.Print.{spaced}
use Rattle.scenario_print.proofs.Growing.{grown}
use Rattle.scenario_print.proofs.print.print_names.Goals as goal

pub loop-name-preserved : goal.loop-name-preserved
loop-name-preserved c =
    grown spaced c.args.names.now c.loop-name.name-index c.name-item.result c.args.out.now.items
    c.loop-name.out.items c.print_name.new.out.items
    c.loop-name-test.true c.name-item.is c.loop-name.invariant c.in_ok-print_name.ensures
