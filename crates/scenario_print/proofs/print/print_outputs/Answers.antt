use Rattle.scenario_print.specs.Print.{output_text}
use Rattle.scenario_print.proofs.Growing.{grown}
use Rattle.scenario_print.proofs.print.print_outputs.Goals as goal

pub loop-output-preserved : goal.loop-output-preserved
loop-output-preserved c =
    grown (output_text c.args.signals.now) c.args.outputs.now c.loop-output.output-index c.output-item.result
    c.args.out.now.items c.loop-output.out.items c.print_output.new.out.items
    c.loop-output-test.true c.output-item.is c.loop-output.invariant c.in_ok-print_output.ensures
