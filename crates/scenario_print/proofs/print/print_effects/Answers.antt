use Rattle.scenario_print.specs.Print.{effect_line}
use Rattle.scenario_print.proofs.Growing.{grown}
use Rattle.scenario_print.proofs.print.print_effects.Goals as goal

pub loop-effect-preserved : goal.loop-effect-preserved
loop-effect-preserved c =
    grown (effect_line c.args.bodies.now) c.args.effects.now c.loop-effect.effect-index c.effect-item.result
    c.args.out.now.items c.loop-effect.out.items c.print_effect_line.new.out.items
    c.loop-effect-test.true c.effect-item.is c.loop-effect.invariant c.in_ok-print_effect_line.ensures
