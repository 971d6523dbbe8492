use Rattle.std.proofs.Common.{◌≡◌, ◌++◌, take}
use Rattle.std.specs.List.{flat_map}
use Rattle.scenario_print.specs.Print.{effect_line}
use Rattle.scenario_print.proofs.print.print_effects.Given as goal

abbrev pub invariant-loop-effect : goal.invariant-loop-effect
invariant-loop-effect l = l.out.items ≡ l.fn.out.items ++ flat_map (effect_line l.bodies) (take
    l.effect-index l.fn.effects)
