use Rattle.std.proofs.Common.{◌≡◌, ◌++◌, take}
use Rattle.std.specs.List.{flat_map}
use Rattle.scenario_print.specs.Print.{argument_behind}
use Rattle.scenario_print.proofs.print.print_others.Given as goal

abbrev pub invariant-loop-value : goal.invariant-loop-value
invariant-loop-value l = l.out.items ≡ l.fn.out.items ++ flat_map argument_behind (take l.value-index
    l.fn.values)
