use Rattle.std.proofs.Common.{◌≡◌, ◌++◌, take}
use Rattle.std.specs.List.{flat_map}
use Rattle.scenario_print.specs.Print.{output_text}
use Rattle.scenario_print.proofs.print.print_outputs.Given as goal

abbrev pub invariant-loop-output : goal.invariant-loop-output
invariant-loop-output l = l.out.items ≡ l.fn.out.items ++ flat_map (output_text l.signals) (take
    l.output-index l.fn.outputs)
