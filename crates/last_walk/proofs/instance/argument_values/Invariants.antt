use Rattle.std.proofs.Common.{◌≡◌, ◌++◌, map, zip}
use Rattle.hh_term.specs.Step.{argument_value}
use Rattle.last_walk.proofs.instance.argument_values.Given as goal

abbrev pub invariant-loop-kind : goal.invariant-loop-kind
invariant-loop-kind l = l.values.items ++ map argument_value (zip l.kind-iterator.a.rest.now l.kind-iterator.b.rest.now) ≡ map
    argument_value (zip l.params l.cells)
