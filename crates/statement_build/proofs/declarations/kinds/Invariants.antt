use Rattle.std.proofs.Common.{◌≡◌, map, take}
use Rattle.module_tree.specs.declared.source.ParameterNode.{ParameterNode}
use Rattle.statement_build.proofs.declarations.kinds.Given as goal

abbrev pub invariant-loop-parameter : goal.invariant-loop-parameter
invariant-loop-parameter l = l.kinds.items ≡ map (λ (p : ParameterNode). p.kind)
    (take l.parameter-index l.parameters)
