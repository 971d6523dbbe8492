use Rattle.std.proofs.Common.{◌≡◌, map, take, Bor}
use Rattle.module_tree.specs.declared.source.ParameterNode.{ParameterNode}
use Rattle.link_faults.specs.Named.{Name}
use Rattle.link_resolve.proofs.scopes.parameter_names.Given as goal

abbrev pub invariant-loop-parameter : goal.invariant-loop-parameter
invariant-loop-parameter l = map (λ (n : Bor Name). n.now) l.names.items ≡ map
    (λ (p : ParameterNode). p.name) (take l.parameter-index l.parameters)
