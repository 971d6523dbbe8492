use Rattle.std.proofs.Common.{map, take_all, ap, ◌∙◌, arith}
use Rattle.module_tree.specs.declared.source.ParameterNode.{ParameterNode}
use Rattle.statement_build.proofs.declarations.kinds.Goals as goal

pub returns : goal.returns
returns c = c.from_vec.ensures ∙ c.loop-parameter.invariant
    ∙ ap (map (λ (p : ParameterNode). p.kind))
    (take_all c.loop-parameter.parameter-index c.args.parameters.now (omega arith))
