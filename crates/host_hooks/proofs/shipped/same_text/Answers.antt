use Rattle.host_hooks.proofs.Sameness.{same_allowed}
use Rattle.host_hooks.proofs.shipped.same_text.Goals as goal

pub returns : goal.returns
returns c = λ law is. same_allowed law is c.args.args.now c.same_value.result c.index-args-0.result
    c.index-args-1.result _ _ c.requires c.index-args-0.is c.index-args-1.is c.same_value.ensures
