use Rattle.std.proofs.Common.{ap, ◌∙◌, arith}
use Rattle.host_expr.specs.Environment.{env_of, put}
use Rattle.nested_reaction.proofs.Environments.{put_is_set}
use Rattle.nested_reaction.proofs.environment.with.Goals as goal

pub returns-clause-env : goal.returns-clause-env
returns-clause-env c =
    put_is_set c.lengthen.new.signals.items c.args.signal c.args.cell (omega (arith, c.in_ok-lengthen.ensures.count))
    ∙ ap (λ E. put E c.args.signal c.args.cell)
    (c.in_ok-lengthen.ensures.env ∙ ap env_of c.in_ok-signals.ensures ∙ ap env_of c.deref.ensures.value)
