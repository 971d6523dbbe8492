use Rattle.std.proofs.Common.{ap, ◌∙◌, ◌∷◌, ◌++◌, ◌+◌, length, [], length-append}
use Rattle.host_expr.specs.Environment.{env_of}
use Rattle.nested_reaction.proofs.Environments.{one_blank}
use Rattle.nested_reaction.proofs.environment.lengthen.Goals as goal

pub loop-signal-preserved : goal.loop-signal-preserved
loop-signal-preserved c =
    let cells = c.loop-signal.signals.items in (
      ap env_of c.in_ok-push.ensures.items ∙ ap (λ x. env_of (cells ++ x ∷ [])) c.unsolved.ensures ∙ one_blank cells
          ∙ c.loop-signal.invariant.0,
      ap length c.in_ok-push.ensures.items ∙ length-append cells (c.unsolved.result ∷ []) ∙ ap (λ n. n + 1) c.loop-signal.invariant.1,
    )
