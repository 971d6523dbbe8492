use Rattle.std.proofs.Common.{ap, ◌∙◌, ◌+◌, length, length-append}
use Rattle.host_expr.specs.Environment.{env_of}
use Rattle.std.proofs.Common.{◌∷◌, ◌++◌, []}
use Rattle.status_rounds.proofs.Beginning.{one_blank}
use Rattle.status_rounds.proofs.opening.opened.Goals as goal

pub loop-signal-preserved : goal.loop-signal-preserved
loop-signal-preserved c =
    let cells = c.loop-signal.cells.items in
    record {
      env = ap env_of c.in_ok-push.ensures.items ∙ ap (λ x. env_of (cells ++ x ∷ [])) c.unsolved.ensures ∙
          one_blank
          cells ∙ c.loop-signal.invariant.env;
      len = ap length c.in_ok-push.ensures.items ∙ length-append cells (c.unsolved.result ∷ []) ∙ ap
          (λ n. n + 1)
          c.loop-signal.invariant.len;
    }
