use Rattle.std.proofs.Common.{sym, ◌∙◌}
use Rattle.statement_build.proofs.Folded.{only_is, sole}
use Rattle.statement_build.proofs.innermost.only.Goals as goal

pub returns-in-len1-clause-means : goal.returns-in-len1-clause-means
returns-in-len1-clause-means c = λ k. only_is k c.args.block.now c.node-item.result
    (sym c.as_slice.ensures ∙ sole c.as_slice.result.now c.node-item.result c.in-len1.len_at_least
    c.in-len1.len_below c.node-item.is)
