use Rattle.std.proofs.Common.{sym, ap, ◌∙◌}
use Rattle.module_tree.specs.declared.source.Statement.TheVariants as v
use Rattle.statement_build.proofs.Folded.{branch_is}
use Rattle.statement_build.proofs.innermost.within.Goals as goal

pub returns-in-Fork-clause-means : goal.returns-in-Fork-clause-means
returns-in-Fork-clause-means c = λ k pos.
    branch_is k pos c.args.what.now c.as_slice.result.now c.branch-as_slice.result
    (c.in-Fork.is ∙ ap v.Fork (sym c.as_slice.ensures)) c.branch-as_slice.ensures
