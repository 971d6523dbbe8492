use Rattle.std.proofs.Common.{ap, ◌∙◌}
use Rattle.module_tree.specs.declared.source.Delay.TheVariants as delay
use Rattle.kernel_expand.specs.Interpretation as tree
use Rattle.kernel_expand.specs.Numbering.{numbering}
use Rattle.statement_build.specs.Building.{numbered_of, around_of}
use Rattle.statement_build.proofs.builder.Builder.abort_later.Goals as goal

pub returns-in_ok-abort_once-in-Once : goal.returns-in_ok-abort_once-in-Once
returns-in_ok-abort_once-in-Once c = λ f p.
    ap (λ d. tree.abort (numbering f c.args.at.pos) (delay.Later d) p (around_of c.args.around.now)
    (numbered_of c.args.self.now)) c.in-Once.is
    ∙ c.in_ok-abort_once-in-Once.ensures f p

pub returns-in_ok-abort_count-in-Count : goal.returns-in_ok-abort_count-in-Count
returns-in_ok-abort_count-in-Count c = λ f p.
    ap (λ d. tree.abort (numbering f c.args.at.pos) (delay.Later d) p (around_of c.args.around.now)
    (numbered_of c.args.self.now)) c.in-Count.is
    ∙ c.in_ok-abort_count-in-Count.ensures f p
