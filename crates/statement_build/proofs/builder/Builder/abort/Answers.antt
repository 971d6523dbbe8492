use Rattle.std.proofs.Common.{ap, ◌∙◌}
use Rattle.kernel_expand.specs.Interpretation as tree
use Rattle.kernel_expand.specs.Numbering.{numbering}
use Rattle.statement_build.specs.Building.{numbered_of, around_of}
use Rattle.statement_build.proofs.builder.Builder.abort.Goals as goal

pub returns-in_ok-abort_now-in-Immediate : goal.returns-in_ok-abort_now-in-Immediate
returns-in_ok-abort_now-in-Immediate c = λ f p.
    ap (λ d. tree.abort (numbering f c.args.at.pos) d p (around_of c.args.around.now)
    (numbered_of c.args.self.now)) c.in-Immediate.is
    ∙ c.in_ok-abort_now-in-Immediate.ensures f p
