use Rattle.std.proofs.Common.{sym, ap, ◌∙◌}
use Rattle.kernel_expand.specs.Interpretation as tree
use Rattle.kernel_expand.specs.Numbering.{numbering}
use Rattle.statement_build.specs.Building.{numbered_of, around_of}
use Rattle.statement_build.specs.Forms.{awaited}
use Rattle.statement_build.specs.Shapes.{wrapped}
use Rattle.statement_build.proofs.Opening.{every_later_wraps, every_now_wraps}
use Rattle.statement_build.proofs.builder.Builder.every.Goals as goal

pub returns-in_ok-inner-in-Later : goal.returns-in_ok-inner-in-Later
returns-in_ok-inner-in-Later c = λ f p.
    let pos = c.args.at.pos in
    let a = around_of c.args.around.now in
    let n = numbered_of c.args.self.now in
    let m = numbered_of c.abort_later.new.self in
    ap (λ d. tree.every (numbering f pos) d p a n) c.in-Later.is
    ∙ every_later_wraps f pos c.in-Later.later c.in_ok-inner-in-Later.inner c.in_ok-first.first p a n m
    (c.in_ok-first.ensures ∙ ap (λ d. awaited pos d n) c.in-Later.is)
    (λ q. c.in_ok-inner-in-Later.ensures f q)
    ∙ ap (λ w. wrapped pos w p m) (sym c.renewed.ensures)

pub returns-in_ok-inner-in-Immediate : goal.returns-in_ok-inner-in-Immediate
returns-in_ok-inner-in-Immediate c = λ f p.
    let pos = c.args.at.pos in
    let a = around_of c.args.around.now in
    let n = numbered_of c.args.self.now in
    ap (λ d. tree.every (numbering f pos) d p a n) c.in-Immediate.is
    ∙ every_now_wraps f pos c.in-Immediate.test c.in_ok-inner-in-Immediate.inner c.in_ok-first.first p a n n
    (c.in_ok-first.ensures ∙ ap (λ d. awaited pos d n) c.in-Immediate.is)
    (λ q. c.in_ok-inner-in-Immediate.ensures f q)
    ∙ ap (λ w. wrapped pos w p n) (sym c.renewed-in-Immediate.ensures)
