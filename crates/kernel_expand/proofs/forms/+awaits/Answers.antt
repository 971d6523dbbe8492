use Rattle.std.proofs.Common.{◌/◌, refl, ap, ◌∙◌, arith}
use Rattle.hh_term.specs.Placed.{Seq, Trap}
use Rattle.kernel_expand.specs.Forms.{waits}
use Rattle.kernel_expand.proofs.Lasts.{awaits_none, awaits_one, awaits_more}
use Rattle.kernel_expand.proofs.forms.+awaits.Goals as goal

pub returns-in-0 : goal.returns-in-0
returns-in-0 t c = c.nothing.ensures ∙ awaits_none c.args.at.pos c.args.test.now c.args.times c.in-0.is

pub returns-in_ok-trap-in-1 : goal.returns-in_ok-trap-in-1
returns-in_ok-trap-in-1 t c =
    c.in_ok-trap-in-1.ensures ∙ ap (Trap c.args.at.pos) (c.in_ok-wait-in-1.ensures
    ∙ ap (waits c.args.at.pos) c.in_ok-copy_expr-in-1.ensures)
    ∙ awaits_one c.args.at.pos c.args.test.now c.args.times c.in-1.is

pub returns-in_ok-seq-in_default : goal.returns-in_ok-seq-in_default
returns-in_ok-seq-in_default t c =
    let at = c.args.at.pos in
    let d = c.args.test.now in
    let n = c.args.times in
    c.in_ok-seq-in_default.ensures
    ∙ (λ i. Seq at (c.in_ok-first-in_default.ensures i) (c.in_ok-second-in_default.ensures i))
    ∙ awaits_more at d n (n / 2) (omega arith) refl
