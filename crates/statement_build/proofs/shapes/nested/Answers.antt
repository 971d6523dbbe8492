use Rattle.std.proofs.Common.{sym, ap, ◌∙◌}
use Rattle.hh_term.specs.Placed.{placed_term}
use Rattle.statement_build.specs.Forms.{nested}
use Rattle.statement_build.proofs.Walking.{innermost}
use Rattle.statement_build.proofs.shapes.nested.Goals as goal

pub inward-preserved : goal.inward-preserved
inward-preserved c =
    let at = c.args.at.pos in
    let outer = c.in-Some.outer.now in
    let number = c.in-Some.number.now in
    ap (nested at outer) c.in_ok-whole.ensures
    ∙ sym (innermost at outer number (placed_term c.inward.whole))
    ∙ ap (λ ss. nested at ss (placed_term c.inward.whole)) (sym c.in-Some.ensures.cases.0) ∙ c.inward.invariant
