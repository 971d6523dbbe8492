use Rattle.std.proofs.Common.{◌∙◌, sym}
use Rattle.hiphop_main.proofs.LineLaws.{first_line_is, after_mark_here, parted_on}
use Rattle.hiphop_main.proofs.split.split.Goals as goal

pub returns-then-is_mark-clause-scenario : goal.returns-then-is_mark-clause-scenario
returns-then-is_mark-clause-scenario c =
    let e = first_line_is c.loop-rest.rest.now c.split_at.result.0.now c.split_at.result.1.now c.line_len.result c.line_len.ensures.line c.split_at.ensures.front c.split_at.ensures.back in
    sym (c.loop-rest.invariant.behind ∙ after_mark_here _ _ _ e (sym c.is_mark.ensures ∙ c.if-is_mark.true))

pub loop-rest-preserved : goal.loop-rest-preserved
loop-rest-preserved c =
    parted_on _ _ _ _ _ _ c.loop-rest.invariant c.line_len.ensures.within c.line_len.ensures.line c.split_at.ensures.front c.split_at.ensures.back (sym c.is_mark.ensures ∙ c.if-is_mark.false)
