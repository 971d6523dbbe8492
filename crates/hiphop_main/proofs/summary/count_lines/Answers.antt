use Rattle.std.proofs.Common.{◌∙◌, ap, arith}
use Rattle.hiphop_main.specs.Summary.{is_refusal}
use Rattle.std.proofs.Common.{cond}
use Rattle.hiphop_main.proofs.Counts.{at_most_one, counted_on, lines_few, refusals_few}
use Rattle.hiphop_main.proofs.summary.count_lines.Goals as goal

pub loop-rest-preserved : goal.loop-rest-preserved
loop-rest-preserved c =
    counted_on _ _ _ _ _ _ _ _ c.loop-rest.invariant c.line_len.ensures.line c.split_at.ensures.front c.split_at.ensures.back
    (c.one_if-refused.ensures ∙ ap (λ b. cond b 1 0) c.is_refusal.ensures)

pub overflow_add-lines : goal.overflow_add-lines
overflow_add-lines c = let all = c.loop-rest.invariant.all in let few = lines_few c.args.text.now in omega arith

pub overflow_add-refused : goal.overflow_add-refused
overflow_add-refused c =
    let those = c.loop-rest.invariant.those in
    let few = refusals_few c.args.text.now in
    let one = at_most_one (is_refusal c.split_at.result.0.now) in
    let is = c.one_if-refused.ensures ∙ ap (λ b. cond b 1 0) c.is_refusal.ensures in
    omega arith
