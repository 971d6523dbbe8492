use Rattle.std.proofs.Common.{sym, ◌∙◌, ap, length, take, arith}
use Rattle.exec_instance.specs.Running.{Running}
use Rattle.exec_instance.specs.Places.{shortened}
use Rattle.exec_instance.proofs.Batch.{none_tried, one_more, lengths_fit, all_undone, all_untold, on_err, on_ok}
use Rattle.exec_instance.proofs.instances.Instances.enter.Goals as goal

pub loop-answer-init : goal.loop-answer-init
loop-answer-init c = none_tried c.args.kinds.now c.args.parts c.args.self.now c.as_slice-answer-items.result.now c.args.out.now.items

pub shorten-requires : goal.shorten-requires
shorten-requires c =
    let e = on_err c.try_answer.result _ c.is_err.result c.is_err.ensures.value c.if-is_err.true c.try_answer.ensures.err in
    lengths_fit c.args.kinds.now c.args.parts c.args.self.now c.loop-answer.self c.as_slice-answer-items.result.now c.loop-answer.answer-index c.args.out.now.items c.loop-answer.out.items c.loop-answer.invariant c.deref.result.now (c.deref.ensures.value ∙ c.in_ok-lengths.ensures) ∙ ap (λ (w : Running). length w.instances) (sym e.0)

pub returns-then-is_err-clause-err : goal.returns-then-is_err-clause-err
returns-then-is_err-clause-err c =
    let e = on_err c.try_answer.result _ c.is_err.result c.is_err.ensures.value c.if-is_err.true c.try_answer.ensures.err in (
      all_undone c.args.kinds.now c.args.parts c.args.self.now c.loop-answer.self c.as_slice-answer-items.result.now c.loop-answer.answer-index c.args.out.now.items c.loop-answer.out.items c.loop-answer.invariant c.shorten.new.self c.deref.result.now (c.deref.ensures.value ∙ c.in_ok-lengths.ensures) (c.shorten.ensures ∙ ap (λ (w : Running). record w { instances = shortened c.deref.result.now w.instances }) e.0),
      c.truncate.ensures.items ∙ ap (take c.len-told.result) e.1 ∙ all_untold c.args.kinds.now c.args.parts c.args.self.now c.loop-answer.self c.as_slice-answer-items.result.now c.loop-answer.answer-index c.args.out.now.items c.loop-answer.out.items c.loop-answer.invariant c.len-told.result (omega arith),
    )

pub loop-answer-preserved : goal.loop-answer-preserved
loop-answer-preserved c =
    one_more c.args.kinds.now c.args.parts c.args.self.now c.loop-answer.self c.as_slice-answer-items.result.now c.loop-answer.answer-index c.args.out.now.items c.loop-answer.out.items c.loop-answer.invariant c.try_answer.new.self c.try_answer.new.out.items c.answer-item.result c.loop-answer-test.true c.answer-item.is
    (on_ok c.try_answer.result _ c.is_err.result c.is_err.ensures.value c.if-is_err.false c.try_answer.ensures.ok)
    (on_ok c.try_answer.result _ c.is_err.result c.is_err.ensures.value c.if-is_err.false c.try_answer.ensures.told)
