use Rattle.std.proofs.Common.{◌∙◌}
use Rattle.host_hooks.specs.Promise.{promise_of}
use Rattle.host_hooks.specs.Stored.{promises_of}
use Rattle.host_hooks.proofs.Answering.{hook_answers, hook_of_covered}
use Rattle.host_hooks.proofs.call.answer_of.Goals as goal

pub returns-in-Some-find : goal.returns-in-Some-find
returns-in-Some-find g c =
    hook_answers (promises_of c.args.hooks.now) c.args.body.now (promise_of c.in-Some-find.hook.now)
    c.args.args.now c.run.result c.in_default.is c.in-Some-find.ensures
    (c.are_of_kinds.ensures.0 c.if-not-are_of_kinds.false ∙ c.as_slice.ensures) c.run.ensures

pub returns-in-None : goal.returns-in-None
returns-in-None g c =
    let hook = hook_of_covered (promises_of c.args.hooks.now) c.args.body.now c.in_default.is c.requires in
    absurd (c.in-None.ensures hook.0 hook.1)
