use Rattle.std.proofs.Common.{ap, ◌∙◌}
use Rattle.hh_term.specs.MustCan.{answer_bag, table_of}
use Rattle.hh_term.specs.ProgramView.{kernel_of}
use Rattle.hh_term.specs.Step.{answer_step, Stepped}
use Rattle.nested_step.proofs.instance.run_with.Goals as goal

pub returns : goal.returns
returns c =
    ap (λ (s : Stepped). record s { bag = c.in_ok-a-2.field-0.items }) (c.in_ok-a.ensures (table_of (kernel_of c.args.program.now)))
    ∙ ap
    (λ b. record (answer_step (table_of (kernel_of c.args.program.now)) c.args.site c.args.instance.now.id c.args.instance.now.args
    c.args.answer.now.last c.args.rest) { bag = b }) (c.in_ok-a-2.ensures ∙ ap (λ t. answer_bag t c.args.answer.now.value) c.target_of.ensures)
