use Rattle.std.proofs.Common.{ap, ◌∙◌, sym}
use Rattle.hh_term.specs.MustCan.{table_of}
use Rattle.hh_term.specs.ProgramView.{kernel_of}
use Rattle.hh_term.specs.Step.{resume_async}
use Rattle.nested_step.proofs.instance.resume_async.Goals as goal

pub returns-in_ok-a-in-Some : goal.returns-in_ok-a-in-Some
returns-in_ok-a-in-Some c =
    c.in_ok-a-in-Some.ensures ∙ ap
    (resume_async (table_of (kernel_of c.args.program.now)) c.args.site c.args.instance.now.id c.args.instance.now.args)
    (sym c.in-Some.ensures.first ∙ c.in_ok-rest.ensures)

pub returns-in_ok-a-in-None : goal.returns-in_ok-a-in-None
returns-in_ok-a-in-None c =
    c.in_ok-a-in-None.ensures (table_of (kernel_of c.args.program.now)) ∙ ap
    (resume_async (table_of (kernel_of c.args.program.now)) c.args.site c.args.instance.now.id c.args.instance.now.args)
    (sym (sym c.in_ok-rest.ensures ∙ c.in-None.ensures.none))
