use Rattle.std.proofs.Common.{subst, sym, ◌∙◌}
use Rattle.hh_term.specs.Marks.{IsControlOf, IdsDiffer}
use Rattle.hh_term.specs.ProgramView.{kernel_of}
use Rattle.hh_term.specs.Views.{control_of}
use Rattle.status_rounds.specs.Given.{NoneTwice}
use Rattle.term_machine.proofs.Standing.{ids_differ}
use Rattle.term_machine.proofs.Waiting.{rests_with_queues}
use Rattle.term_reactor.specs.Standing.{state_at}
use Rattle.term_reactor.proofs.Turning.{differ_with_queues, none_twice}
use Rattle.term_reactor.proofs.reaction.step_at.Goals as goal

pub new-marked-requires-clause-of_program : goal.new-marked-requires-clause-of_program
new-marked-requires-clause-of_program c =
    let K = kernel_of c.args.program.now in
    ∣ subst (IsControlOf K.statement) (sym c.in_ok-control.ensures) (rests_with_queues c.args.instances.now.instances K.statement (control_of c.args.stand.now.control) c.requires.keeps.stands.rests) ∣₁

pub new-marked-requires-clause-ids_differ : goal.new-marked-requires-clause-ids_differ
new-marked-requires-clause-ids_differ c =
    ∣ subst IdsDiffer (sym c.in_ok-control.ensures) (differ_with_queues c.args.instances.now.instances (control_of c.args.stand.now.control) (ids_differ (state_at (kernel_of c.args.program.now) c.args.stand.now) c.requires.keeps.stands)) ∣₁

pub step-requires-clause-inputs : goal.step-requires-clause-inputs
step-requires-clause-inputs c = subst NoneTwice (sym (c.deref.ensures.value ∙ c.in_ok-pairs.ensures)) (none_twice c.args.inputs.now c.requires.inputs)
