use Rattle.std.proofs.Common.{refl, sym, ap, ◌∙◌, get_or}
use Rattle.hh_base.specs.declared.value.Tri.TheVariants as tri
use Rattle.host_expr.specs.Environment.{is_decided}
use Rattle.net_propagate.specs.Settling.{nets_in, question_in}
use Rattle.net_propagate.proofs.Stepping.{known_gate, ungiven_gate, gate_taken, taken_up}
use Rattle.net_propagate.proofs.step.take_gate.Goals as goal

pub returns-then-is_decided-clause-taken : goal.returns-then-is_decided-clause-taken
returns-then-is_decided-clause-taken c =
    known_gate (nets_in c.args.task.now) (question_in c.args.task.now) c.args.place.now c.args.gate
    (ap (λ xs. is_decided (get_or xs c.args.gate tri.Unknown)) (sym c.deref.ensures.value)
    ∙ sym (ap is_decided c.status_at.ensures) ∙ sym c.is_decided.ensures ∙ c.if-is_decided.true)

pub returns-clause-taken : goal.returns-clause-taken
returns-clause-taken c =
    ungiven_gate (nets_in c.args.task.now) (question_in c.args.task.now) c.args.place.now c.args.gate
    c.in_ok-status.status
    (ap (λ xs. is_decided (get_or xs c.args.gate tri.Unknown)) (sym c.deref.ensures.value)
    ∙ sym (ap is_decided c.status_at.ensures) ∙ sym c.is_decided.ensures ∙ c.if-is_decided.false)
    c.in_ok-status.ensures (sym c.is_decided-2.ensures ∙ c.if-is_decided-2.false)

pub returns-then-is_decided-2-clause-way : goal.returns-then-is_decided-2-clause-way
returns-then-is_decided-2-clause-way c =
    record {
      listed = c.requires.listed;
      rising =
          (gate_taken (nets_in c.args.task.now) (question_in c.args.task.now) c.args.place.now _ c.args.gate
          c.in_ok-status.status c.requires.rising
          (ap (λ xs. is_decided (get_or xs c.args.gate tri.Unknown)) (sym c.deref.ensures.value)
          ∙ sym (ap is_decided c.status_at.ensures) ∙ sym c.is_decided.ensures ∙ c.if-is_decided.false)
          c.in_ok-status.ensures (sym c.is_decided-2.ensures ∙ c.if-is_decided-2.true)
          c.put_gate.ensures refl refl).0;
    }

pub returns-then-is_decided-2-clause-taken : goal.returns-then-is_decided-2-clause-taken
returns-then-is_decided-2-clause-taken c =
    (gate_taken (nets_in c.args.task.now) (question_in c.args.task.now) c.args.place.now _ c.args.gate
    c.in_ok-status.status c.requires.rising
    (ap (λ xs. is_decided (get_or xs c.args.gate tri.Unknown)) (sym c.deref.ensures.value)
    ∙ sym (ap is_decided c.status_at.ensures) ∙ sym c.is_decided.ensures ∙ c.if-is_decided.false)
    c.in_ok-status.ensures (sym c.is_decided-2.ensures ∙ c.if-is_decided-2.true)
    c.put_gate.ensures refl refl).1

pub returns-then-is_decided-2-clause-up : goal.returns-then-is_decided-2-clause-up
returns-then-is_decided-2-clause-up c =
    taken_up c.args.place.now (record c.args.place.now { gates = c.put_gate.new.gates }) _
    (gate_taken (nets_in c.args.task.now) (question_in c.args.task.now) c.args.place.now
    (record c.args.place.now { gates = c.put_gate.new.gates }) c.args.gate
    c.in_ok-status.status c.requires.rising
    (ap (λ xs. is_decided (get_or xs c.args.gate tri.Unknown)) (sym c.deref.ensures.value)
    ∙ sym (ap is_decided c.status_at.ensures) ∙ sym c.is_decided.ensures ∙ c.if-is_decided.false)
    c.in_ok-status.ensures (sym c.is_decided-2.ensures ∙ c.if-is_decided-2.true)
    c.put_gate.ensures refl refl).1
