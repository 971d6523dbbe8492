use Rattle.std.proofs.Common.{refl, sym, ap, ◌∙◌}
use Rattle.host_expr.specs.Environment.{is_known, env_of}
use Rattle.net_solution.specs.declared.valuation.Valuation.{Valuation as Place}
use Rattle.net_propagate.specs.Settling.{nets_in, question_in}
use Rattle.net_propagate.proofs.Stepping.{known_value, ungiven_value, value_taken, taken_up}
use Rattle.net_propagate.proofs.step.take_value.Goals as goal

pub returns-then-is_value_known-clause-taken : goal.returns-then-is_value_known-clause-taken
returns-then-is_value_known-clause-taken c =
    known_value (nets_in c.args.task.now) (question_in c.args.task.now) c.args.place.now c.args.signal
    (ap (λ xs. is_known (env_of xs c.args.signal).value) (sym c.deref.ensures.value)
    ∙ sym c.is_value_known.ensures ∙ c.if-is_value_known.true)

pub returns-clause-taken : goal.returns-clause-taken
returns-clause-taken c =
    ungiven_value (nets_in c.args.task.now) (question_in c.args.task.now) c.args.place.now c.args.signal
    c.in_ok-value.value
    (ap (λ xs. is_known (env_of xs c.args.signal).value) (sym c.deref.ensures.value)
    ∙ sym c.is_value_known.ensures ∙ c.if-is_value_known.false)
    c.in_ok-value.ensures (sym c.is_known.ensures ∙ c.if-is_known.false)

pub returns-then-is_known-clause-way : goal.returns-then-is_known-clause-way
returns-then-is_known-clause-way c =
    record {
      listed = c.requires.listed;
      rising =
          (value_taken (nets_in c.args.task.now) (question_in c.args.task.now) c.args.place.now _ c.args.signal
          c.in_ok-value.value c.requires.rising
          (ap (λ xs. is_known (env_of xs c.args.signal).value) (sym c.deref.ensures.value)
          ∙ sym c.is_value_known.ensures ∙ c.if-is_value_known.false)
          c.in_ok-value.ensures (sym c.is_known.ensures ∙ c.if-is_known.true)
          c.put_value.ensures refl refl refl).0;
    }

pub returns-then-is_known-clause-taken : goal.returns-then-is_known-clause-taken
returns-then-is_known-clause-taken c =
    (value_taken (nets_in c.args.task.now) (question_in c.args.task.now) c.args.place.now _ c.args.signal
    c.in_ok-value.value c.requires.rising
    (ap (λ xs. is_known (env_of xs c.args.signal).value) (sym c.deref.ensures.value)
    ∙ sym c.is_value_known.ensures ∙ c.if-is_value_known.false)
    c.in_ok-value.ensures (sym c.is_known.ensures ∙ c.if-is_known.true)
    c.put_value.ensures refl refl refl).1

pub returns-then-is_known-clause-up : goal.returns-then-is_known-clause-up
returns-then-is_known-clause-up c =
    let after : Place = record c.args.place.now { cells = record c.args.place.now.cells { signals = c.put_value.new.cells } } in
    taken_up c.args.place.now after _
    (value_taken (nets_in c.args.task.now) (question_in c.args.task.now) c.args.place.now after c.args.signal
    c.in_ok-value.value c.requires.rising
    (ap (λ xs. is_known (env_of xs c.args.signal).value) (sym c.deref.ensures.value)
    ∙ sym c.is_value_known.ensures ∙ c.if-is_value_known.false)
    c.in_ok-value.ensures (sym c.is_known.ensures ∙ c.if-is_known.true)
    c.put_value.ensures refl refl refl).1
