use Rattle.std.proofs.Common.{◌≡◌, sym, ap, subst, ◌∙◌, ◌+◌, ◌&&◌, arith}
use Rattle.host_expr.specs.Environment.{env_of, is_decided, is_known}
use Rattle.sync_step.proofs.Undecided.{UndecidedTo, all_met, env_at, is_settled, settled_more, unsettled_more}
use Rattle.sync_step.proofs.deciding.undecided.Goals.{then-not-is_settled+in_ok-push, else-not-is_settled}
use Rattle.sync_step.proofs.deciding.undecided.Goals as goal

pub loop-signal-preserved : goal.loop-signal-preserved
loop-signal-preserved c =
    let E = env_of c.args.cells.now in
    let s = c.loop-signal.signal in
    let lt = c.loop-signal-test.true in
    let cell = c.index-cells-signal.result in
    let here : env_of c.args.cells.now s ≡ cell =
    env_at c.args.cells.now s cell (omega (arith, lt, c.requires)) c.index-cells-signal.is in
    let settled : is_settled E s ≡ c.is_settled.result =
    ap (λ x. is_decided x.status && is_known x.value) here ∙ sym c.is_settled.ensures in
    elim c.if-not-is_settled.branch [
      | then-not-is_settled+in_ok-push w ↦ unsettled_more E c.args.count s c.loop-signal.signals.items
          c.if-not-is_settled.signals.items lt (settled ∙ w.if-not-is_settled.true) c.loop-signal.invariant
          (ap (λ v. v.items) w.signals-is ∙ w.in_ok-push.ensures.items)
      | else-not-is_settled w ↦ subst (UndecidedTo E c.args.count (s + 1)) (sym (ap (λ v. v.items) w.signals-is))
          (settled_more E c.args.count s c.loop-signal.signals.items lt (settled ∙ w.if-not-is_settled.false)
          c.loop-signal.invariant)
    ]

pub returns : goal.returns
returns c =
    all_met (env_of c.args.cells.now) c.args.count c.loop-signal.signal c.loop-signal.signals.items
    c.loop-signal-test.false c.loop-signal.invariant
