use Rattle.std.proofs.Common.{◌≡◌, sym, ap, ◌∙◌, subst, false, Some, None, length, add-one}
use Rattle.std.proofs.Common.{◌<◌, ◌+◌, arith}
use Rattle.std.proofs.lemmas.Result.{IfOk-weaker}
use Rattle.std.specs.Prelude.{IfOk}
use Rattle.host_expr.specs.Expression.{expression_of, optional_expression}
use Rattle.host_expr.specs.Environment.{env_of}
use Rattle.hh_term.specs.Statement.{Emit, If, Suspend, Seq, Par, Loop, Trap, Local, Async}
use Rattle.hh_term.specs.Selection.{Start}
use Rattle.hh_term.specs.MustCan.{Table, emitted, table_of}
use Rattle.hh_term.specs.ProgramView.{kernel_of}
use Rattle.hh_term.specs.Step.{emit_step}
use Rattle.hh_term.specs.Views.{statement_of, node_statement}
use Rattle.status_table.specs.Flat.{cell_with}
use Rattle.status_table.specs.TableView.{cells_in}
use Rattle.status_table.specs.Walking.{Fits}
use Rattle.status_table.proofs.Reading.{first_is}
use Rattle.status_table.specs.FlatStep.{flat_step}
use Rattle.last_walk.specs.LastWalk.{Did, MayEnter, WalkedIn, in_part}
use Rattle.last_walk.specs.declared.completion.Part.TheVariants as part
use Rattle.last_walk.proofs.Noting.{wrap_did, trap_did}
use Rattle.last_walk.proofs.Walks.{walked_as, no_completion, if_open}
use Rattle.last_walk.proofs.Walks.{goes, stops, beside_first_open, beside_second_open, both}
use Rattle.last_walk.proofs.Walks.{scope_unsolved, scope_open, scope_walked}
use Rattle.last_walk.proofs.Asking.{asked, end_keeps, step_keeps, scope_keeps, fault_keeps, kept_both, kept_same}
use Rattle.last_walk.proofs.Parts.{asks, walked_ok, first_ok, second_ok, not_entered, entered, no_outer}
use Rattle.last_walk.proofs.Weight.{weight}
use Rattle.last_walk.proofs.walk.+start.Goals as goal

pub start-returns-in-Emit : goal.start-returns-in-Emit
start-returns-in-Emit t c =
    let T = table_of (kernel_of c.args.program.now) in
    let τ = cells_in c.args.table.now in
    let at = c.args.at in
    let b0 = c.args.pass.now in
    let s = c.in-Emit.s in
    let e = optional_expression c.in-Emit.value in
    walked_ok T τ (statement_of c.args.term.now) (Emit s e) at.depth at.level Start c.emit.result b0 c.emit.new.pass
    (ap node_statement c.in-Emit.is)
    (IfOk-weaker c.emit.result (λ r. (U : Table) → Did U (emit_step s (emitted e (env_of b0.cells.signals.items))) r b0 c.emit.new.pass)
    (λ r. Did T (emit_step s (emitted e (env_of b0.cells.signals.items))) r b0 c.emit.new.pass) (λ r h. h T) c.emit.ensures)

pub start-returns-in-Async : goal.start-returns-in-Async
start-returns-in-Async t c =
    let T = table_of (kernel_of c.args.program.now) in
    let τ = cells_in c.args.table.now in
    let at = c.args.at in
    let b0 = c.args.pass.now in
    walked_ok T τ (statement_of c.args.term.now) (Async c.in-Async.n) at.depth at.level Start c.start_async.result b0
    c.start_async.new.pass (ap node_statement c.in-Async.is) c.start_async.ensures

pub start-returns-in-None : goal.start-returns-in-None
start-returns-in-None t c =
    let T = table_of (kernel_of c.args.program.now) in
    let τ = cells_in c.args.table.now in
    let at = c.args.at in
    let b0 = c.args.pass.now in
    walked_as T τ (statement_of c.args.term.now) (If (expression_of c.in-If.condition) (statement_of c.in-If.p.value) (statement_of c.in-If.q.value)) at.depth at.level Start None b0 c.test.new.pass
    (ap node_statement c.in-If.is)
    (if_open T τ (expression_of c.in-If.condition) (statement_of c.in-If.p.value) (statement_of c.in-If.q.value) at.depth at.level c.in_ok-test-in-If.field-0 b0 c.test.new.pass c.test.new.pass (c.in_ok-test-in-If.ensures.tested T) c.in-None.is)

pub start-returns-in-Some-true : goal.start-returns-in-Some-true
start-returns-in-Some-true t c =
    let T = table_of (kernel_of c.args.program.now) in
    let τ = cells_in c.args.table.now in
    let at = c.args.at in
    let b0 = c.args.pass.now in
    let same : statement_of c.args.term.now ≡ If (expression_of c.in-If.condition) (statement_of c.deref.result.now) (statement_of c.in-If.q.value) =
    ap node_statement c.in-If.is ∙ ap (λ x. If (expression_of c.in-If.condition) (statement_of x) (statement_of c.in-If.q.value)) (sym c.deref.ensures) in
    walked_ok T τ (statement_of c.args.term.now) (If (expression_of c.in-If.condition) (statement_of c.deref.result.now) (statement_of c.in-If.q.value)) at.depth at.level Start c.start_part.result b0 c.start_part.new.pass same
    (first_ok T τ (expression_of c.in-If.condition) (statement_of c.deref.result.now) (statement_of c.in-If.q.value) at.depth at.level c.in_ok-test-in-If.field-0 c.start_part.result b0 c.test.new.pass c.start_part.new.pass
    (c.in_ok-test-in-If.ensures.tested T) (c.in-Some-true.is ∙ ap Some c.in-Some-true.field-0-test) c.start_part.ensures)

pub start-returns-in-Some-false : goal.start-returns-in-Some-false
start-returns-in-Some-false t c =
    let T = table_of (kernel_of c.args.program.now) in
    let τ = cells_in c.args.table.now in
    let at = c.args.at in
    let b0 = c.args.pass.now in
    let same : statement_of c.args.term.now ≡ If (expression_of c.in-If.condition) (statement_of c.in-If.p.value) (statement_of c.deref-in-Some-false.result.now) =
    ap node_statement c.in-If.is ∙ ap (λ x. If (expression_of c.in-If.condition) (statement_of c.in-If.p.value) (statement_of x)) (sym c.deref-in-Some-false.ensures) in
    walked_ok T τ (statement_of c.args.term.now) (If (expression_of c.in-If.condition) (statement_of c.in-If.p.value) (statement_of c.deref-in-Some-false.result.now)) at.depth at.level Start c.start_part-in-Some-false.result b0 c.start_part-in-Some-false.new.pass same
    (second_ok T τ (expression_of c.in-If.condition) (statement_of c.in-If.p.value) (statement_of c.deref-in-Some-false.result.now) at.depth at.level c.in_ok-test-in-If.field-0 c.start_part-in-Some-false.result b0 c.test.new.pass c.start_part-in-Some-false.new.pass
    (c.in_ok-test-in-If.ensures.tested T) (c.in-Some-false.is ∙ ap Some c.in-Some-false.field-0-test) c.start_part-in-Some-false.ensures)

pub start-returns-in-Suspend : goal.start-returns-in-Suspend
start-returns-in-Suspend t c =
    let T = table_of (kernel_of c.args.program.now) in
    let τ = cells_in c.args.table.now in
    let at = c.args.at in
    let b0 = c.args.pass.now in
    let same : statement_of c.args.term.now ≡ Suspend (expression_of c.in-Suspend.field-0) (statement_of c.deref-in-Suspend.result.now) =
    ap node_statement c.in-Suspend.is ∙ ap (λ x. Suspend (expression_of c.in-Suspend.field-0) (statement_of x)) (sym c.deref-in-Suspend.ensures) in
    walked_ok T τ (statement_of c.args.term.now) (Suspend (expression_of c.in-Suspend.field-0) (statement_of c.deref-in-Suspend.result.now)) at.depth at.level Start c.start_part-in-Suspend.result b0 c.start_part-in-Suspend.new.pass same
    c.start_part-in-Suspend.ensures

pub start-returns-in-Seq : goal.start-returns-in-Seq
start-returns-in-Seq t c =
    let T = table_of (kernel_of c.args.program.now) in
    let τ = cells_in c.args.table.now in
    let at = c.args.at in
    let b0 = c.args.pass.now in
    let same : statement_of c.args.term.now ≡ Seq (statement_of c.deref-in-Seq.result.now) (statement_of c.deref-in-Seq-2.result.now) =
    ap node_statement c.in-Seq.is ∙ ap (λ x. Seq (statement_of x) (statement_of c.in-Seq.q.value)) (sym c.deref-in-Seq.ensures) ∙ ap (λ x. Seq (statement_of c.deref-in-Seq.result.now) (statement_of x)) (sym c.deref-in-Seq-2.ensures) in
    walked_ok T τ (statement_of c.args.term.now) (Seq (statement_of c.deref-in-Seq.result.now) (statement_of c.deref-in-Seq-2.result.now)) at.depth at.level Start c.start_sequence.result b0 c.start_sequence.new.pass same
    c.start_sequence.ensures

pub start-returns-in-Par : goal.start-returns-in-Par
start-returns-in-Par t c =
    let T = table_of (kernel_of c.args.program.now) in
    let τ = cells_in c.args.table.now in
    let at = c.args.at in
    let b0 = c.args.pass.now in
    let same : statement_of c.args.term.now ≡ Par (statement_of c.deref-in-Par.result.now) (statement_of c.deref-in-Par-2.result.now) =
    ap node_statement c.in-Par.is ∙ ap (λ x. Par (statement_of x) (statement_of c.in-Par.q.value)) (sym c.deref-in-Par.ensures) ∙ ap (λ x. Par (statement_of c.deref-in-Par.result.now) (statement_of x)) (sym c.deref-in-Par-2.ensures) in
    walked_ok T τ (statement_of c.args.term.now) (Par (statement_of c.deref-in-Par.result.now) (statement_of c.deref-in-Par-2.result.now)) at.depth at.level Start c.start_fork.result b0 c.start_fork.new.pass same
    c.start_fork.ensures

pub start-returns-in-Trap : goal.start-returns-in-Trap
start-returns-in-Trap t c =
    let T = table_of (kernel_of c.args.program.now) in
    let τ = cells_in c.args.table.now in
    let at = c.args.at in
    let b0 = c.args.pass.now in
    let same : statement_of c.args.term.now ≡ Trap (statement_of c.deref-in-Trap.result.now) =
    ap node_statement c.in-Trap.is ∙ ap (λ x. Trap (statement_of x)) (sym c.deref-in-Trap.ensures) in
    walked_ok T τ (statement_of c.args.term.now) (Trap (statement_of c.deref-in-Trap.result.now)) at.depth at.level Start c.start_trap.result b0 c.start_trap.new.pass same
    c.start_trap.ensures

pub start-returns-in-Local : goal.start-returns-in-Local
start-returns-in-Local t c =
    let T = table_of (kernel_of c.args.program.now) in
    let τ = cells_in c.args.table.now in
    let at = c.args.at in
    let b0 = c.args.pass.now in
    let same : statement_of c.args.term.now ≡ Local c.in-Local.s (statement_of c.deref-in-Local.result.now) =
    ap node_statement c.in-Local.is ∙ ap (λ x. Local c.in-Local.s (statement_of x)) (sym c.deref-in-Local.ensures) in
    walked_ok T τ (statement_of c.args.term.now) (Local c.in-Local.s (statement_of c.deref-in-Local.result.now)) at.depth at.level Start c.start_scope.result b0 c.start_scope.new.pass same
    c.start_scope.ensures

pub start-returns-in-Loop : goal.start-returns-in-Loop
start-returns-in-Loop t c =
    let T = table_of (kernel_of c.args.program.now) in
    let τ = cells_in c.args.table.now in
    let at = c.args.at in
    let b0 = c.args.pass.now in
    let same : statement_of c.args.term.now ≡ Loop (statement_of c.deref-in-Loop.result.now) =
    ap node_statement c.in-Loop.is ∙ ap (λ x. Loop (statement_of x)) (sym c.deref-in-Loop.ensures) in
    walked_ok T τ (statement_of c.args.term.now) (Loop (statement_of c.deref-in-Loop.result.now)) at.depth at.level Start c.start_part-in-Loop.result b0 c.start_part-in-Loop.new.pass same
    (subst (λ k. IfOk c.start_part-in-Loop.result (λ x. WalkedIn part.Inside T τ (statement_of c.deref-in-Loop.result.now) k at.level Start x b0 c.start_part-in-Loop.new.pass))
    (add-one at.depth) c.start_part-in-Loop.ensures)

pub start-start_part-requires : goal.start-start_part-requires
start-start_part-requires t c =
    let T = table_of (kernel_of c.args.program.now) in
    let τ = cells_in c.args.table.now in
    let at = c.args.at in
    let b0 = c.args.pass.now in
    let rows = length c.args.table.now.rows.items in
    let n = length (kernel_of c.args.program.now).signals in
    let same : statement_of c.args.term.now ≡ If (expression_of c.in-If.condition) (statement_of c.deref.result.now) (statement_of c.in-If.q.value) =
    ap node_statement c.in-If.is ∙ ap (λ x. If (expression_of c.in-If.condition) (statement_of x) (statement_of c.in-If.q.value)) (sym c.deref.ensures) in
    let fits = subst (Fits (length b0.cells.signals.items) rows at.depth) same c.requires.fits in
    let w : weight (statement_of c.args.term.now) ≡ weight (statement_of c.deref.result.now) + weight (statement_of c.in-If.q.value) + 1 = ap weight same in
    (omega (arith, w), asks rows n at.depth (statement_of c.deref.result.now) (statement_of c.deref.result.now) b0 c.test.new.pass (λ i. (statement_of c.deref.result.now)) (fault_keeps b0 c.test.new.pass c.in_ok-test-in-If.ensures.same) fits.0 c.requires.emitted c.requires.args c.requires.declared c.requires.depth)

pub start-start_part-requires-in-Some-false : goal.start-start_part-requires-in-Some-false
start-start_part-requires-in-Some-false t c =
    let T = table_of (kernel_of c.args.program.now) in
    let τ = cells_in c.args.table.now in
    let at = c.args.at in
    let b0 = c.args.pass.now in
    let rows = length c.args.table.now.rows.items in
    let n = length (kernel_of c.args.program.now).signals in
    let same : statement_of c.args.term.now ≡ If (expression_of c.in-If.condition) (statement_of c.in-If.p.value) (statement_of c.deref-in-Some-false.result.now) =
    ap node_statement c.in-If.is ∙ ap (λ x. If (expression_of c.in-If.condition) (statement_of c.in-If.p.value) (statement_of x)) (sym c.deref-in-Some-false.ensures) in
    let fits = subst (Fits (length b0.cells.signals.items) rows at.depth) same c.requires.fits in
    let w : weight (statement_of c.args.term.now) ≡ weight (statement_of c.in-If.p.value) + weight (statement_of c.deref-in-Some-false.result.now) + 1 = ap weight same in
    (omega (arith, w), asks rows n at.depth (statement_of c.deref-in-Some-false.result.now) (statement_of c.deref-in-Some-false.result.now) b0 c.test.new.pass (λ i. (statement_of c.deref-in-Some-false.result.now)) (fault_keeps b0 c.test.new.pass c.in_ok-test-in-If.ensures.same) fits.1 c.requires.emitted c.requires.args c.requires.declared c.requires.depth)

pub start-start_part-requires-in-Suspend : goal.start-start_part-requires-in-Suspend
start-start_part-requires-in-Suspend t c =
    let T = table_of (kernel_of c.args.program.now) in
    let τ = cells_in c.args.table.now in
    let at = c.args.at in
    let b0 = c.args.pass.now in
    let rows = length c.args.table.now.rows.items in
    let n = length (kernel_of c.args.program.now).signals in
    let same : statement_of c.args.term.now ≡ Suspend (expression_of c.in-Suspend.field-0) (statement_of c.deref-in-Suspend.result.now) =
    ap node_statement c.in-Suspend.is ∙ ap (λ x. Suspend (expression_of c.in-Suspend.field-0) (statement_of x)) (sym c.deref-in-Suspend.ensures) in
    let fits = subst (Fits (length b0.cells.signals.items) rows at.depth) same c.requires.fits in
    let w : weight (statement_of c.args.term.now) ≡ weight (statement_of c.deref-in-Suspend.result.now) + 1 = ap weight same in
    (omega (arith, w), asks rows n at.depth (statement_of c.deref-in-Suspend.result.now) (statement_of c.deref-in-Suspend.result.now) b0 b0 (λ i. (statement_of c.deref-in-Suspend.result.now)) (kept_same b0) fits c.requires.emitted c.requires.args c.requires.declared c.requires.depth)

pub start-start_trap-requires : goal.start-start_trap-requires
start-start_trap-requires t c =
    let T = table_of (kernel_of c.args.program.now) in
    let τ = cells_in c.args.table.now in
    let at = c.args.at in
    let b0 = c.args.pass.now in
    let rows = length c.args.table.now.rows.items in
    let n = length (kernel_of c.args.program.now).signals in
    let same : statement_of c.args.term.now ≡ Trap (statement_of c.deref-in-Trap.result.now) =
    ap node_statement c.in-Trap.is ∙ ap (λ x. Trap (statement_of x)) (sym c.deref-in-Trap.ensures) in
    let fits = subst (Fits (length b0.cells.signals.items) rows at.depth) same c.requires.fits in
    let w : weight (statement_of c.args.term.now) ≡ weight (statement_of c.deref-in-Trap.result.now) + 1 = ap weight same in
    (omega (arith, w), asks rows n at.depth (statement_of c.deref-in-Trap.result.now) (statement_of c.deref-in-Trap.result.now) b0 b0 (λ i. (statement_of c.deref-in-Trap.result.now)) (kept_same b0) fits c.requires.emitted c.requires.args c.requires.declared c.requires.depth)

pub start-start_sequence-requires : goal.start-start_sequence-requires
start-start_sequence-requires t c =
    let T = table_of (kernel_of c.args.program.now) in
    let τ = cells_in c.args.table.now in
    let at = c.args.at in
    let b0 = c.args.pass.now in
    let rows = length c.args.table.now.rows.items in
    let n = length (kernel_of c.args.program.now).signals in
    let same : statement_of c.args.term.now ≡ Seq (statement_of c.deref-in-Seq.result.now) (statement_of c.deref-in-Seq-2.result.now) =
    ap node_statement c.in-Seq.is ∙ ap (λ x. Seq (statement_of x) (statement_of c.in-Seq.q.value)) (sym c.deref-in-Seq.ensures) ∙ ap (λ x. Seq (statement_of c.deref-in-Seq.result.now) (statement_of x)) (sym c.deref-in-Seq-2.ensures) in
    let fits = subst (Fits (length b0.cells.signals.items) rows at.depth) same c.requires.fits in
    let w : weight (statement_of c.args.term.now) ≡ weight (statement_of c.deref-in-Seq.result.now) + weight (statement_of c.deref-in-Seq-2.result.now) + 1 = ap weight same in
    (omega (arith, w), asks rows n at.depth (Seq (statement_of c.deref-in-Seq.result.now) (statement_of c.deref-in-Seq-2.result.now)) (Seq (statement_of c.deref-in-Seq.result.now) (statement_of c.deref-in-Seq-2.result.now)) b0 b0 (λ i. (Seq (statement_of c.deref-in-Seq.result.now) (statement_of c.deref-in-Seq-2.result.now))) (kept_same b0) fits c.requires.emitted c.requires.args c.requires.declared c.requires.depth)

pub start-start_fork-requires : goal.start-start_fork-requires
start-start_fork-requires t c =
    let T = table_of (kernel_of c.args.program.now) in
    let τ = cells_in c.args.table.now in
    let at = c.args.at in
    let b0 = c.args.pass.now in
    let rows = length c.args.table.now.rows.items in
    let n = length (kernel_of c.args.program.now).signals in
    let same : statement_of c.args.term.now ≡ Par (statement_of c.deref-in-Par.result.now) (statement_of c.deref-in-Par-2.result.now) =
    ap node_statement c.in-Par.is ∙ ap (λ x. Par (statement_of x) (statement_of c.in-Par.q.value)) (sym c.deref-in-Par.ensures) ∙ ap (λ x. Par (statement_of c.deref-in-Par.result.now) (statement_of x)) (sym c.deref-in-Par-2.ensures) in
    let fits = subst (Fits (length b0.cells.signals.items) rows at.depth) same c.requires.fits in
    let w : weight (statement_of c.args.term.now) ≡ weight (statement_of c.deref-in-Par.result.now) + weight (statement_of c.deref-in-Par-2.result.now) + 1 = ap weight same in
    (omega (arith, w), asks rows n at.depth (Par (statement_of c.deref-in-Par.result.now) (statement_of c.deref-in-Par-2.result.now)) (Par (statement_of c.deref-in-Par.result.now) (statement_of c.deref-in-Par-2.result.now)) b0 b0 (λ i. (Par (statement_of c.deref-in-Par.result.now) (statement_of c.deref-in-Par-2.result.now))) (kept_same b0) fits c.requires.emitted c.requires.args c.requires.declared c.requires.depth)

pub start-start_scope-requires : goal.start-start_scope-requires
start-start_scope-requires t c =
    let T = table_of (kernel_of c.args.program.now) in
    let τ = cells_in c.args.table.now in
    let at = c.args.at in
    let b0 = c.args.pass.now in
    let rows = length c.args.table.now.rows.items in
    let n = length (kernel_of c.args.program.now).signals in
    let same : statement_of c.args.term.now ≡ Local c.in-Local.s (statement_of c.deref-in-Local.result.now) =
    ap node_statement c.in-Local.is ∙ ap (λ x. Local c.in-Local.s (statement_of x)) (sym c.deref-in-Local.ensures) in
    let fits = subst (Fits (length b0.cells.signals.items) rows at.depth) same c.requires.fits in
    let w : weight (statement_of c.args.term.now) ≡ weight (statement_of c.deref-in-Local.result.now) + 1 = ap weight same in
    (omega (arith, w), asks rows n at.depth (Local c.in-Local.s (statement_of c.deref-in-Local.result.now)) (Local c.in-Local.s (statement_of c.deref-in-Local.result.now)) b0 b0 (λ i. (Local c.in-Local.s (statement_of c.deref-in-Local.result.now))) (kept_same b0) fits c.requires.emitted c.requires.args c.requires.declared c.requires.depth)

pub start-start_part-requires-in-Loop : goal.start-start_part-requires-in-Loop
start-start_part-requires-in-Loop t c =
    let T = table_of (kernel_of c.args.program.now) in
    let τ = cells_in c.args.table.now in
    let at = c.args.at in
    let b0 = c.args.pass.now in
    let rows = length c.args.table.now.rows.items in
    let n = length (kernel_of c.args.program.now).signals in
    let same : statement_of c.args.term.now ≡ Loop (statement_of c.deref-in-Loop.result.now) =
    ap node_statement c.in-Loop.is ∙ ap (λ x. Loop (statement_of x)) (sym c.deref-in-Loop.ensures) in
    let fits = subst (Fits (length b0.cells.signals.items) rows at.depth) same c.requires.fits in
    let w : weight (statement_of c.args.term.now) ≡ weight (statement_of c.deref-in-Loop.result.now) + 1 = ap weight same in
    (omega (arith, w), asks rows n (at.depth + 1) (statement_of c.deref-in-Loop.result.now) (statement_of c.deref-in-Loop.result.now) b0 b0 (λ i. (statement_of c.deref-in-Loop.result.now)) (kept_same b0) (subst (λ k. Fits (length b0.cells.signals.items) rows k (statement_of c.deref-in-Loop.result.now)) (sym (add-one at.depth)) fits.1) c.requires.emitted c.requires.args c.requires.declared (subst (λ k. k < rows) (sym (add-one at.depth)) fits.0))

pub start_part-returns : goal.start_part-returns
start_part-returns t c =
    let T = table_of (kernel_of c.args.program.now) in
    let τ = cells_in c.args.table.now in
    let at = c.args.at in
    let b0 = c.args.pass.now in
    wrap_did T b0 c.start.new.pass (in_part c.args.part) (flat_step T τ (statement_of c.args.term.now) at.depth at.level Start (env_of b0.cells.signals.items)) c.in_ok-end.end c.in_ok-end-2.end c.in_ok-end.ensures c.in_ok-end-2.ensures

pub start_part-start-requires : goal.start_part-start-requires
start_part-start-requires t c =
    let T = table_of (kernel_of c.args.program.now) in
    let τ = cells_in c.args.table.now in
    let at = c.args.at in
    let b0 = c.args.pass.now in
    let rows = length c.args.table.now.rows.items in
    let n = length (kernel_of c.args.program.now).signals in
    (omega arith, asked rows n at.depth (statement_of c.args.term.now) (statement_of c.args.term.now) b0 b0 (λ i. (statement_of c.args.term.now)) (kept_same b0) c.requires.fits c.requires.emitted c.requires.args c.requires.declared c.requires.depth)

pub start_trap-returns : goal.start_trap-returns
start_trap-returns t c =
    let T = table_of (kernel_of c.args.program.now) in
    let τ = cells_in c.args.table.now in
    let at = c.args.at in
    let b0 = c.args.pass.now in
    trap_did T b0 c.start.new.pass (flat_step T τ (statement_of c.args.p.now) at.depth at.level Start (env_of b0.cells.signals.items)) c.in_ok-end.end c.in_ok-end-2.end c.in_ok-end.ensures c.in_ok-end-2.ensures

pub start_trap-start-requires : goal.start_trap-start-requires
start_trap-start-requires t c =
    let T = table_of (kernel_of c.args.program.now) in
    let τ = cells_in c.args.table.now in
    let at = c.args.at in
    let b0 = c.args.pass.now in
    let rows = length c.args.table.now.rows.items in
    let n = length (kernel_of c.args.program.now).signals in
    (omega arith, asked rows n at.depth (statement_of c.args.p.now) (statement_of c.args.p.now) b0 b0 (λ i. (statement_of c.args.p.now)) (kept_same b0) c.requires.fits c.requires.emitted c.requires.args c.requires.declared c.requires.depth)

pub start_sequence-returns-then-not-has_ended : goal.start_sequence-returns-then-not-has_ended
start_sequence-returns-then-not-has_ended t c =
    let T = table_of (kernel_of c.args.program.now) in
    let τ = cells_in c.args.table.now in
    let at = c.args.at in
    let b0 = c.args.pass.now in
    stops T τ (in_part part.First) (in_part part.Second) (statement_of c.args.p.now) (statement_of c.args.q.now) at.depth at.level at.depth at.level Start c.in_ok-first.first c.in_ok-end.end b0 c.start.new.pass c.in_ok-first.ensures (sym c.has_ended.ensures ∙ c.if-not-has_ended.true) c.in_ok-end.ensures

pub start_sequence-returns : goal.start_sequence-returns
start_sequence-returns t c =
    let T = table_of (kernel_of c.args.program.now) in
    let τ = cells_in c.args.table.now in
    let at = c.args.at in
    let b0 = c.args.pass.now in
    goes T τ (in_part part.First) (in_part part.Second) (statement_of c.args.p.now) (statement_of c.args.q.now) at.depth at.level at.depth at.level Start c.in_ok-first.first c.in_ok-second.second c.in_ok-end-2.end b0 c.start.new.pass c.start-2.new.pass c.in_ok-first.ensures (sym c.has_ended.ensures ∙ c.if-not-has_ended.false) c.in_ok-second.ensures c.in_ok-end-2.ensures

pub start_sequence-start-requires : goal.start_sequence-start-requires
start_sequence-start-requires t c =
    let T = table_of (kernel_of c.args.program.now) in
    let τ = cells_in c.args.table.now in
    let at = c.args.at in
    let b0 = c.args.pass.now in
    let rows = length c.args.table.now.rows.items in
    let n = length (kernel_of c.args.program.now).signals in
    (omega arith, asked rows n at.depth (statement_of c.args.p.now) (statement_of c.args.p.now) b0 b0 (λ i. (statement_of c.args.p.now)) (kept_same b0) c.requires.fits.0 c.requires.emitted c.requires.args c.requires.declared c.requires.depth)

pub start_sequence-start-requires-2 : goal.start_sequence-start-requires-2
start_sequence-start-requires-2 t c =
    let T = table_of (kernel_of c.args.program.now) in
    let τ = cells_in c.args.table.now in
    let at = c.args.at in
    let b0 = c.args.pass.now in
    let rows = length c.args.table.now.rows.items in
    let n = length (kernel_of c.args.program.now).signals in
    let kept = end_keeps T (flat_step T τ (statement_of c.args.p.now) at.depth at.level Start (env_of b0.cells.signals.items)) c.in_ok-first.first b0 c.start.new.pass c.in_ok-first.ensures (sym c.has_ended.ensures ∙ c.if-not-has_ended.false) in
    (omega arith, asked rows n at.depth (statement_of c.args.q.now) (statement_of c.args.q.now) b0 c.start.new.pass (λ i. (statement_of c.args.q.now)) kept c.requires.fits.1 c.requires.emitted c.requires.args c.requires.declared c.requires.depth)

pub start_fork-returns-in_default : goal.start_fork-returns-in_default
start_fork-returns-in_default t c =
    let T = table_of (kernel_of c.args.program.now) in
    let τ = cells_in c.args.table.now in
    let at = c.args.at in
    let b0 = c.args.pass.now in
    beside_first_open T τ (statement_of c.args.p.now) (statement_of c.args.q.now) at.depth at.level Start Start c.in_ok-first.field-0 b0 c.start.new.pass c.start.new.pass (no_completion c.in_ok-first.field-0 c.in_default.not-Some) c.in_ok-first.ensures

pub start_fork-returns-in_default-2 : goal.start_fork-returns-in_default-2
start_fork-returns-in_default-2 t c =
    let T = table_of (kernel_of c.args.program.now) in
    let τ = cells_in c.args.table.now in
    let at = c.args.at in
    let b0 = c.args.pass.now in
    beside_second_open T τ (statement_of c.args.p.now) (statement_of c.args.q.now) at.depth at.level Start Start c.in_ok-first.field-0 c.in_ok-second.field-0 c.in-Some.first b0 c.start.new.pass c.start-2.new.pass c.start-2.new.pass c.in-Some.is c.in_ok-first.ensures (no_completion c.in_ok-second.field-0 c.in_default-2.not-Some) c.in_ok-second.ensures

pub start_fork-returns : goal.start_fork-returns
start_fork-returns t c =
    let T = table_of (kernel_of c.args.program.now) in
    let τ = cells_in c.args.table.now in
    let at = c.args.at in
    let b0 = c.args.pass.now in
    let from : c.len-from.result ≡ length b0.touches.items = omega (arith, c.len-from.ensures) in
    both T τ c.len-from.result (statement_of c.args.p.now) (statement_of c.args.q.now) at.depth at.level Start Start c.in_ok-first.field-0 c.in_ok-second.field-0 c.in-Some.first c.in-Some-2.second c.in_ok-end.end b0 c.start.new.pass c.start-2.new.pass c.beside.new.pass from c.in-Some.is c.in_ok-first.ensures c.in-Some-2.is c.in_ok-second.ensures c.in_ok-end.ensures

pub start_fork-start-requires : goal.start_fork-start-requires
start_fork-start-requires t c =
    let T = table_of (kernel_of c.args.program.now) in
    let τ = cells_in c.args.table.now in
    let at = c.args.at in
    let b0 = c.args.pass.now in
    let rows = length c.args.table.now.rows.items in
    let n = length (kernel_of c.args.program.now).signals in
    (omega arith, asked rows n at.depth (statement_of c.args.p.now) (statement_of c.args.p.now) b0 b0 (λ i. (statement_of c.args.p.now)) (kept_same b0) c.requires.fits.0 c.requires.emitted c.requires.args c.requires.declared c.requires.depth)

pub start_fork-start-requires-2 : goal.start_fork-start-requires-2
start_fork-start-requires-2 t c =
    let T = table_of (kernel_of c.args.program.now) in
    let τ = cells_in c.args.table.now in
    let at = c.args.at in
    let b0 = c.args.pass.now in
    let rows = length c.args.table.now.rows.items in
    let n = length (kernel_of c.args.program.now).signals in
    let kept = step_keeps T (flat_step T τ (statement_of c.args.p.now) at.depth at.level Start (env_of b0.cells.signals.items)) c.in_ok-first.field-0 c.in-Some.first b0 c.start.new.pass c.in_ok-first.ensures c.in-Some.is in
    (omega arith, asked rows n at.depth (statement_of c.args.q.now) (statement_of c.args.q.now) b0 c.start.new.pass (λ i. (statement_of c.args.q.now)) kept c.requires.fits.1 c.requires.emitted c.requires.args c.requires.declared c.requires.depth)

pub start_scope-returns-in_default : goal.start_scope-returns-in_default
start_scope-returns-in_default t c =
    let T = table_of (kernel_of c.args.program.now) in
    let τ = cells_in c.args.table.now in
    let at = c.args.at in
    let b0 = c.args.pass.now in
    let K = kernel_of c.args.program.now in
    let s = c.args.signal in
    let ls : s < length b0.cells.signals.items = c.requires.fits.0 in
    let first : T.first s ≡ c.index-signals-signal.result.first = first_is c.signals.result.now K s
    c.index-signals-signal.result c.signals.ensures (omega (arith, ls, c.requires.declared)) c.index-signals-signal.is in
    let cell = cell_with (τ s at.level) false c.index-signals-signal.result.first in
    let d = cell_with (τ s at.level) false (T.first s) in
    let same : cell ≡ d = ap (cell_with (τ s at.level) false) (sym first) in
    let met : MayEnter s cell c.in_ok-outer.field-0 b0 c.enter_scope.new.pass =
    subst (λ x. MayEnter s (cell_with (τ s at.level) false x) c.in_ok-outer.field-0 b0 c.enter_scope.new.pass)
    (sym (ap (λ d. d.first) c.index-signals-signal.is)) c.in_ok-outer.ensures in
    scope_unsolved T τ s (statement_of c.args.p.now) at.depth at.level Start cell d b0 c.enter_scope.new.pass same
    (not_entered s cell c.in_ok-outer.field-0 b0 c.enter_scope.new.pass met (no_outer c.in_ok-outer.field-0 c.in_default.not-Some))

pub start_scope-returns-in_default-2 : goal.start_scope-returns-in_default-2
start_scope-returns-in_default-2 t c =
    let T = table_of (kernel_of c.args.program.now) in
    let τ = cells_in c.args.table.now in
    let at = c.args.at in
    let b0 = c.args.pass.now in
    let K = kernel_of c.args.program.now in
    let s = c.args.signal in
    let ls : s < length b0.cells.signals.items = c.requires.fits.0 in
    let first : T.first s ≡ c.index-signals-signal.result.first = first_is c.signals.result.now K s
    c.index-signals-signal.result c.signals.ensures (omega (arith, ls, c.requires.declared)) c.index-signals-signal.is in
    let cell = cell_with (τ s at.level) false c.index-signals-signal.result.first in
    let d = cell_with (τ s at.level) false (T.first s) in
    let same : cell ≡ d = ap (cell_with (τ s at.level) false) (sym first) in
    let met : MayEnter s cell c.in_ok-outer.field-0 b0 c.enter_scope.new.pass =
    subst (λ x. MayEnter s (cell_with (τ s at.level) false x) c.in_ok-outer.field-0 b0 c.enter_scope.new.pass)
    (sym (ap (λ d. d.first) c.index-signals-signal.is)) c.in_ok-outer.ensures in
    let e = entered s cell c.in_ok-outer.field-0 c.in-Some.outer b0 c.enter_scope.new.pass met c.in-Some.is in
    scope_open T τ s (statement_of c.args.p.now) at.depth at.level Start cell d c.in-Some.outer c.in_ok-body.field-0 b0 c.enter_scope.new.pass c.start.new.pass c.start.new.pass same e.0 ls e.1 (no_completion c.in_ok-body.field-0 c.in_default-2.not-Some) c.in_ok-body.ensures

pub start_scope-returns : goal.start_scope-returns
start_scope-returns t c =
    let T = table_of (kernel_of c.args.program.now) in
    let τ = cells_in c.args.table.now in
    let at = c.args.at in
    let b0 = c.args.pass.now in
    let K = kernel_of c.args.program.now in
    let s = c.args.signal in
    let ls : s < length b0.cells.signals.items = c.requires.fits.0 in
    let first : T.first s ≡ c.index-signals-signal.result.first = first_is c.signals.result.now K s
    c.index-signals-signal.result c.signals.ensures (omega (arith, ls, c.requires.declared)) c.index-signals-signal.is in
    let cell = cell_with (τ s at.level) false c.index-signals-signal.result.first in
    let d = cell_with (τ s at.level) false (T.first s) in
    let same : cell ≡ d = ap (cell_with (τ s at.level) false) (sym first) in
    let met : MayEnter s cell c.in_ok-outer.field-0 b0 c.enter_scope.new.pass =
    subst (λ x. MayEnter s (cell_with (τ s at.level) false x) c.in_ok-outer.field-0 b0 c.enter_scope.new.pass)
    (sym (ap (λ d. d.first) c.index-signals-signal.is)) c.in_ok-outer.ensures in
    let e = entered s cell c.in_ok-outer.field-0 c.in-Some.outer b0 c.enter_scope.new.pass met c.in-Some.is in
    let end = c.in_ok-end.ensures in
    scope_walked T τ s (statement_of c.args.p.now) at.depth at.level Start cell d end.cell c.in-Some.outer c.in_ok-body.field-0 c.in-Some-2.body c.in_ok-end.end b0 c.enter_scope.new.pass c.start.new.pass c.leave_scope.new.pass same e.0 ls (omega (arith, ls, c.requires.emitted)) e.1 c.in-Some-2.is c.in_ok-body.ensures end.left end.code end.next

pub start_scope-start-requires : goal.start_scope-start-requires
start_scope-start-requires t c =
    let T = table_of (kernel_of c.args.program.now) in
    let τ = cells_in c.args.table.now in
    let at = c.args.at in
    let b0 = c.args.pass.now in
    let rows = length c.args.table.now.rows.items in
    let n = length (kernel_of c.args.program.now).signals in
    let K = kernel_of c.args.program.now in
    let s = c.args.signal in
    let ls : s < length b0.cells.signals.items = c.requires.fits.0 in
    let first : T.first s ≡ c.index-signals-signal.result.first = first_is c.signals.result.now K s
    c.index-signals-signal.result c.signals.ensures (omega (arith, ls, c.requires.declared)) c.index-signals-signal.is in
    let cell = cell_with (τ s at.level) false c.index-signals-signal.result.first in
    let d = cell_with (τ s at.level) false (T.first s) in
    let same : cell ≡ d = ap (cell_with (τ s at.level) false) (sym first) in
    let met : MayEnter s cell c.in_ok-outer.field-0 b0 c.enter_scope.new.pass =
    subst (λ x. MayEnter s (cell_with (τ s at.level) false x) c.in_ok-outer.field-0 b0 c.enter_scope.new.pass)
    (sym (ap (λ d. d.first) c.index-signals-signal.is)) c.in_ok-outer.ensures in
    let e = entered s cell c.in_ok-outer.field-0 c.in-Some.outer b0 c.enter_scope.new.pass met c.in-Some.is in
    let k1 = scope_keeps s cell c.in-Some.outer b0 c.enter_scope.new.pass e.1 in
    (omega arith, asked rows n at.depth (statement_of c.args.p.now) (statement_of c.args.p.now) b0 c.enter_scope.new.pass (λ i. (statement_of c.args.p.now)) k1 c.requires.fits.1 c.requires.emitted c.requires.args c.requires.declared c.requires.depth)

pub start_scope-enter_scope-requires-clause-cell : goal.start_scope-enter_scope-requires-clause-cell
start_scope-enter_scope-requires-clause-cell t c =
    c.requires.fits.0

pub start_scope-enter_scope-requires-clause-emitted : goal.start_scope-enter_scope-requires-clause-emitted
start_scope-enter_scope-requires-clause-emitted t c =
    let ls = c.requires.fits.0 in omega (arith, ls, c.requires.emitted)

pub start_scope-leave_scope-requires-clause-cell : goal.start_scope-leave_scope-requires-clause-cell
start_scope-leave_scope-requires-clause-cell t c =
    let T = table_of (kernel_of c.args.program.now) in
    let τ = cells_in c.args.table.now in
    let at = c.args.at in
    let b0 = c.args.pass.now in
    let K = kernel_of c.args.program.now in
    let s = c.args.signal in
    let ls : s < length b0.cells.signals.items = c.requires.fits.0 in
    let first : T.first s ≡ c.index-signals-signal.result.first = first_is c.signals.result.now K s
    c.index-signals-signal.result c.signals.ensures (omega (arith, ls, c.requires.declared)) c.index-signals-signal.is in
    let cell = cell_with (τ s at.level) false c.index-signals-signal.result.first in
    let d = cell_with (τ s at.level) false (T.first s) in
    let same : cell ≡ d = ap (cell_with (τ s at.level) false) (sym first) in
    let met : MayEnter s cell c.in_ok-outer.field-0 b0 c.enter_scope.new.pass =
    subst (λ x. MayEnter s (cell_with (τ s at.level) false x) c.in_ok-outer.field-0 b0 c.enter_scope.new.pass)
    (sym (ap (λ d. d.first) c.index-signals-signal.is)) c.in_ok-outer.ensures in
    let e = entered s cell c.in_ok-outer.field-0 c.in-Some.outer b0 c.enter_scope.new.pass met c.in-Some.is in
    let k1 = scope_keeps s cell c.in-Some.outer b0 c.enter_scope.new.pass e.1 in
    let kept = kept_both b0 c.enter_scope.new.pass c.start.new.pass k1 (step_keeps T (flat_step T τ (statement_of c.args.p.now) at.depth at.level Start (env_of c.enter_scope.new.pass.cells.signals.items)) c.in_ok-body.field-0 c.in-Some-2.body c.enter_scope.new.pass c.start.new.pass c.in_ok-body.ensures c.in-Some-2.is) in
    subst (λ m. s < m) (sym kept.signals) ls

pub start_scope-leave_scope-requires-clause-emitted : goal.start_scope-leave_scope-requires-clause-emitted
start_scope-leave_scope-requires-clause-emitted t c =
    let T = table_of (kernel_of c.args.program.now) in
    let τ = cells_in c.args.table.now in
    let at = c.args.at in
    let b0 = c.args.pass.now in
    let K = kernel_of c.args.program.now in
    let s = c.args.signal in
    let ls : s < length b0.cells.signals.items = c.requires.fits.0 in
    let first : T.first s ≡ c.index-signals-signal.result.first = first_is c.signals.result.now K s
    c.index-signals-signal.result c.signals.ensures (omega (arith, ls, c.requires.declared)) c.index-signals-signal.is in
    let cell = cell_with (τ s at.level) false c.index-signals-signal.result.first in
    let d = cell_with (τ s at.level) false (T.first s) in
    let same : cell ≡ d = ap (cell_with (τ s at.level) false) (sym first) in
    let met : MayEnter s cell c.in_ok-outer.field-0 b0 c.enter_scope.new.pass =
    subst (λ x. MayEnter s (cell_with (τ s at.level) false x) c.in_ok-outer.field-0 b0 c.enter_scope.new.pass)
    (sym (ap (λ d. d.first) c.index-signals-signal.is)) c.in_ok-outer.ensures in
    let e = entered s cell c.in_ok-outer.field-0 c.in-Some.outer b0 c.enter_scope.new.pass met c.in-Some.is in
    let k1 = scope_keeps s cell c.in-Some.outer b0 c.enter_scope.new.pass e.1 in
    let kept = kept_both b0 c.enter_scope.new.pass c.start.new.pass k1 (step_keeps T (flat_step T τ (statement_of c.args.p.now) at.depth at.level Start (env_of c.enter_scope.new.pass.cells.signals.items)) c.in_ok-body.field-0 c.in-Some-2.body c.enter_scope.new.pass c.start.new.pass c.in_ok-body.ensures c.in-Some-2.is) in
    let le : s < length b0.emitted.items = omega (arith, ls, c.requires.emitted) in
    subst (λ m. s < m) (sym kept.emitted) le
