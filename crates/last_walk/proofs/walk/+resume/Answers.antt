use Rattle.std.proofs.Common.{◌≡◌, sym, ap, ◌∙◌, subst, Some, None, length, add-one, suc}
use Rattle.std.proofs.Common.{◌<◌, ◌+◌, arith}
use Rattle.std.proofs.lemmas.Result.{IfOk-weaker}
use Rattle.host_expr.specs.Expression.{expression_of, optional_expression}
use Rattle.host_expr.specs.Environment.{env_of}
use Rattle.hh_term.specs.Statement.{Emit, If, Suspend, Seq, Par, Loop, Trap, Local, Async}
use Rattle.hh_term.specs.Selection.{Start, Resume, First, Second, Both, Inside, Scope, AtAsync}
use Rattle.hh_term.specs.MustCan.{Table, emitted, table_of}
use Rattle.hh_term.specs.ProgramView.{kernel_of}
use Rattle.hh_term.specs.Step.{emit_step}
use Rattle.hh_term.specs.Views.{statement_of, node_statement, selection_of}
use Rattle.status_table.specs.Flat.{cell_with}
use Rattle.status_table.specs.TableView.{cells_in}
use Rattle.status_table.specs.Walking.{Fits}
use Rattle.status_table.specs.FlatStep.{flat_step}
use Rattle.last_walk.specs.LastWalk.{Did, Walked, in_part}
use Rattle.last_walk.specs.declared.completion.Part.TheVariants as part
use Rattle.last_walk.proofs.Noting.{wrap_did, trap_did}
use Rattle.last_walk.proofs.Walks.{walked_as, resumed_as, no_completion, suspend_open}
use Rattle.last_walk.proofs.Walks.{goes, stops, beside_first_open, beside_second_open, both, first_alone_open}
use Rattle.last_walk.proofs.Walks.{second_alone_open, first_alone, second_alone, scope_unsolved, scope_open}
use Rattle.last_walk.proofs.Walks.{scope_walked}
use Rattle.last_walk.proofs.Unwalked.{async_unwalked, if_unwalked, suspend_unwalked, seq_unwalked}
use Rattle.last_walk.proofs.Unwalked.{par_unwalked}
use Rattle.last_walk.proofs.Unwalked.{loop_unwalked, trap_unwalked, local_unwalked}
use Rattle.last_walk.proofs.Asking.{asked, asked_fits, asked_emitted, asked_declared, end_keeps, step_keeps, scope_keeps}
use Rattle.last_walk.proofs.Asking.{fault_keeps, kept_both, kept_same}
use Rattle.last_walk.proofs.Parts.{asks, walked_ok, not_entered, entered, no_outer}
use Rattle.last_walk.proofs.Resuming.{resumed_ok, fails_ok, holds_ok}
use Rattle.last_walk.proofs.Weight.{weight}
use Rattle.last_walk.proofs.walk.+resume.Goals as goal
use Rattle.last_walk.proofs.walk.+resume.Goals.{resume-in_default-via-in-Async+in_default}
use Rattle.last_walk.proofs.walk.+resume.Goals.{resume-in_default-via-in-If+in_default}
use Rattle.last_walk.proofs.walk.+resume.Goals.{resume-in_default-via-in-Suspend+in_default}
use Rattle.last_walk.proofs.walk.+resume.Goals.{resume-in_default-via-in-Seq+in_default}
use Rattle.last_walk.proofs.walk.+resume.Goals.{resume-in_default-via-in-Par+in_default}
use Rattle.last_walk.proofs.walk.+resume.Goals.{resume-in_default-via-in-Loop+in_default}
use Rattle.last_walk.proofs.walk.+resume.Goals.{resume-in_default-via-in-Trap+in_default}
use Rattle.last_walk.proofs.walk.+resume.Goals.{resume-in_default-via-in-Local+in_default}

pub resume-returns-in-Emit-default : goal.resume-returns-in-Emit-default
resume-returns-in-Emit-default t c =
    let T = table_of (kernel_of c.args.program.now) in
    let τ = cells_in c.args.table.now in
    let at = c.args.at in
    let b0 = c.args.pass.now in
    let s = c.in-Emit-default.s in
    let e = optional_expression c.in-Emit-default.value in
    walked_ok T τ (statement_of c.args.term.now) (Emit s e) at.depth at.level (Resume (selection_of c.args.mark.now)) c.emit.result b0 c.emit.new.pass
    (ap node_statement c.in-Emit-default.is-0)
    (IfOk-weaker c.emit.result (λ r. (U : Table) → Did U (emit_step s (emitted e (env_of b0.cells.signals.items))) r b0 c.emit.new.pass)
    (λ r. Did T (emit_step s (emitted e (env_of b0.cells.signals.items))) r b0 c.emit.new.pass) (λ r h. h T) c.emit.ensures)

pub resume-returns-in_ok-end-in-Async-Async : goal.resume-returns-in_ok-end-in-Async-Async
resume-returns-in_ok-end-in-Async-Async t c =
    let T = table_of (kernel_of c.args.program.now) in
    let τ = cells_in c.args.table.now in
    let at = c.args.at in
    let b0 = c.args.pass.now in
    resumed_as T τ (statement_of c.args.term.now) (Async c.in-Async-Async.n) (Resume (selection_of c.args.mark.now)) (Resume (AtAsync c.in-Async-Async.instance.id c.in-Async-Async.instance.args c.in-Async-Async.instance.queue c.in-Async-Async.instance.suspended)) at.depth at.level (Some c.in_ok-end-in-Async-Async.end) b0 c.resume_async.new.pass
    (ap node_statement c.in-Async-Async.is-0)
    (ap (λ x. Resume (selection_of x)) c.in-Async-Async.is-1)
    (c.in_ok-end-in-Async-Async.ensures)

pub resume-returns-in-None : goal.resume-returns-in-None
resume-returns-in-None t c =
    let T = table_of (kernel_of c.args.program.now) in
    let τ = cells_in c.args.table.now in
    let at = c.args.at in
    let b0 = c.args.pass.now in
    resumed_as T τ (statement_of c.args.term.now) (Suspend (expression_of c.in-Suspend-Inside.condition) (statement_of c.in-Suspend-Inside.p.value)) (Resume (selection_of c.args.mark.now)) (Resume (Inside (selection_of c.in-Suspend-Inside.m.value))) at.depth at.level None b0 c.test.new.pass
    (ap node_statement c.in-Suspend-Inside.is-0)
    (ap (λ x. Resume (selection_of x)) c.in-Suspend-Inside.is-1)
    (suspend_open T τ (expression_of c.in-Suspend-Inside.condition) (statement_of c.in-Suspend-Inside.p.value) (selection_of c.in-Suspend-Inside.m.value) at.depth at.level c.in_ok-test-in-Suspend-Inside.field-0 b0 c.test.new.pass c.test.new.pass (c.in_ok-test-in-Suspend-Inside.ensures.tested T) c.in-None.is)

pub resume-returns-in-If-First : goal.resume-returns-in-If-First
resume-returns-in-If-First t c =
    let T = table_of (kernel_of c.args.program.now) in
    let τ = cells_in c.args.table.now in
    let at = c.args.at in
    let b0 = c.args.pass.now in
    let same : statement_of c.args.term.now ≡ If (expression_of c.in-If-First.field-0-0) (statement_of c.deref.result.now) (statement_of c.in-If-First.field-2-0.value) =
    ap node_statement c.in-If-First.is-0 ∙ ap (λ x. (If (expression_of c.in-If-First.field-0-0) (statement_of x) (statement_of c.in-If-First.field-2-0.value))) (sym c.deref.ensures) in
    let mark : Resume (selection_of c.args.mark.now) ≡ Resume (First (selection_of c.deref-in-If-First.result.now)) =
    ap (λ x. Resume (selection_of x)) c.in-If-First.is-1 ∙ ap (λ x. Resume (First (selection_of x))) (sym c.deref-in-If-First.ensures) in
    resumed_ok T τ (statement_of c.args.term.now) (If (expression_of c.in-If-First.field-0-0) (statement_of c.deref.result.now) (statement_of c.in-If-First.field-2-0.value)) (Resume (selection_of c.args.mark.now)) (Resume (First (selection_of c.deref-in-If-First.result.now))) at.depth at.level c.resume_part.result b0 c.resume_part.new.pass same mark
    c.resume_part.ensures

pub resume-resume_part-requires : goal.resume-resume_part-requires
resume-resume_part-requires t c =
    let T = table_of (kernel_of c.args.program.now) in
    let τ = cells_in c.args.table.now in
    let at = c.args.at in
    let b0 = c.args.pass.now in
    let rows = length c.args.table.now.rows.items in
    let n = length (kernel_of c.args.program.now).signals in
    let same : statement_of c.args.term.now ≡ If (expression_of c.in-If-First.field-0-0) (statement_of c.deref.result.now) (statement_of c.in-If-First.field-2-0.value) =
    ap node_statement c.in-If-First.is-0 ∙ ap (λ x. (If (expression_of c.in-If-First.field-0-0) (statement_of x) (statement_of c.in-If-First.field-2-0.value))) (sym c.deref.ensures) in
    let fits = subst (Fits (length b0.cells.signals.items) rows at.depth) same c.requires.fits in
    let w : weight (statement_of c.args.term.now) ≡ weight (statement_of c.deref.result.now) + weight (statement_of c.in-If-First.field-2-0.value) + 1 = ap weight same in
    (omega (arith, w), asks rows n at.depth (statement_of c.deref.result.now) (statement_of c.deref.result.now) b0 b0 (λ i. (statement_of c.deref.result.now)) (kept_same b0) fits.0 c.requires.emitted c.requires.args c.requires.declared c.requires.depth)

pub resume-returns-in-If-Second : goal.resume-returns-in-If-Second
resume-returns-in-If-Second t c =
    let T = table_of (kernel_of c.args.program.now) in
    let τ = cells_in c.args.table.now in
    let at = c.args.at in
    let b0 = c.args.pass.now in
    let same : statement_of c.args.term.now ≡ If (expression_of c.in-If-Second.field-0-0) (statement_of c.in-If-Second.field-1-0.value) (statement_of c.deref-in-If-Second.result.now) =
    ap node_statement c.in-If-Second.is-0 ∙ ap (λ x. (If (expression_of c.in-If-Second.field-0-0) (statement_of c.in-If-Second.field-1-0.value) (statement_of x))) (sym c.deref-in-If-Second.ensures) in
    let mark : Resume (selection_of c.args.mark.now) ≡ Resume (Second (selection_of c.deref-in-If-Second-2.result.now)) =
    ap (λ x. Resume (selection_of x)) c.in-If-Second.is-1 ∙ ap (λ x. Resume (Second (selection_of x))) (sym c.deref-in-If-Second-2.ensures) in
    resumed_ok T τ (statement_of c.args.term.now) (If (expression_of c.in-If-Second.field-0-0) (statement_of c.in-If-Second.field-1-0.value) (statement_of c.deref-in-If-Second.result.now)) (Resume (selection_of c.args.mark.now)) (Resume (Second (selection_of c.deref-in-If-Second-2.result.now))) at.depth at.level c.resume_part-in-If-Second.result b0 c.resume_part-in-If-Second.new.pass same mark
    c.resume_part-in-If-Second.ensures

pub resume-resume_part-requires-in-If-Second : goal.resume-resume_part-requires-in-If-Second
resume-resume_part-requires-in-If-Second t c =
    let T = table_of (kernel_of c.args.program.now) in
    let τ = cells_in c.args.table.now in
    let at = c.args.at in
    let b0 = c.args.pass.now in
    let rows = length c.args.table.now.rows.items in
    let n = length (kernel_of c.args.program.now).signals in
    let same : statement_of c.args.term.now ≡ If (expression_of c.in-If-Second.field-0-0) (statement_of c.in-If-Second.field-1-0.value) (statement_of c.deref-in-If-Second.result.now) =
    ap node_statement c.in-If-Second.is-0 ∙ ap (λ x. (If (expression_of c.in-If-Second.field-0-0) (statement_of c.in-If-Second.field-1-0.value) (statement_of x))) (sym c.deref-in-If-Second.ensures) in
    let fits = subst (Fits (length b0.cells.signals.items) rows at.depth) same c.requires.fits in
    let w : weight (statement_of c.args.term.now) ≡ weight (statement_of c.in-If-Second.field-1-0.value) + weight (statement_of c.deref-in-If-Second.result.now) + 1 = ap weight same in
    (omega (arith, w), asks rows n at.depth (statement_of c.deref-in-If-Second.result.now) (statement_of c.deref-in-If-Second.result.now) b0 b0 (λ i. (statement_of c.deref-in-If-Second.result.now)) (kept_same b0) fits.1 c.requires.emitted c.requires.args c.requires.declared c.requires.depth)

pub resume-returns-in-Some-true : goal.resume-returns-in-Some-true
resume-returns-in-Some-true t c =
    let T = table_of (kernel_of c.args.program.now) in
    let τ = cells_in c.args.table.now in
    let at = c.args.at in
    let b0 = c.args.pass.now in
    let same : statement_of c.args.term.now ≡ Suspend (expression_of c.in-Suspend-Inside.condition) (statement_of c.deref-in-Some-true.result.now) =
    ap node_statement c.in-Suspend-Inside.is-0 ∙ ap (λ x. (Suspend (expression_of c.in-Suspend-Inside.condition) (statement_of x))) (sym c.deref-in-Some-true.ensures) in
    let mark : Resume (selection_of c.args.mark.now) ≡ Resume (Inside (selection_of c.deref-in-Some-true-2.result.now)) =
    ap (λ x. Resume (selection_of x)) c.in-Suspend-Inside.is-1 ∙ ap (λ x. Resume (Inside (selection_of x))) (sym c.deref-in-Some-true-2.ensures) in
    resumed_ok T τ (statement_of c.args.term.now) (Suspend (expression_of c.in-Suspend-Inside.condition) (statement_of c.deref-in-Some-true.result.now)) (Resume (selection_of c.args.mark.now)) (Resume (Inside (selection_of c.deref-in-Some-true-2.result.now))) at.depth at.level c.hold.result b0 c.hold.new.pass same mark
    (holds_ok T τ (expression_of c.in-Suspend-Inside.condition) (statement_of c.deref-in-Some-true.result.now) (selection_of c.deref-in-Some-true-2.result.now) at.depth at.level c.in_ok-test-in-Suspend-Inside.field-0 c.hold.result b0 c.test.new.pass c.hold.new.pass
    (c.in_ok-test-in-Suspend-Inside.ensures.tested T) (c.in-Some-true.is ∙ ap Some c.in-Some-true.field-0-test) c.hold.ensures)

pub resume-returns-in-Some-false : goal.resume-returns-in-Some-false
resume-returns-in-Some-false t c =
    let T = table_of (kernel_of c.args.program.now) in
    let τ = cells_in c.args.table.now in
    let at = c.args.at in
    let b0 = c.args.pass.now in
    let same : statement_of c.args.term.now ≡ Suspend (expression_of c.in-Suspend-Inside.condition) (statement_of c.deref-in-Some-false.result.now) =
    ap node_statement c.in-Suspend-Inside.is-0 ∙ ap (λ x. (Suspend (expression_of c.in-Suspend-Inside.condition) (statement_of x))) (sym c.deref-in-Some-false.ensures) in
    let mark : Resume (selection_of c.args.mark.now) ≡ Resume (Inside (selection_of c.deref-in-Some-false-2.result.now)) =
    ap (λ x. Resume (selection_of x)) c.in-Suspend-Inside.is-1 ∙ ap (λ x. Resume (Inside (selection_of x))) (sym c.deref-in-Some-false-2.ensures) in
    resumed_ok T τ (statement_of c.args.term.now) (Suspend (expression_of c.in-Suspend-Inside.condition) (statement_of c.deref-in-Some-false.result.now)) (Resume (selection_of c.args.mark.now)) (Resume (Inside (selection_of c.deref-in-Some-false-2.result.now))) at.depth at.level c.resume_part-in-Some-false.result b0 c.resume_part-in-Some-false.new.pass same mark
    (fails_ok T τ (expression_of c.in-Suspend-Inside.condition) (statement_of c.deref-in-Some-false.result.now) (selection_of c.deref-in-Some-false-2.result.now) at.depth at.level c.in_ok-test-in-Suspend-Inside.field-0 c.resume_part-in-Some-false.result b0 c.test.new.pass c.resume_part-in-Some-false.new.pass
    (c.in_ok-test-in-Suspend-Inside.ensures.tested T) (c.in-Some-false.is ∙ ap Some c.in-Some-false.field-0-test) c.resume_part-in-Some-false.ensures)

pub resume-resume_part-requires-in-Some-false : goal.resume-resume_part-requires-in-Some-false
resume-resume_part-requires-in-Some-false t c =
    let T = table_of (kernel_of c.args.program.now) in
    let τ = cells_in c.args.table.now in
    let at = c.args.at in
    let b0 = c.args.pass.now in
    let rows = length c.args.table.now.rows.items in
    let n = length (kernel_of c.args.program.now).signals in
    let same : statement_of c.args.term.now ≡ Suspend (expression_of c.in-Suspend-Inside.condition) (statement_of c.deref-in-Some-false.result.now) =
    ap node_statement c.in-Suspend-Inside.is-0 ∙ ap (λ x. (Suspend (expression_of c.in-Suspend-Inside.condition) (statement_of x))) (sym c.deref-in-Some-false.ensures) in
    let fits = subst (Fits (length b0.cells.signals.items) rows at.depth) same c.requires.fits in
    let w : weight (statement_of c.args.term.now) ≡ weight (statement_of c.deref-in-Some-false.result.now) + 1 = ap weight same in
    (omega (arith, w), asks rows n at.depth (statement_of c.deref-in-Some-false.result.now) (statement_of c.deref-in-Some-false.result.now) b0 c.test.new.pass (λ i. (statement_of c.deref-in-Some-false.result.now)) (fault_keeps b0 c.test.new.pass c.in_ok-test-in-Suspend-Inside.ensures.same) fits c.requires.emitted c.requires.args c.requires.declared c.requires.depth)

pub resume-returns-in-Seq-First : goal.resume-returns-in-Seq-First
resume-returns-in-Seq-First t c =
    let T = table_of (kernel_of c.args.program.now) in
    let τ = cells_in c.args.table.now in
    let at = c.args.at in
    let b0 = c.args.pass.now in
    let same : statement_of c.args.term.now ≡ Seq (statement_of c.deref-in-Seq-First.result.now) (statement_of c.deref-in-Seq-First-3.result.now) =
    ap node_statement c.in-Seq-First.is-0 ∙ ap (λ x. (Seq (statement_of x) (statement_of c.in-Seq-First.q.value))) (sym c.deref-in-Seq-First.ensures) ∙ ap (λ x. (Seq (statement_of c.deref-in-Seq-First.result.now) (statement_of x))) (sym c.deref-in-Seq-First-3.ensures) in
    let mark : Resume (selection_of c.args.mark.now) ≡ Resume (First (selection_of c.deref-in-Seq-First-2.result.now)) =
    ap (λ x. Resume (selection_of x)) c.in-Seq-First.is-1 ∙ ap (λ x. Resume (First (selection_of x))) (sym c.deref-in-Seq-First-2.ensures) in
    resumed_ok T τ (statement_of c.args.term.now) (Seq (statement_of c.deref-in-Seq-First.result.now) (statement_of c.deref-in-Seq-First-3.result.now)) (Resume (selection_of c.args.mark.now)) (Resume (First (selection_of c.deref-in-Seq-First-2.result.now))) at.depth at.level c.resume_first.result b0 c.resume_first.new.pass same mark
    c.resume_first.ensures

pub resume-resume_first-requires : goal.resume-resume_first-requires
resume-resume_first-requires t c =
    let T = table_of (kernel_of c.args.program.now) in
    let τ = cells_in c.args.table.now in
    let at = c.args.at in
    let b0 = c.args.pass.now in
    let rows = length c.args.table.now.rows.items in
    let n = length (kernel_of c.args.program.now).signals in
    let same : statement_of c.args.term.now ≡ Seq (statement_of c.deref-in-Seq-First.result.now) (statement_of c.deref-in-Seq-First-3.result.now) =
    ap node_statement c.in-Seq-First.is-0 ∙ ap (λ x. (Seq (statement_of x) (statement_of c.in-Seq-First.q.value))) (sym c.deref-in-Seq-First.ensures) ∙ ap (λ x. (Seq (statement_of c.deref-in-Seq-First.result.now) (statement_of x))) (sym c.deref-in-Seq-First-3.ensures) in
    let fits = subst (Fits (length b0.cells.signals.items) rows at.depth) same c.requires.fits in
    let w : weight (statement_of c.args.term.now) ≡ weight (statement_of c.deref-in-Seq-First.result.now) + weight (statement_of c.deref-in-Seq-First-3.result.now) + 1 = ap weight same in
    (omega (arith, w), asks rows n at.depth (Seq (statement_of c.deref-in-Seq-First.result.now) (statement_of c.deref-in-Seq-First-3.result.now)) (Seq (statement_of c.deref-in-Seq-First.result.now) (statement_of c.deref-in-Seq-First-3.result.now)) b0 b0 (λ i. (Seq (statement_of c.deref-in-Seq-First.result.now) (statement_of c.deref-in-Seq-First-3.result.now))) (kept_same b0) fits c.requires.emitted c.requires.args c.requires.declared c.requires.depth)

pub resume-returns-in-Seq-Second : goal.resume-returns-in-Seq-Second
resume-returns-in-Seq-Second t c =
    let T = table_of (kernel_of c.args.program.now) in
    let τ = cells_in c.args.table.now in
    let at = c.args.at in
    let b0 = c.args.pass.now in
    let same : statement_of c.args.term.now ≡ Seq (statement_of c.in-Seq-Second.field-0-0.value) (statement_of c.deref-in-Seq-Second.result.now) =
    ap node_statement c.in-Seq-Second.is-0 ∙ ap (λ x. (Seq (statement_of c.in-Seq-Second.field-0-0.value) (statement_of x))) (sym c.deref-in-Seq-Second.ensures) in
    let mark : Resume (selection_of c.args.mark.now) ≡ Resume (Second (selection_of c.deref-in-Seq-Second-2.result.now)) =
    ap (λ x. Resume (selection_of x)) c.in-Seq-Second.is-1 ∙ ap (λ x. Resume (Second (selection_of x))) (sym c.deref-in-Seq-Second-2.ensures) in
    resumed_ok T τ (statement_of c.args.term.now) (Seq (statement_of c.in-Seq-Second.field-0-0.value) (statement_of c.deref-in-Seq-Second.result.now)) (Resume (selection_of c.args.mark.now)) (Resume (Second (selection_of c.deref-in-Seq-Second-2.result.now))) at.depth at.level c.resume_part-in-Seq-Second.result b0 c.resume_part-in-Seq-Second.new.pass same mark
    c.resume_part-in-Seq-Second.ensures

pub resume-resume_part-requires-in-Seq-Second : goal.resume-resume_part-requires-in-Seq-Second
resume-resume_part-requires-in-Seq-Second t c =
    let T = table_of (kernel_of c.args.program.now) in
    let τ = cells_in c.args.table.now in
    let at = c.args.at in
    let b0 = c.args.pass.now in
    let rows = length c.args.table.now.rows.items in
    let n = length (kernel_of c.args.program.now).signals in
    let same : statement_of c.args.term.now ≡ Seq (statement_of c.in-Seq-Second.field-0-0.value) (statement_of c.deref-in-Seq-Second.result.now) =
    ap node_statement c.in-Seq-Second.is-0 ∙ ap (λ x. (Seq (statement_of c.in-Seq-Second.field-0-0.value) (statement_of x))) (sym c.deref-in-Seq-Second.ensures) in
    let fits = subst (Fits (length b0.cells.signals.items) rows at.depth) same c.requires.fits in
    let w : weight (statement_of c.args.term.now) ≡ weight (statement_of c.in-Seq-Second.field-0-0.value) + weight (statement_of c.deref-in-Seq-Second.result.now) + 1 = ap weight same in
    (omega (arith, w), asks rows n at.depth (statement_of c.deref-in-Seq-Second.result.now) (statement_of c.deref-in-Seq-Second.result.now) b0 b0 (λ i. (statement_of c.deref-in-Seq-Second.result.now)) (kept_same b0) fits.1 c.requires.emitted c.requires.args c.requires.declared c.requires.depth)

pub resume-returns-in-Par-First : goal.resume-returns-in-Par-First
resume-returns-in-Par-First t c =
    let T = table_of (kernel_of c.args.program.now) in
    let τ = cells_in c.args.table.now in
    let at = c.args.at in
    let b0 = c.args.pass.now in
    let same : statement_of c.args.term.now ≡ Par (statement_of c.deref-in-Par-First.result.now) (statement_of c.in-Par-First.field-1-0.value) =
    ap node_statement c.in-Par-First.is-0 ∙ ap (λ x. (Par (statement_of x) (statement_of c.in-Par-First.field-1-0.value))) (sym c.deref-in-Par-First.ensures) in
    let mark : Resume (selection_of c.args.mark.now) ≡ Resume (First (selection_of c.deref-in-Par-First-2.result.now)) =
    ap (λ x. Resume (selection_of x)) c.in-Par-First.is-1 ∙ ap (λ x. Resume (First (selection_of x))) (sym c.deref-in-Par-First-2.ensures) in
    resumed_ok T τ (statement_of c.args.term.now) (Par (statement_of c.deref-in-Par-First.result.now) (statement_of c.in-Par-First.field-1-0.value)) (Resume (selection_of c.args.mark.now)) (Resume (First (selection_of c.deref-in-Par-First-2.result.now))) at.depth at.level c.resume_left.result b0 c.resume_left.new.pass same mark
    (c.resume_left.ensures (statement_of c.in-Par-First.field-1-0.value))

pub resume-resume_left-requires : goal.resume-resume_left-requires
resume-resume_left-requires t c =
    let T = table_of (kernel_of c.args.program.now) in
    let τ = cells_in c.args.table.now in
    let at = c.args.at in
    let b0 = c.args.pass.now in
    let rows = length c.args.table.now.rows.items in
    let n = length (kernel_of c.args.program.now).signals in
    let same : statement_of c.args.term.now ≡ Par (statement_of c.deref-in-Par-First.result.now) (statement_of c.in-Par-First.field-1-0.value) =
    ap node_statement c.in-Par-First.is-0 ∙ ap (λ x. (Par (statement_of x) (statement_of c.in-Par-First.field-1-0.value))) (sym c.deref-in-Par-First.ensures) in
    let fits = subst (Fits (length b0.cells.signals.items) rows at.depth) same c.requires.fits in
    let w : weight (statement_of c.args.term.now) ≡ weight (statement_of c.deref-in-Par-First.result.now) + weight (statement_of c.in-Par-First.field-1-0.value) + 1 = ap weight same in
    (omega (arith, w), asks rows n at.depth (statement_of c.deref-in-Par-First.result.now) (statement_of c.deref-in-Par-First.result.now) b0 b0 (λ i. (statement_of c.deref-in-Par-First.result.now)) (kept_same b0) fits.0 c.requires.emitted c.requires.args c.requires.declared c.requires.depth)

pub resume-returns-in-Par-Second : goal.resume-returns-in-Par-Second
resume-returns-in-Par-Second t c =
    let T = table_of (kernel_of c.args.program.now) in
    let τ = cells_in c.args.table.now in
    let at = c.args.at in
    let b0 = c.args.pass.now in
    let same : statement_of c.args.term.now ≡ Par (statement_of c.in-Par-Second.field-0-0.value) (statement_of c.deref-in-Par-Second.result.now) =
    ap node_statement c.in-Par-Second.is-0 ∙ ap (λ x. (Par (statement_of c.in-Par-Second.field-0-0.value) (statement_of x))) (sym c.deref-in-Par-Second.ensures) in
    let mark : Resume (selection_of c.args.mark.now) ≡ Resume (Second (selection_of c.deref-in-Par-Second-2.result.now)) =
    ap (λ x. Resume (selection_of x)) c.in-Par-Second.is-1 ∙ ap (λ x. Resume (Second (selection_of x))) (sym c.deref-in-Par-Second-2.ensures) in
    resumed_ok T τ (statement_of c.args.term.now) (Par (statement_of c.in-Par-Second.field-0-0.value) (statement_of c.deref-in-Par-Second.result.now)) (Resume (selection_of c.args.mark.now)) (Resume (Second (selection_of c.deref-in-Par-Second-2.result.now))) at.depth at.level c.resume_right.result b0 c.resume_right.new.pass same mark
    (c.resume_right.ensures (statement_of c.in-Par-Second.field-0-0.value))

pub resume-resume_right-requires : goal.resume-resume_right-requires
resume-resume_right-requires t c =
    let T = table_of (kernel_of c.args.program.now) in
    let τ = cells_in c.args.table.now in
    let at = c.args.at in
    let b0 = c.args.pass.now in
    let rows = length c.args.table.now.rows.items in
    let n = length (kernel_of c.args.program.now).signals in
    let same : statement_of c.args.term.now ≡ Par (statement_of c.in-Par-Second.field-0-0.value) (statement_of c.deref-in-Par-Second.result.now) =
    ap node_statement c.in-Par-Second.is-0 ∙ ap (λ x. (Par (statement_of c.in-Par-Second.field-0-0.value) (statement_of x))) (sym c.deref-in-Par-Second.ensures) in
    let fits = subst (Fits (length b0.cells.signals.items) rows at.depth) same c.requires.fits in
    let w : weight (statement_of c.args.term.now) ≡ weight (statement_of c.in-Par-Second.field-0-0.value) + weight (statement_of c.deref-in-Par-Second.result.now) + 1 = ap weight same in
    (omega (arith, w), asks rows n at.depth (statement_of c.deref-in-Par-Second.result.now) (statement_of c.deref-in-Par-Second.result.now) b0 b0 (λ i. (statement_of c.deref-in-Par-Second.result.now)) (kept_same b0) fits.1 c.requires.emitted c.requires.args c.requires.declared c.requires.depth)

pub resume-returns-in-Par-Both : goal.resume-returns-in-Par-Both
resume-returns-in-Par-Both t c =
    let T = table_of (kernel_of c.args.program.now) in
    let τ = cells_in c.args.table.now in
    let at = c.args.at in
    let b0 = c.args.pass.now in
    let same : statement_of c.args.term.now ≡ Par (statement_of c.deref-in-Par-Both.result.now) (statement_of c.deref-in-Par-Both-3.result.now) =
    ap node_statement c.in-Par-Both.is-0 ∙ ap (λ x. (Par (statement_of x) (statement_of c.in-Par-Both.q.value))) (sym c.deref-in-Par-Both.ensures) ∙ ap (λ x. (Par (statement_of c.deref-in-Par-Both.result.now) (statement_of x))) (sym c.deref-in-Par-Both-3.ensures) in
    let mark : Resume (selection_of c.args.mark.now) ≡ Resume (Both (selection_of c.deref-in-Par-Both-2.result.now) (selection_of c.deref-in-Par-Both-4.result.now)) =
    ap (λ x. Resume (selection_of x)) c.in-Par-Both.is-1 ∙ ap (λ x. Resume (Both (selection_of x) (selection_of c.in-Par-Both.n.value))) (sym c.deref-in-Par-Both-2.ensures) ∙ ap (λ x. Resume (Both (selection_of c.deref-in-Par-Both-2.result.now) (selection_of x))) (sym c.deref-in-Par-Both-4.ensures) in
    resumed_ok T τ (statement_of c.args.term.now) (Par (statement_of c.deref-in-Par-Both.result.now) (statement_of c.deref-in-Par-Both-3.result.now)) (Resume (selection_of c.args.mark.now)) (Resume (Both (selection_of c.deref-in-Par-Both-2.result.now) (selection_of c.deref-in-Par-Both-4.result.now))) at.depth at.level c.resume_fork.result b0 c.resume_fork.new.pass same mark
    c.resume_fork.ensures

pub resume-resume_fork-requires : goal.resume-resume_fork-requires
resume-resume_fork-requires t c =
    let T = table_of (kernel_of c.args.program.now) in
    let τ = cells_in c.args.table.now in
    let at = c.args.at in
    let b0 = c.args.pass.now in
    let rows = length c.args.table.now.rows.items in
    let n = length (kernel_of c.args.program.now).signals in
    let same : statement_of c.args.term.now ≡ Par (statement_of c.deref-in-Par-Both.result.now) (statement_of c.deref-in-Par-Both-3.result.now) =
    ap node_statement c.in-Par-Both.is-0 ∙ ap (λ x. (Par (statement_of x) (statement_of c.in-Par-Both.q.value))) (sym c.deref-in-Par-Both.ensures) ∙ ap (λ x. (Par (statement_of c.deref-in-Par-Both.result.now) (statement_of x))) (sym c.deref-in-Par-Both-3.ensures) in
    let fits = subst (Fits (length b0.cells.signals.items) rows at.depth) same c.requires.fits in
    let w : weight (statement_of c.args.term.now) ≡ weight (statement_of c.deref-in-Par-Both.result.now) + weight (statement_of c.deref-in-Par-Both-3.result.now) + 1 = ap weight same in
    (omega (arith, w), asks rows n at.depth (Par (statement_of c.deref-in-Par-Both.result.now) (statement_of c.deref-in-Par-Both-3.result.now)) (Par (statement_of c.deref-in-Par-Both.result.now) (statement_of c.deref-in-Par-Both-3.result.now)) b0 b0 (λ i. (Par (statement_of c.deref-in-Par-Both.result.now) (statement_of c.deref-in-Par-Both-3.result.now))) (kept_same b0) fits c.requires.emitted c.requires.args c.requires.declared c.requires.depth)

pub resume-returns-in-Loop-Inside : goal.resume-returns-in-Loop-Inside
resume-returns-in-Loop-Inside t c =
    let T = table_of (kernel_of c.args.program.now) in
    let τ = cells_in c.args.table.now in
    let at = c.args.at in
    let b0 = c.args.pass.now in
    let same : statement_of c.args.term.now ≡ Loop (statement_of c.deref-in-Loop-Inside.result.now) =
    ap node_statement c.in-Loop-Inside.is-0 ∙ ap (λ x. (Loop (statement_of x))) (sym c.deref-in-Loop-Inside.ensures) in
    let mark : Resume (selection_of c.args.mark.now) ≡ Resume (Inside (selection_of c.deref-in-Loop-Inside-2.result.now)) =
    ap (λ x. Resume (selection_of x)) c.in-Loop-Inside.is-1 ∙ ap (λ x. Resume (Inside (selection_of x))) (sym c.deref-in-Loop-Inside-2.ensures) in
    resumed_ok T τ (statement_of c.args.term.now) (Loop (statement_of c.deref-in-Loop-Inside.result.now)) (Resume (selection_of c.args.mark.now)) (Resume (Inside (selection_of c.deref-in-Loop-Inside-2.result.now))) at.depth at.level c.resume_loop.result b0 c.resume_loop.new.pass same mark
    c.resume_loop.ensures

pub resume-resume_loop-requires : goal.resume-resume_loop-requires
resume-resume_loop-requires t c =
    let T = table_of (kernel_of c.args.program.now) in
    let τ = cells_in c.args.table.now in
    let at = c.args.at in
    let b0 = c.args.pass.now in
    let rows = length c.args.table.now.rows.items in
    let n = length (kernel_of c.args.program.now).signals in
    let same : statement_of c.args.term.now ≡ Loop (statement_of c.deref-in-Loop-Inside.result.now) =
    ap node_statement c.in-Loop-Inside.is-0 ∙ ap (λ x. (Loop (statement_of x))) (sym c.deref-in-Loop-Inside.ensures) in
    let fits = subst (Fits (length b0.cells.signals.items) rows at.depth) same c.requires.fits in
    let w : weight (statement_of c.args.term.now) ≡ weight (statement_of c.deref-in-Loop-Inside.result.now) + 1 = ap weight same in
    (omega (arith, w), asks rows n at.depth (Loop (statement_of c.deref-in-Loop-Inside.result.now)) (Loop (statement_of c.deref-in-Loop-Inside.result.now)) b0 b0 (λ i. (Loop (statement_of c.deref-in-Loop-Inside.result.now))) (kept_same b0) fits c.requires.emitted c.requires.args c.requires.declared c.requires.depth)

pub resume-returns-in-Trap-Inside : goal.resume-returns-in-Trap-Inside
resume-returns-in-Trap-Inside t c =
    let T = table_of (kernel_of c.args.program.now) in
    let τ = cells_in c.args.table.now in
    let at = c.args.at in
    let b0 = c.args.pass.now in
    let same : statement_of c.args.term.now ≡ Trap (statement_of c.deref-in-Trap-Inside.result.now) =
    ap node_statement c.in-Trap-Inside.is-0 ∙ ap (λ x. (Trap (statement_of x))) (sym c.deref-in-Trap-Inside.ensures) in
    let mark : Resume (selection_of c.args.mark.now) ≡ Resume (Inside (selection_of c.deref-in-Trap-Inside-2.result.now)) =
    ap (λ x. Resume (selection_of x)) c.in-Trap-Inside.is-1 ∙ ap (λ x. Resume (Inside (selection_of x))) (sym c.deref-in-Trap-Inside-2.ensures) in
    resumed_ok T τ (statement_of c.args.term.now) (Trap (statement_of c.deref-in-Trap-Inside.result.now)) (Resume (selection_of c.args.mark.now)) (Resume (Inside (selection_of c.deref-in-Trap-Inside-2.result.now))) at.depth at.level c.resume_trap.result b0 c.resume_trap.new.pass same mark
    c.resume_trap.ensures

pub resume-resume_trap-requires : goal.resume-resume_trap-requires
resume-resume_trap-requires t c =
    let T = table_of (kernel_of c.args.program.now) in
    let τ = cells_in c.args.table.now in
    let at = c.args.at in
    let b0 = c.args.pass.now in
    let rows = length c.args.table.now.rows.items in
    let n = length (kernel_of c.args.program.now).signals in
    let same : statement_of c.args.term.now ≡ Trap (statement_of c.deref-in-Trap-Inside.result.now) =
    ap node_statement c.in-Trap-Inside.is-0 ∙ ap (λ x. (Trap (statement_of x))) (sym c.deref-in-Trap-Inside.ensures) in
    let fits = subst (Fits (length b0.cells.signals.items) rows at.depth) same c.requires.fits in
    let w : weight (statement_of c.args.term.now) ≡ weight (statement_of c.deref-in-Trap-Inside.result.now) + 1 = ap weight same in
    (omega (arith, w), asks rows n at.depth (Trap (statement_of c.deref-in-Trap-Inside.result.now)) (Trap (statement_of c.deref-in-Trap-Inside.result.now)) b0 b0 (λ i. (Trap (statement_of c.deref-in-Trap-Inside.result.now))) (kept_same b0) fits c.requires.emitted c.requires.args c.requires.declared c.requires.depth)

pub resume-returns-in-Local-Local : goal.resume-returns-in-Local-Local
resume-returns-in-Local-Local t c =
    let T = table_of (kernel_of c.args.program.now) in
    let τ = cells_in c.args.table.now in
    let at = c.args.at in
    let b0 = c.args.pass.now in
    let same : statement_of c.args.term.now ≡ Local c.in-Local-Local.s (statement_of c.deref-in-Local-Local.result.now) =
    ap node_statement c.in-Local-Local.is-0 ∙ ap (λ x. (Local c.in-Local-Local.s (statement_of x))) (sym c.deref-in-Local-Local.ensures) in
    let mark : Resume (selection_of c.args.mark.now) ≡ Resume (Scope (selection_of c.deref-in-Local-Local-2.result.now) c.in-Local-Local.pre c.in-Local-Local.before) =
    ap (λ x. Resume (selection_of x)) c.in-Local-Local.is-1 ∙ ap (λ x. Resume (Scope (selection_of x) c.in-Local-Local.pre c.in-Local-Local.before)) (sym c.deref-in-Local-Local-2.ensures) in
    resumed_ok T τ (statement_of c.args.term.now) (Local c.in-Local-Local.s (statement_of c.deref-in-Local-Local.result.now)) (Resume (selection_of c.args.mark.now)) (Resume (Scope (selection_of c.deref-in-Local-Local-2.result.now) c.in-Local-Local.pre c.in-Local-Local.before)) at.depth at.level c.resume_scope.result b0 c.resume_scope.new.pass same mark
    c.resume_scope.ensures

pub resume-resume_scope-requires : goal.resume-resume_scope-requires
resume-resume_scope-requires t c =
    let T = table_of (kernel_of c.args.program.now) in
    let τ = cells_in c.args.table.now in
    let at = c.args.at in
    let b0 = c.args.pass.now in
    let rows = length c.args.table.now.rows.items in
    let n = length (kernel_of c.args.program.now).signals in
    let same : statement_of c.args.term.now ≡ Local c.in-Local-Local.s (statement_of c.deref-in-Local-Local.result.now) =
    ap node_statement c.in-Local-Local.is-0 ∙ ap (λ x. (Local c.in-Local-Local.s (statement_of x))) (sym c.deref-in-Local-Local.ensures) in
    let fits = subst (Fits (length b0.cells.signals.items) rows at.depth) same c.requires.fits in
    let w : weight (statement_of c.args.term.now) ≡ weight (statement_of c.deref-in-Local-Local.result.now) + 1 = ap weight same in
    (omega (arith, w), asks rows n at.depth (Local c.in-Local-Local.s (statement_of c.deref-in-Local-Local.result.now)) (Local c.in-Local-Local.s (statement_of c.deref-in-Local-Local.result.now)) b0 b0 (λ i. (Local c.in-Local-Local.s (statement_of c.deref-in-Local-Local.result.now))) (kept_same b0) fits c.requires.emitted c.requires.args c.requires.declared c.requires.depth)

pub resume-returns-in_default : goal.resume-returns-in_default
resume-returns-in_default t c =
    let T = table_of (kernel_of c.args.program.now) in
    let τ = cells_in c.args.table.now in
    let at = c.args.at in
    let b0 = c.args.pass.now in
    elim c.in_default.branch [
      | resume-in_default-via-in-Async+in_default w ↦ walked_as T τ (statement_of c.args.term.now) (Async w.in_default.field-0-0) at.depth at.level
          (Resume (selection_of c.args.mark.now)) None b0 b0 (ap node_statement w.in_default.is-0)
          (async_unwalked T τ at.depth at.level b0 b0 w.in_default.field-0-0 c.args.mark.now w.in_default.not-Async-1)
      | resume-in_default-via-in-If+in_default w ↦ walked_as T τ (statement_of c.args.term.now) (If (expression_of w.in_default.field-0-0) (statement_of w.in_default.field-1-0.value) (statement_of w.in_default.field-2-0.value)) at.depth at.level
          (Resume (selection_of c.args.mark.now)) None b0 b0 (ap node_statement w.in_default.is-0)
          (if_unwalked T τ at.depth at.level b0 b0 (expression_of w.in_default.field-0-0) (statement_of w.in_default.field-1-0.value) (statement_of w.in_default.field-2-0.value) c.args.mark.now w.in_default.not-First-1 w.in_default.not-Second-1)
      | resume-in_default-via-in-Suspend+in_default w ↦ walked_as T τ (statement_of c.args.term.now) (Suspend (expression_of w.in_default.field-0-0) (statement_of w.in_default.field-1-0.value)) at.depth at.level
          (Resume (selection_of c.args.mark.now)) None b0 b0 (ap node_statement w.in_default.is-0)
          (suspend_unwalked T τ at.depth at.level b0 b0 (expression_of w.in_default.field-0-0) (statement_of w.in_default.field-1-0.value) c.args.mark.now w.in_default.not-Inside-1)
      | resume-in_default-via-in-Seq+in_default w ↦ walked_as T τ (statement_of c.args.term.now) (Seq (statement_of w.in_default.field-0-0.value) (statement_of w.in_default.field-1-0.value)) at.depth at.level
          (Resume (selection_of c.args.mark.now)) None b0 b0 (ap node_statement w.in_default.is-0)
          (seq_unwalked T τ at.depth at.level b0 b0 (statement_of w.in_default.field-0-0.value) (statement_of w.in_default.field-1-0.value) c.args.mark.now w.in_default.not-First-1 w.in_default.not-Second-1)
      | resume-in_default-via-in-Par+in_default w ↦ walked_as T τ (statement_of c.args.term.now) (Par (statement_of w.in_default.field-0-0.value) (statement_of w.in_default.field-1-0.value)) at.depth at.level
          (Resume (selection_of c.args.mark.now)) None b0 b0 (ap node_statement w.in_default.is-0)
          (par_unwalked T τ at.depth at.level b0 b0 (statement_of w.in_default.field-0-0.value) (statement_of w.in_default.field-1-0.value) c.args.mark.now w.in_default.not-First-1 w.in_default.not-Second-1 w.in_default.not-Both-1)
      | resume-in_default-via-in-Loop+in_default w ↦ walked_as T τ (statement_of c.args.term.now) (Loop (statement_of w.in_default.field-0-0.value)) at.depth at.level
          (Resume (selection_of c.args.mark.now)) None b0 b0 (ap node_statement w.in_default.is-0)
          (loop_unwalked T τ at.depth at.level b0 b0 (statement_of w.in_default.field-0-0.value) c.args.mark.now w.in_default.not-Inside-1)
      | resume-in_default-via-in-Trap+in_default w ↦ walked_as T τ (statement_of c.args.term.now) (Trap (statement_of w.in_default.field-0-0.value)) at.depth at.level
          (Resume (selection_of c.args.mark.now)) None b0 b0 (ap node_statement w.in_default.is-0)
          (trap_unwalked T τ at.depth at.level b0 b0 (statement_of w.in_default.field-0-0.value) c.args.mark.now w.in_default.not-Inside-1)
      | resume-in_default-via-in-Local+in_default w ↦ walked_as T τ (statement_of c.args.term.now) (Local w.in_default.field-0-0 (statement_of w.in_default.field-1-0.value)) at.depth at.level
          (Resume (selection_of c.args.mark.now)) None b0 b0 (ap node_statement w.in_default.is-0)
          (local_unwalked T τ at.depth at.level b0 b0 w.in_default.field-0-0 (statement_of w.in_default.field-1-0.value) c.args.mark.now w.in_default.not-Local-1)
    ]

pub resume_part-returns : goal.resume_part-returns
resume_part-returns t c =
    let T = table_of (kernel_of c.args.program.now) in
    let τ = cells_in c.args.table.now in
    let at = c.args.at in
    let b0 = c.args.pass.now in
    wrap_did T b0 c.resume.new.pass (in_part c.args.part) (flat_step T τ (statement_of c.args.p.now) at.depth at.level (Resume (selection_of c.args.m.now)) (env_of b0.cells.signals.items)) c.in_ok-end.end c.in_ok-end-2.end c.in_ok-end.ensures c.in_ok-end-2.ensures

pub resume_part-resume-requires : goal.resume_part-resume-requires
resume_part-resume-requires t c =
    let T = table_of (kernel_of c.args.program.now) in
    let τ = cells_in c.args.table.now in
    let at = c.args.at in
    let b0 = c.args.pass.now in
    let rows = length c.args.table.now.rows.items in
    let n = length (kernel_of c.args.program.now).signals in
    (omega arith, asked rows n at.depth (statement_of c.args.p.now) (statement_of c.args.p.now) b0 b0 (λ i. (statement_of c.args.p.now)) (kept_same b0) c.requires.fits c.requires.emitted c.requires.args c.requires.declared c.requires.depth)

pub resume_trap-returns : goal.resume_trap-returns
resume_trap-returns t c =
    let T = table_of (kernel_of c.args.program.now) in
    let τ = cells_in c.args.table.now in
    let at = c.args.at in
    let b0 = c.args.pass.now in
    trap_did T b0 c.resume.new.pass (flat_step T τ (statement_of c.args.p.now) at.depth at.level (Resume (selection_of c.args.m.now)) (env_of b0.cells.signals.items)) c.in_ok-end.end c.in_ok-end-2.end c.in_ok-end.ensures c.in_ok-end-2.ensures

pub resume_trap-resume-requires : goal.resume_trap-resume-requires
resume_trap-resume-requires t c =
    let T = table_of (kernel_of c.args.program.now) in
    let τ = cells_in c.args.table.now in
    let at = c.args.at in
    let b0 = c.args.pass.now in
    let rows = length c.args.table.now.rows.items in
    let n = length (kernel_of c.args.program.now).signals in
    (omega arith, asked rows n at.depth (statement_of c.args.p.now) (statement_of c.args.p.now) b0 b0 (λ i. (statement_of c.args.p.now)) (kept_same b0) c.requires.fits c.requires.emitted c.requires.args c.requires.declared c.requires.depth)

pub resume_first-returns-then-not-has_ended : goal.resume_first-returns-then-not-has_ended
resume_first-returns-then-not-has_ended t c =
    let T = table_of (kernel_of c.args.program.now) in
    let τ = cells_in c.args.table.now in
    let at = c.args.at in
    let b0 = c.args.pass.now in
    stops T τ (in_part part.First) (in_part part.Second) (statement_of c.args.p.now) (statement_of c.args.q.now) at.depth at.level at.depth at.level (Resume (selection_of c.args.m.now)) c.in_ok-first.first c.in_ok-end.end b0 c.resume.new.pass c.in_ok-first.ensures (sym c.has_ended.ensures ∙ c.if-not-has_ended.true) c.in_ok-end.ensures

pub resume_first-returns : goal.resume_first-returns
resume_first-returns t c =
    let T = table_of (kernel_of c.args.program.now) in
    let τ = cells_in c.args.table.now in
    let at = c.args.at in
    let b0 = c.args.pass.now in
    goes T τ (in_part part.First) (in_part part.Second) (statement_of c.args.p.now) (statement_of c.args.q.now) at.depth at.level at.depth at.level (Resume (selection_of c.args.m.now)) c.in_ok-first.first c.in_ok-second.second c.in_ok-end-2.end b0 c.resume.new.pass c.start.new.pass c.in_ok-first.ensures (sym c.has_ended.ensures ∙ c.if-not-has_ended.false) c.in_ok-second.ensures c.in_ok-end-2.ensures

pub resume_first-resume-requires : goal.resume_first-resume-requires
resume_first-resume-requires t c =
    let T = table_of (kernel_of c.args.program.now) in
    let τ = cells_in c.args.table.now in
    let at = c.args.at in
    let b0 = c.args.pass.now in
    let rows = length c.args.table.now.rows.items in
    let n = length (kernel_of c.args.program.now).signals in
    (omega arith, asked rows n at.depth (statement_of c.args.p.now) (statement_of c.args.p.now) b0 b0 (λ i. (statement_of c.args.p.now)) (kept_same b0) c.requires.fits.0 c.requires.emitted c.requires.args c.requires.declared c.requires.depth)

pub resume_first-start-requires-clause-fits : goal.resume_first-start-requires-clause-fits
resume_first-start-requires-clause-fits t c =
    let T = table_of (kernel_of c.args.program.now) in
    let τ = cells_in c.args.table.now in
    let at = c.args.at in
    let b0 = c.args.pass.now in
    let rows = length c.args.table.now.rows.items in
    let n = length (kernel_of c.args.program.now).signals in
    let kept = end_keeps T (flat_step T τ (statement_of c.args.p.now) at.depth at.level (Resume (selection_of c.args.m.now)) (env_of b0.cells.signals.items)) c.in_ok-first.first b0 c.resume.new.pass c.in_ok-first.ensures (sym c.has_ended.ensures ∙ c.if-not-has_ended.false) in
    asked_fits rows at.depth (statement_of c.args.q.now) b0 c.resume.new.pass kept c.requires.fits.1

pub resume_first-start-requires-clause-emitted : goal.resume_first-start-requires-clause-emitted
resume_first-start-requires-clause-emitted t c =
    let T = table_of (kernel_of c.args.program.now) in
    let τ = cells_in c.args.table.now in
    let at = c.args.at in
    let b0 = c.args.pass.now in
    let kept = end_keeps T (flat_step T τ (statement_of c.args.p.now) at.depth at.level (Resume (selection_of c.args.m.now)) (env_of b0.cells.signals.items)) c.in_ok-first.first b0 c.resume.new.pass c.in_ok-first.ensures (sym c.has_ended.ensures ∙ c.if-not-has_ended.false) in
    asked_emitted b0 c.resume.new.pass kept c.requires.emitted

pub resume_first-start-requires-clause-args : goal.resume_first-start-requires-clause-args
resume_first-start-requires-clause-args t c =
    let T = table_of (kernel_of c.args.program.now) in
    let τ = cells_in c.args.table.now in
    let at = c.args.at in
    let b0 = c.args.pass.now in
    let kept = end_keeps T (flat_step T τ (statement_of c.args.p.now) at.depth at.level (Resume (selection_of c.args.m.now)) (env_of b0.cells.signals.items)) c.in_ok-first.first b0 c.resume.new.pass c.in_ok-first.ensures (sym c.has_ended.ensures ∙ c.if-not-has_ended.false) in
    kept.args ∙ c.requires.args

pub resume_first-start-requires-clause-declared : goal.resume_first-start-requires-clause-declared
resume_first-start-requires-clause-declared t c =
    let T = table_of (kernel_of c.args.program.now) in
    let τ = cells_in c.args.table.now in
    let at = c.args.at in
    let b0 = c.args.pass.now in
    let rows = length c.args.table.now.rows.items in
    let n = length (kernel_of c.args.program.now).signals in
    let kept = end_keeps T (flat_step T τ (statement_of c.args.p.now) at.depth at.level (Resume (selection_of c.args.m.now)) (env_of b0.cells.signals.items)) c.in_ok-first.first b0 c.resume.new.pass c.in_ok-first.ensures (sym c.has_ended.ensures ∙ c.if-not-has_ended.false) in
    asked_declared n b0 c.resume.new.pass kept c.requires.declared

pub resume_first-start-requires-clause-depth : goal.resume_first-start-requires-clause-depth
resume_first-start-requires-clause-depth t c =
    let T = table_of (kernel_of c.args.program.now) in
    let τ = cells_in c.args.table.now in
    let at = c.args.at in
    let b0 = c.args.pass.now in
    let rows = length c.args.table.now.rows.items in
    let n = length (kernel_of c.args.program.now).signals in
    c.requires.depth

pub resume_left-returns-in_default : goal.resume_left-returns-in_default
resume_left-returns-in_default t c =
    let T = table_of (kernel_of c.args.program.now) in
    let τ = cells_in c.args.table.now in
    let at = c.args.at in
    let b0 = c.args.pass.now in
    λ q. first_alone_open T τ (statement_of c.args.p.now) at.depth at.level (Resume (selection_of c.args.m.now)) c.in_ok-end.field-0 b0 c.resume.new.pass c.resume.new.pass (no_completion c.in_ok-end.field-0 c.in_default.not-Some) c.in_ok-end.ensures

pub resume_left-returns : goal.resume_left-returns
resume_left-returns t c =
    let T = table_of (kernel_of c.args.program.now) in
    let τ = cells_in c.args.table.now in
    let at = c.args.at in
    let b0 = c.args.pass.now in
    let from : c.len-from.result ≡ length b0.touches.items = omega (arith, c.len-from.ensures) in
    λ q. first_alone T τ c.len-from.result (statement_of c.args.p.now) at.depth at.level (Resume (selection_of c.args.m.now)) c.in_ok-end.field-0 c.in-Some.end c.completes.result c.in_ok-end-2.end b0 c.resume.new.pass c.beside.new.pass from c.in-Some.is c.in_ok-end.ensures c.completes.ensures.code c.completes.ensures.next c.in_ok-end-2.ensures

pub resume_right-returns-in_default : goal.resume_right-returns-in_default
resume_right-returns-in_default t c =
    let T = table_of (kernel_of c.args.program.now) in
    let τ = cells_in c.args.table.now in
    let at = c.args.at in
    let b0 = c.args.pass.now in
    λ q. second_alone_open T τ (statement_of c.args.p.now) at.depth at.level (Resume (selection_of c.args.m.now)) c.in_ok-end.field-0 b0 c.resume.new.pass c.resume.new.pass (no_completion c.in_ok-end.field-0 c.in_default.not-Some) c.in_ok-end.ensures

pub resume_right-returns : goal.resume_right-returns
resume_right-returns t c =
    let T = table_of (kernel_of c.args.program.now) in
    let τ = cells_in c.args.table.now in
    let at = c.args.at in
    let b0 = c.args.pass.now in
    let from : c.len-from.result ≡ length b0.touches.items = omega (arith, c.len-from.ensures) in
    λ q. second_alone T τ c.len-from.result (statement_of c.args.p.now) at.depth at.level (Resume (selection_of c.args.m.now)) c.in_ok-end.field-0 c.completes.result c.in-Some.end c.in_ok-end-2.end b0 c.resume.new.pass c.beside.new.pass from c.completes.ensures.code c.completes.ensures.next c.in-Some.is c.in_ok-end.ensures c.in_ok-end-2.ensures

pub resume_left-resume-requires : goal.resume_left-resume-requires
resume_left-resume-requires t c =
    let T = table_of (kernel_of c.args.program.now) in
    let τ = cells_in c.args.table.now in
    let at = c.args.at in
    let b0 = c.args.pass.now in
    let rows = length c.args.table.now.rows.items in
    let n = length (kernel_of c.args.program.now).signals in
    (omega arith, asked rows n at.depth (statement_of c.args.p.now) (statement_of c.args.p.now) b0 b0 (λ i. (statement_of c.args.p.now)) (kept_same b0) c.requires.fits c.requires.emitted c.requires.args c.requires.declared c.requires.depth)

pub resume_right-resume-requires : goal.resume_right-resume-requires
resume_right-resume-requires t c =
    let T = table_of (kernel_of c.args.program.now) in
    let τ = cells_in c.args.table.now in
    let at = c.args.at in
    let b0 = c.args.pass.now in
    let rows = length c.args.table.now.rows.items in
    let n = length (kernel_of c.args.program.now).signals in
    (omega arith, asked rows n at.depth (statement_of c.args.p.now) (statement_of c.args.p.now) b0 b0 (λ i. (statement_of c.args.p.now)) (kept_same b0) c.requires.fits c.requires.emitted c.requires.args c.requires.declared c.requires.depth)

pub resume_fork-returns-in_default : goal.resume_fork-returns-in_default
resume_fork-returns-in_default t c =
    let T = table_of (kernel_of c.args.program.now) in
    let τ = cells_in c.args.table.now in
    let at = c.args.at in
    let b0 = c.args.pass.now in
    beside_first_open T τ (statement_of c.args.p.now) (statement_of c.args.q.now) at.depth at.level (Resume (selection_of c.args.m.now)) (Resume (selection_of c.args.n.now)) c.in_ok-first.field-0 b0 c.resume.new.pass c.resume.new.pass (no_completion c.in_ok-first.field-0 c.in_default.not-Some) c.in_ok-first.ensures

pub resume_fork-returns-in_default-2 : goal.resume_fork-returns-in_default-2
resume_fork-returns-in_default-2 t c =
    let T = table_of (kernel_of c.args.program.now) in
    let τ = cells_in c.args.table.now in
    let at = c.args.at in
    let b0 = c.args.pass.now in
    beside_second_open T τ (statement_of c.args.p.now) (statement_of c.args.q.now) at.depth at.level (Resume (selection_of c.args.m.now)) (Resume (selection_of c.args.n.now)) c.in_ok-first.field-0 c.in_ok-second.field-0 c.in-Some.first b0 c.resume.new.pass c.resume-2.new.pass c.resume-2.new.pass c.in-Some.is c.in_ok-first.ensures (no_completion c.in_ok-second.field-0 c.in_default-2.not-Some) c.in_ok-second.ensures

pub resume_fork-returns : goal.resume_fork-returns
resume_fork-returns t c =
    let T = table_of (kernel_of c.args.program.now) in
    let τ = cells_in c.args.table.now in
    let at = c.args.at in
    let b0 = c.args.pass.now in
    let from : c.len-from.result ≡ length b0.touches.items = omega (arith, c.len-from.ensures) in
    both T τ c.len-from.result (statement_of c.args.p.now) (statement_of c.args.q.now) at.depth at.level (Resume (selection_of c.args.m.now)) (Resume (selection_of c.args.n.now)) c.in_ok-first.field-0 c.in_ok-second.field-0 c.in-Some.first c.in-Some-2.second c.in_ok-end.end b0 c.resume.new.pass c.resume-2.new.pass c.beside.new.pass from c.in-Some.is c.in_ok-first.ensures c.in-Some-2.is c.in_ok-second.ensures c.in_ok-end.ensures

pub resume_fork-resume-requires : goal.resume_fork-resume-requires
resume_fork-resume-requires t c =
    let T = table_of (kernel_of c.args.program.now) in
    let τ = cells_in c.args.table.now in
    let at = c.args.at in
    let b0 = c.args.pass.now in
    let rows = length c.args.table.now.rows.items in
    let n = length (kernel_of c.args.program.now).signals in
    (omega arith, asked rows n at.depth (statement_of c.args.p.now) (statement_of c.args.p.now) b0 b0 (λ i. (statement_of c.args.p.now)) (kept_same b0) c.requires.fits.0 c.requires.emitted c.requires.args c.requires.declared c.requires.depth)

pub resume_fork-resume-requires-2 : goal.resume_fork-resume-requires-2
resume_fork-resume-requires-2 t c =
    let T = table_of (kernel_of c.args.program.now) in
    let τ = cells_in c.args.table.now in
    let at = c.args.at in
    let b0 = c.args.pass.now in
    let rows = length c.args.table.now.rows.items in
    let n = length (kernel_of c.args.program.now).signals in
    let kept = step_keeps T (flat_step T τ (statement_of c.args.p.now) at.depth at.level (Resume (selection_of c.args.m.now)) (env_of b0.cells.signals.items)) c.in_ok-first.field-0 c.in-Some.first b0 c.resume.new.pass c.in_ok-first.ensures c.in-Some.is in
    (omega arith, asked rows n at.depth (statement_of c.args.q.now) (statement_of c.args.q.now) b0 c.resume.new.pass (λ i. (statement_of c.args.q.now)) kept c.requires.fits.1 c.requires.emitted c.requires.args c.requires.declared c.requires.depth)

pub resume_loop-returns-then-not-has_ended : goal.resume_loop-returns-then-not-has_ended
resume_loop-returns-then-not-has_ended t c =
    let T = table_of (kernel_of c.args.program.now) in
    let τ = cells_in c.args.table.now in
    let at = c.args.at in
    let b0 = c.args.pass.now in
    stops T τ (in_part part.Inside) (in_part part.Inside) (statement_of c.args.p.now) (statement_of c.args.p.now) (suc at.depth) at.level (suc at.depth) (suc at.depth) (Resume (selection_of c.args.m.now)) c.in_ok-first.first c.in_ok-end.end b0 c.resume.new.pass (subst (λ k. Walked T τ (statement_of c.args.p.now) k at.level (Resume (selection_of c.args.m.now)) c.in_ok-first.first b0 c.resume.new.pass) (add-one at.depth) c.in_ok-first.ensures) (sym c.has_ended.ensures ∙ c.if-not-has_ended.true) c.in_ok-end.ensures

pub resume_loop-returns : goal.resume_loop-returns
resume_loop-returns t c =
    let T = table_of (kernel_of c.args.program.now) in
    let τ = cells_in c.args.table.now in
    let at = c.args.at in
    let b0 = c.args.pass.now in
    goes T τ (in_part part.Inside) (in_part part.Inside) (statement_of c.args.p.now) (statement_of c.args.p.now) (suc at.depth) at.level (suc at.depth) (suc at.depth) (Resume (selection_of c.args.m.now)) c.in_ok-first.first c.in_ok-second.second c.in_ok-end-2.end b0 c.resume.new.pass c.start.new.pass (subst (λ k. Walked T τ (statement_of c.args.p.now) k at.level (Resume (selection_of c.args.m.now)) c.in_ok-first.first b0 c.resume.new.pass) (add-one at.depth) c.in_ok-first.ensures) (sym c.has_ended.ensures ∙ c.if-not-has_ended.false)
    (subst (λ k. Walked T τ (statement_of c.args.p.now) k k Start c.in_ok-second.second c.resume.new.pass c.start.new.pass) (add-one at.depth) c.in_ok-second.ensures) c.in_ok-end-2.ensures

pub resume_loop-resume-requires : goal.resume_loop-resume-requires
resume_loop-resume-requires t c =
    let T = table_of (kernel_of c.args.program.now) in
    let τ = cells_in c.args.table.now in
    let at = c.args.at in
    let b0 = c.args.pass.now in
    let rows = length c.args.table.now.rows.items in
    let n = length (kernel_of c.args.program.now).signals in
    (omega arith, asked rows n (at.depth + 1) (statement_of c.args.p.now) (statement_of c.args.p.now) b0 b0 (λ i. (statement_of c.args.p.now)) (kept_same b0) (subst (λ k. Fits (length b0.cells.signals.items) rows k (statement_of c.args.p.now)) (sym (add-one at.depth)) c.requires.fits.1) c.requires.emitted c.requires.args c.requires.declared (subst (λ k. k < rows) (sym (add-one at.depth)) c.requires.fits.0))

pub resume_loop-start-requires-clause-fits : goal.resume_loop-start-requires-clause-fits
resume_loop-start-requires-clause-fits t c =
    let T = table_of (kernel_of c.args.program.now) in
    let τ = cells_in c.args.table.now in
    let at = c.args.at in
    let b0 = c.args.pass.now in
    let rows = length c.args.table.now.rows.items in
    let n = length (kernel_of c.args.program.now).signals in
    let kept = end_keeps T (flat_step T τ (statement_of c.args.p.now) (at.depth + 1) at.level (Resume (selection_of c.args.m.now)) (env_of b0.cells.signals.items)) c.in_ok-first.first b0 c.resume.new.pass c.in_ok-first.ensures (sym c.has_ended.ensures ∙ c.if-not-has_ended.false) in
    asked_fits rows (at.depth + 1) (statement_of c.args.p.now) b0 c.resume.new.pass kept (subst (λ k. Fits (length b0.cells.signals.items) rows k (statement_of c.args.p.now)) (sym (add-one at.depth)) c.requires.fits.1)

pub resume_loop-start-requires-clause-emitted : goal.resume_loop-start-requires-clause-emitted
resume_loop-start-requires-clause-emitted t c =
    let T = table_of (kernel_of c.args.program.now) in
    let τ = cells_in c.args.table.now in
    let at = c.args.at in
    let b0 = c.args.pass.now in
    let kept = end_keeps T (flat_step T τ (statement_of c.args.p.now) (at.depth + 1) at.level (Resume (selection_of c.args.m.now)) (env_of b0.cells.signals.items)) c.in_ok-first.first b0 c.resume.new.pass c.in_ok-first.ensures (sym c.has_ended.ensures ∙ c.if-not-has_ended.false) in
    asked_emitted b0 c.resume.new.pass kept c.requires.emitted

pub resume_loop-start-requires-clause-args : goal.resume_loop-start-requires-clause-args
resume_loop-start-requires-clause-args t c =
    let T = table_of (kernel_of c.args.program.now) in
    let τ = cells_in c.args.table.now in
    let at = c.args.at in
    let b0 = c.args.pass.now in
    let kept = end_keeps T (flat_step T τ (statement_of c.args.p.now) (at.depth + 1) at.level (Resume (selection_of c.args.m.now)) (env_of b0.cells.signals.items)) c.in_ok-first.first b0 c.resume.new.pass c.in_ok-first.ensures (sym c.has_ended.ensures ∙ c.if-not-has_ended.false) in
    kept.args ∙ c.requires.args

pub resume_loop-start-requires-clause-declared : goal.resume_loop-start-requires-clause-declared
resume_loop-start-requires-clause-declared t c =
    let T = table_of (kernel_of c.args.program.now) in
    let τ = cells_in c.args.table.now in
    let at = c.args.at in
    let b0 = c.args.pass.now in
    let rows = length c.args.table.now.rows.items in
    let n = length (kernel_of c.args.program.now).signals in
    let kept = end_keeps T (flat_step T τ (statement_of c.args.p.now) (at.depth + 1) at.level (Resume (selection_of c.args.m.now)) (env_of b0.cells.signals.items)) c.in_ok-first.first b0 c.resume.new.pass c.in_ok-first.ensures (sym c.has_ended.ensures ∙ c.if-not-has_ended.false) in
    asked_declared n b0 c.resume.new.pass kept c.requires.declared

pub resume_loop-start-requires-clause-depth : goal.resume_loop-start-requires-clause-depth
resume_loop-start-requires-clause-depth t c =
    let T = table_of (kernel_of c.args.program.now) in
    let τ = cells_in c.args.table.now in
    let at = c.args.at in
    let b0 = c.args.pass.now in
    let rows = length c.args.table.now.rows.items in
    let n = length (kernel_of c.args.program.now).signals in
    (subst (λ k. k < rows) (sym (add-one at.depth)) c.requires.fits.0)

pub resume_scope-returns-in_default : goal.resume_scope-returns-in_default
resume_scope-returns-in_default t c =
    let T = table_of (kernel_of c.args.program.now) in
    let τ = cells_in c.args.table.now in
    let at = c.args.at in
    let b0 = c.args.pass.now in
    let s = c.args.signal in
    let ls : s < length b0.cells.signals.items = c.requires.fits.0 in
    let d = cell_with (τ s at.level) c.args.pre c.args.before.now in
    scope_unsolved T τ s (statement_of c.args.p.now) at.depth at.level (Resume (selection_of c.args.m.now)) d d b0 c.enter_scope.new.pass (λ i. d)
    (not_entered s d c.in_ok-outer.field-0 b0 c.enter_scope.new.pass c.in_ok-outer.ensures (no_outer c.in_ok-outer.field-0 c.in_default.not-Some))

pub resume_scope-returns-in_default-2 : goal.resume_scope-returns-in_default-2
resume_scope-returns-in_default-2 t c =
    let T = table_of (kernel_of c.args.program.now) in
    let τ = cells_in c.args.table.now in
    let at = c.args.at in
    let b0 = c.args.pass.now in
    let s = c.args.signal in
    let ls : s < length b0.cells.signals.items = c.requires.fits.0 in
    let d = cell_with (τ s at.level) c.args.pre c.args.before.now in
    let e = entered s d c.in_ok-outer.field-0 c.in-Some.outer b0 c.enter_scope.new.pass c.in_ok-outer.ensures c.in-Some.is in
    scope_open T τ s (statement_of c.args.p.now) at.depth at.level (Resume (selection_of c.args.m.now)) d d c.in-Some.outer c.in_ok-body.field-0 b0 c.enter_scope.new.pass c.resume.new.pass c.resume.new.pass (λ i. d) e.0 ls e.1 (no_completion c.in_ok-body.field-0 c.in_default-2.not-Some) c.in_ok-body.ensures

pub resume_scope-returns : goal.resume_scope-returns
resume_scope-returns t c =
    let T = table_of (kernel_of c.args.program.now) in
    let τ = cells_in c.args.table.now in
    let at = c.args.at in
    let b0 = c.args.pass.now in
    let s = c.args.signal in
    let ls : s < length b0.cells.signals.items = c.requires.fits.0 in
    let d = cell_with (τ s at.level) c.args.pre c.args.before.now in
    let e = entered s d c.in_ok-outer.field-0 c.in-Some.outer b0 c.enter_scope.new.pass c.in_ok-outer.ensures c.in-Some.is in
    let end = c.in_ok-end.ensures in
    scope_walked T τ s (statement_of c.args.p.now) at.depth at.level (Resume (selection_of c.args.m.now)) d d end.cell c.in-Some.outer c.in_ok-body.field-0 c.in-Some-2.body c.in_ok-end.end b0 c.enter_scope.new.pass c.resume.new.pass c.leave_scope.new.pass (λ i. d) e.0 ls (omega (arith, ls, c.requires.emitted)) e.1 c.in-Some-2.is c.in_ok-body.ensures end.left end.code end.next

pub resume_scope-resume-requires : goal.resume_scope-resume-requires
resume_scope-resume-requires t c =
    let T = table_of (kernel_of c.args.program.now) in
    let τ = cells_in c.args.table.now in
    let at = c.args.at in
    let b0 = c.args.pass.now in
    let rows = length c.args.table.now.rows.items in
    let n = length (kernel_of c.args.program.now).signals in
    let s = c.args.signal in
    let ls : s < length b0.cells.signals.items = c.requires.fits.0 in
    let d = cell_with (τ s at.level) c.args.pre c.args.before.now in
    let e = entered s d c.in_ok-outer.field-0 c.in-Some.outer b0 c.enter_scope.new.pass c.in_ok-outer.ensures c.in-Some.is in
    let k1 = scope_keeps s d c.in-Some.outer b0 c.enter_scope.new.pass e.1 in
    (omega arith, asked rows n at.depth (statement_of c.args.p.now) (statement_of c.args.p.now) b0 c.enter_scope.new.pass (λ i. (statement_of c.args.p.now)) k1 c.requires.fits.1 c.requires.emitted c.requires.args c.requires.declared c.requires.depth)

pub resume_scope-enter_scope-requires-clause-cell : goal.resume_scope-enter_scope-requires-clause-cell
resume_scope-enter_scope-requires-clause-cell t c =
    c.requires.fits.0

pub resume_scope-enter_scope-requires-clause-emitted : goal.resume_scope-enter_scope-requires-clause-emitted
resume_scope-enter_scope-requires-clause-emitted t c =
    let ls = c.requires.fits.0 in omega (arith, ls, c.requires.emitted)

pub resume_scope-leave_scope-requires-clause-cell : goal.resume_scope-leave_scope-requires-clause-cell
resume_scope-leave_scope-requires-clause-cell t c =
    let T = table_of (kernel_of c.args.program.now) in
    let τ = cells_in c.args.table.now in
    let at = c.args.at in
    let b0 = c.args.pass.now in
    let s = c.args.signal in
    let ls : s < length b0.cells.signals.items = c.requires.fits.0 in
    let d = cell_with (τ s at.level) c.args.pre c.args.before.now in
    let e = entered s d c.in_ok-outer.field-0 c.in-Some.outer b0 c.enter_scope.new.pass c.in_ok-outer.ensures c.in-Some.is in
    let k1 = scope_keeps s d c.in-Some.outer b0 c.enter_scope.new.pass e.1 in
    let kept = kept_both b0 c.enter_scope.new.pass c.resume.new.pass k1 (step_keeps T (flat_step T τ (statement_of c.args.p.now) at.depth at.level (Resume (selection_of c.args.m.now)) (env_of c.enter_scope.new.pass.cells.signals.items)) c.in_ok-body.field-0 c.in-Some-2.body c.enter_scope.new.pass c.resume.new.pass c.in_ok-body.ensures c.in-Some-2.is) in
    subst (λ m. s < m) (sym kept.signals) ls

pub resume_scope-leave_scope-requires-clause-emitted : goal.resume_scope-leave_scope-requires-clause-emitted
resume_scope-leave_scope-requires-clause-emitted t c =
    let T = table_of (kernel_of c.args.program.now) in
    let τ = cells_in c.args.table.now in
    let at = c.args.at in
    let b0 = c.args.pass.now in
    let s = c.args.signal in
    let ls : s < length b0.cells.signals.items = c.requires.fits.0 in
    let d = cell_with (τ s at.level) c.args.pre c.args.before.now in
    let e = entered s d c.in_ok-outer.field-0 c.in-Some.outer b0 c.enter_scope.new.pass c.in_ok-outer.ensures c.in-Some.is in
    let k1 = scope_keeps s d c.in-Some.outer b0 c.enter_scope.new.pass e.1 in
    let kept = kept_both b0 c.enter_scope.new.pass c.resume.new.pass k1 (step_keeps T (flat_step T τ (statement_of c.args.p.now) at.depth at.level (Resume (selection_of c.args.m.now)) (env_of c.enter_scope.new.pass.cells.signals.items)) c.in_ok-body.field-0 c.in-Some-2.body c.enter_scope.new.pass c.resume.new.pass c.in_ok-body.ensures c.in-Some-2.is) in
    let le : s < length b0.emitted.items = omega (arith, ls, c.requires.emitted) in
    subst (λ m. s < m) (sym kept.emitted) le
