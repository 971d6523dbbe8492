use Rattle.std.proofs.Common.{refl, sym, ap, ◌∙◌, subst, None, suc, length, ◌<◌, ◌+◌, add-one, arith}
use Rattle.host_expr.specs.Expression.{expression_of}
use Rattle.host_expr.specs.Environment.{env_of}
use Rattle.host_expr.specs.Evaluation.{eval_of}
use Rattle.hh_term.specs.Statement.{If, Suspend, Seq, Par, Loop, Trap, Local, Async}
use Rattle.hh_term.specs.Selection.{Start, Resume, First, Second, Both, Inside, Scope, AtAsync}
use Rattle.hh_term.specs.MustCan.{table_of, go_on, greater, lower_code}
use Rattle.hh_term.specs.ProgramView.{kernel_of}
use Rattle.hh_term.specs.Views.{statement_of, node_statement, selection_of}
use Rattle.status_table.specs.TableView.{cells_in}
use Rattle.status_table.specs.Walking.{tested, first_code, Fits, Left, Visited}
use Rattle.status_table.proofs.Visiting.{known_as, resumed_as, in_turn_met, stopped_met, beside_met}
use Rattle.status_table.proofs.Visiting.{suspend_holds, suspend_fails, suspend_open, trap_met, local_met}
use Rattle.status_table.proofs.Visiting.{async_met, first_rests, second_rests}
use Rattle.status_table.proofs.Unmet.{async_unmet, if_unmet, suspend_unmet, seq_unmet, par_unmet, loop_unmet}
use Rattle.status_table.proofs.Unmet.{trap_unmet, local_unmet}
use Rattle.status_table.proofs.walk.+resume.Goals as goal
use Rattle.status_table.proofs.walk.+resume.Goals.{in_default-via-in-Async+in_default}
use Rattle.status_table.proofs.walk.+resume.Goals.{in_default-via-in-If+in_default}
use Rattle.status_table.proofs.walk.+resume.Goals.{in_default-via-in-Suspend+in_default}
use Rattle.status_table.proofs.walk.+resume.Goals.{in_default-via-in-Seq+in_default}
use Rattle.status_table.proofs.walk.+resume.Goals.{in_default-via-in-Par+in_default}
use Rattle.status_table.proofs.walk.+resume.Goals.{in_default-via-in-Loop+in_default}
use Rattle.status_table.proofs.walk.+resume.Goals.{in_default-via-in-Trap+in_default}
use Rattle.status_table.proofs.walk.+resume.Goals.{in_default-via-in-Local+in_default}

pub returns-in_ok-answer-in-Async-Async : goal.returns-in_ok-answer-in-Async-Async
returns-in_ok-answer-in-Async-Async t c =
    let T = table_of (kernel_of c.args.program.now) in
    let τ = cells_in c.args.table.now in
    let at = c.args.at in
    let b0 = c.args.pass.now in
    let a = c.in-Async-Async.a in
    resumed_as T τ (statement_of c.args.term.now) (Async c.in-Async-Async.n)
    (Resume (selection_of c.args.mark.now)) (Resume (AtAsync a.id a.args a.queue a.suspended)) at.depth
    at.level at.sure c.gives-in-Async-Async.result c.gives-in-Async-Async.result
    c.gives-in-Async-Async.new.codes b0 c.answer.new.pass
    (ap node_statement c.in-Async-Async.is-0) (ap (λ x. Resume (selection_of x)) c.in-Async-Async.is-1) refl
    (async_met T τ c.in-Async-Async.n at.depth at.level a.id a.args a.queue a.suspended at.sure
    c.gives-in-Async-Async.result c.first_code.result c.gives-in-Async-Async.new.codes b0
    c.answer.new.pass
    c.first_code.ensures
    (c.in_ok-answer-in-Async-Async.ensures (first_code a.queue))
    c.gives-in-Async-Async.ensures.code c.gives-in-Async-Async.ensures.codes)

pub returns-in_ok-end-in-If-First : goal.returns-in_ok-end-in-If-First
returns-in_ok-end-in-If-First t c =
    let T = table_of (kernel_of c.args.program.now) in
    let τ = cells_in c.args.table.now in
    let at = c.args.at in
    let b0 = c.args.pass.now in
    resumed_as T τ (statement_of c.args.term.now)
    (If (expression_of c.in-If-First.field-0-0) (statement_of c.deref.result.now)
    (statement_of c.in-If-First.field-2-0.value)) (Resume (selection_of c.args.mark.now))
    (Resume (First (selection_of c.deref-in-If-First.result.now))) at.depth at.level at.sure
    c.in_ok-end-in-If-First.end c.in_ok-end-in-If-First.end c.resume.new.codes b0 c.resume.new.pass
    (ap node_statement c.in-If-First.is-0 ∙ ap
    (λ x. If (expression_of c.in-If-First.field-0-0) (statement_of x)
    (statement_of c.in-If-First.field-2-0.value)) (sym c.deref.ensures))
    (ap (λ x. Resume (selection_of x)) c.in-If-First.is-1 ∙ ap (λ x. Resume (First (selection_of x)))
    (sym c.deref-in-If-First.ensures)) refl
    (c.in_ok-end-in-If-First.ensures)

pub returns-in_ok-end-in-If-Second : goal.returns-in_ok-end-in-If-Second
returns-in_ok-end-in-If-Second t c =
    let T = table_of (kernel_of c.args.program.now) in
    let τ = cells_in c.args.table.now in
    let at = c.args.at in
    let b0 = c.args.pass.now in
    resumed_as T τ (statement_of c.args.term.now)
    (If (expression_of c.in-If-Second.field-0-0) (statement_of c.in-If-Second.field-1-0.value)
    (statement_of c.deref-in-If-Second.result.now)) (Resume (selection_of c.args.mark.now))
    (Resume (Second (selection_of c.deref-in-If-Second-2.result.now))) at.depth at.level at.sure
    c.in_ok-end-in-If-Second.end c.in_ok-end-in-If-Second.end c.resume-in-If-Second.new.codes b0
    c.resume-in-If-Second.new.pass
    (ap node_statement c.in-If-Second.is-0 ∙ ap
    (λ x. If (expression_of c.in-If-Second.field-0-0) (statement_of c.in-If-Second.field-1-0.value)
    (statement_of x)) (sym c.deref-in-If-Second.ensures))
    (ap (λ x. Resume (selection_of x)) c.in-If-Second.is-1 ∙ ap (λ x. Resume (Second (selection_of x)))
    (sym c.deref-in-If-Second-2.ensures)) refl
    (c.in_ok-end-in-If-Second.ensures)

pub returns-in-Holds : goal.returns-in-Holds
returns-in-Holds t c =
    let T = table_of (kernel_of c.args.program.now) in
    let τ = cells_in c.args.table.now in
    let at = c.args.at in
    let b0 = c.args.pass.now in
    resumed_as T τ (statement_of c.args.term.now)
    (Suspend (expression_of c.in-Suspend-Inside.condition) (statement_of c.in-Suspend-Inside.p.value))
    (Resume (selection_of c.args.mark.now)) (Resume (Inside (selection_of c.in-Suspend-Inside.m.value)))
    at.depth at.level at.sure c.gives-in-Holds.result c.gives-in-Holds.result c.gives-in-Holds.new.codes
    b0 b0
    (ap node_statement c.in-Suspend-Inside.is-0) (ap (λ x. Resume (selection_of x)) c.in-Suspend-Inside.is-1)
    refl
    (suspend_holds T τ (expression_of c.in-Suspend-Inside.condition)
    (statement_of c.in-Suspend-Inside.p.value) at.depth at.level
    (selection_of c.in-Suspend-Inside.m.value) at.sure c.gives-in-Holds.result c.gives-in-Holds.new.codes
    b0 (ap (λ x. tested (eval_of (expression_of c.in-Suspend-Inside.condition)
    (env_of b0.cells.signals.items) x)) (sym c.requires.args) ∙ sym
    c.in_ok-holds-in-Suspend-Inside.ensures ∙ c.in-Holds.is) c.gives-in-Holds.ensures.code
    c.gives-in-Holds.ensures.codes)

pub returns-in_ok-end-in-Fails : goal.returns-in_ok-end-in-Fails
returns-in_ok-end-in-Fails t c =
    let T = table_of (kernel_of c.args.program.now) in
    let τ = cells_in c.args.table.now in
    let at = c.args.at in
    let b0 = c.args.pass.now in
    resumed_as T τ (statement_of c.args.term.now)
    (Suspend (expression_of c.in-Suspend-Inside.condition) (statement_of c.deref-in-Fails.result.now))
    (Resume (selection_of c.args.mark.now)) (Resume (Inside (selection_of c.deref-in-Fails-2.result.now)))
    at.depth at.level at.sure c.in_ok-end-in-Fails.end c.in_ok-end-in-Fails.end
    c.resume-in-Fails.new.codes b0 c.resume-in-Fails.new.pass
    (ap node_statement c.in-Suspend-Inside.is-0 ∙ ap
    (λ x. Suspend (expression_of c.in-Suspend-Inside.condition) (statement_of x))
    (sym c.deref-in-Fails.ensures))
    (ap (λ x. Resume (selection_of x)) c.in-Suspend-Inside.is-1 ∙ ap
    (λ x. Resume (Inside (selection_of x))) (sym c.deref-in-Fails-2.ensures)) refl
    (suspend_fails T τ (expression_of c.in-Suspend-Inside.condition)
    (statement_of c.deref-in-Fails.result.now) at.depth at.level
    (selection_of c.deref-in-Fails-2.result.now) at.sure c.in_ok-end-in-Fails.end
    c.resume-in-Fails.new.codes b0 c.resume-in-Fails.new.pass
    (ap (λ x. tested (eval_of (expression_of c.in-Suspend-Inside.condition)
    (env_of b0.cells.signals.items) x)) (sym c.requires.args) ∙ sym
    c.in_ok-holds-in-Suspend-Inside.ensures ∙ c.in-Fails.is) c.in_ok-end-in-Fails.ensures)

pub returns-in_ok-resume-in-Undecided : goal.returns-in_ok-resume-in-Undecided
returns-in_ok-resume-in-Undecided t c =
    let T = table_of (kernel_of c.args.program.now) in
    let τ = cells_in c.args.table.now in
    let at = c.args.at in
    let b0 = c.args.pass.now in
    resumed_as T τ (statement_of c.args.term.now)
    (Suspend (expression_of c.in-Suspend-Inside.condition) (statement_of c.deref-in-Undecided.result.now))
    (Resume (selection_of c.args.mark.now))
    (Resume (Inside (selection_of c.deref-in-Undecided-2.result.now))) at.depth at.level at.sure None None
    c.join.new.codes b0 c.resume-in-Undecided.new.pass
    (ap node_statement c.in-Suspend-Inside.is-0 ∙ ap
    (λ x. Suspend (expression_of c.in-Suspend-Inside.condition) (statement_of x))
    (sym c.deref-in-Undecided.ensures))
    (ap (λ x. Resume (selection_of x)) c.in-Suspend-Inside.is-1 ∙ ap
    (λ x. Resume (Inside (selection_of x))) (sym c.deref-in-Undecided-2.ensures)) refl
    (suspend_open T τ (expression_of c.in-Suspend-Inside.condition)
    (statement_of c.deref-in-Undecided.result.now) at.depth at.level
    (selection_of c.deref-in-Undecided-2.result.now) at.sure c.in_ok-resume-in-Undecided.field-0
    c.gives-in-Undecided.result c.resume-in-Undecided.new.codes c.gives-in-Undecided.new.codes
    c.join.new.codes b0 c.resume-in-Undecided.new.pass
    (ap (λ x. tested (eval_of (expression_of c.in-Suspend-Inside.condition)
    (env_of b0.cells.signals.items) x)) (sym c.requires.args) ∙ sym
    c.in_ok-holds-in-Suspend-Inside.ensures ∙ c.in-Undecided.is) c.in_ok-resume-in-Undecided.ensures
    c.gives-in-Undecided.ensures.code c.gives-in-Undecided.ensures.codes c.join.ensures)

pub returns-then-not-codes : goal.returns-then-not-codes
returns-then-not-codes t c =
    let T = table_of (kernel_of c.args.program.now) in
    let τ = cells_in c.args.table.now in
    let at = c.args.at in
    let b0 = c.args.pass.now in
    resumed_as T τ (statement_of c.args.term.now)
    (Seq (statement_of c.deref-in-Seq-First.result.now) (statement_of c.in-Seq-First.q.value))
    (Resume (selection_of c.args.mark.now))
    (Resume (First (selection_of c.deref-in-Seq-First-2.result.now))) at.depth at.level at.sure
    c.in_ok-first-in-Seq-First.first c.in_ok-first-in-Seq-First.first c.resume-in-Seq-First.new.codes b0
    c.resume-in-Seq-First.new.pass
    (ap node_statement c.in-Seq-First.is-0 ∙ ap
    (λ x. Seq (statement_of x) (statement_of c.in-Seq-First.q.value)) (sym c.deref-in-Seq-First.ensures))
    (ap (λ x. Resume (selection_of x)) c.in-Seq-First.is-1 ∙ ap (λ x. Resume (First (selection_of x)))
    (sym c.deref-in-Seq-First-2.ensures)) refl
    (stopped_met T τ (statement_of c.deref-in-Seq-First.result.now) (statement_of c.in-Seq-First.q.value)
    at.depth at.depth at.level at.level (Resume (selection_of c.deref-in-Seq-First-2.result.now)) at.sure
    c.in_ok-first-in-Seq-First.first c.resume-in-Seq-First.new.codes b0 c.resume-in-Seq-First.new.pass
    c.in_ok-first-in-Seq-First.ensures c.if-not-codes.true)

pub returns-in_ok-second-in-Seq-First : goal.returns-in_ok-second-in-Seq-First
returns-in_ok-second-in-Seq-First t c =
    let T = table_of (kernel_of c.args.program.now) in
    let τ = cells_in c.args.table.now in
    let at = c.args.at in
    let b0 = c.args.pass.now in
    resumed_as T τ (statement_of c.args.term.now)
    (Seq (statement_of c.deref-in-Seq-First.result.now) (statement_of c.deref-in-Seq-First-3.result.now))
    (Resume (selection_of c.args.mark.now))
    (Resume (First (selection_of c.deref-in-Seq-First-2.result.now))) at.depth at.level at.sure
    (go_on c.in_ok-first-in-Seq-First.first c.in_ok-second-in-Seq-First.second) c.go_on.result
    c.follow.new.codes b0 c.start.new.pass
    (ap node_statement c.in-Seq-First.is-0 ∙ ap
    (λ x. Seq (statement_of x) (statement_of c.in-Seq-First.q.value)) (sym c.deref-in-Seq-First.ensures) ∙
    ap (λ x. Seq (statement_of c.deref-in-Seq-First.result.now) (statement_of x))
    (sym c.deref-in-Seq-First-3.ensures))
    (ap (λ x. Resume (selection_of x)) c.in-Seq-First.is-1 ∙ ap (λ x. Resume (First (selection_of x)))
    (sym c.deref-in-Seq-First-2.ensures)) c.go_on.ensures
    (in_turn_met T τ (statement_of c.deref-in-Seq-First.result.now)
    (statement_of c.deref-in-Seq-First-3.result.now) at.depth at.depth at.level at.level
    (Resume (selection_of c.deref-in-Seq-First-2.result.now)) at.sure c.is_end-sure.result
    c.in_ok-first-in-Seq-First.first c.in_ok-second-in-Seq-First.second c.resume-in-Seq-First.new.codes
    c.start.new.codes c.follow.new.codes b0 c.resume-in-Seq-First.new.pass c.start.new.pass
    c.in_ok-first-in-Seq-First.ensures c.if-not-codes.false c.is_end-sure.ensures
    c.in_ok-second-in-Seq-First.ensures c.follow.ensures)

pub returns-in_ok-end-in-Seq-Second : goal.returns-in_ok-end-in-Seq-Second
returns-in_ok-end-in-Seq-Second t c =
    let T = table_of (kernel_of c.args.program.now) in
    let τ = cells_in c.args.table.now in
    let at = c.args.at in
    let b0 = c.args.pass.now in
    resumed_as T τ (statement_of c.args.term.now)
    (Seq (statement_of c.in-Seq-Second.field-0-0.value) (statement_of c.deref-in-Seq-Second.result.now))
    (Resume (selection_of c.args.mark.now))
    (Resume (Second (selection_of c.deref-in-Seq-Second-2.result.now))) at.depth at.level at.sure
    c.in_ok-end-in-Seq-Second.end c.in_ok-end-in-Seq-Second.end c.resume-in-Seq-Second.new.codes b0
    c.resume-in-Seq-Second.new.pass
    (ap node_statement c.in-Seq-Second.is-0 ∙ ap
    (λ x. Seq (statement_of c.in-Seq-Second.field-0-0.value) (statement_of x))
    (sym c.deref-in-Seq-Second.ensures))
    (ap (λ x. Resume (selection_of x)) c.in-Seq-Second.is-1 ∙ ap (λ x. Resume (Second (selection_of x)))
    (sym c.deref-in-Seq-Second-2.ensures)) refl
    (c.in_ok-end-in-Seq-Second.ensures)

pub returns-in_ok-first-in-Par-First : goal.returns-in_ok-first-in-Par-First
returns-in_ok-first-in-Par-First t c =
    let T = table_of (kernel_of c.args.program.now) in
    let τ = cells_in c.args.table.now in
    let at = c.args.at in
    let b0 = c.args.pass.now in
    resumed_as T τ (statement_of c.args.term.now)
    (Par (statement_of c.deref-in-Par-First.result.now) (statement_of c.in-Par-First.field-1-0.value))
    (Resume (selection_of c.args.mark.now))
    (Resume (First (selection_of c.deref-in-Par-First-2.result.now))) at.depth at.level at.sure
    (greater c.in_ok-first-in-Par-First.first c.gives-second.result) c.greater.result
    c.take_greater.new.codes b0 c.resume-in-Par-First.new.pass
    (ap node_statement c.in-Par-First.is-0 ∙ ap
    (λ x. Par (statement_of x) (statement_of c.in-Par-First.field-1-0.value))
    (sym c.deref-in-Par-First.ensures))
    (ap (λ x. Resume (selection_of x)) c.in-Par-First.is-1 ∙ ap (λ x. Resume (First (selection_of x)))
    (sym c.deref-in-Par-First-2.ensures)) c.greater.ensures
    (first_rests T τ (statement_of c.deref-in-Par-First.result.now)
    (statement_of c.in-Par-First.field-1-0.value) at.depth at.level
    (selection_of c.deref-in-Par-First-2.result.now) at.sure c.in_ok-first-in-Par-First.first
    c.gives-second.result c.resume-in-Par-First.new.codes c.gives-second.new.codes
    c.take_greater.new.codes b0 c.resume-in-Par-First.new.pass c.in_ok-first-in-Par-First.ensures
    c.gives-second.ensures.code c.gives-second.ensures.codes c.take_greater.ensures)

pub returns-in_ok-second-in-Par-Second : goal.returns-in_ok-second-in-Par-Second
returns-in_ok-second-in-Par-Second t c =
    let T = table_of (kernel_of c.args.program.now) in
    let τ = cells_in c.args.table.now in
    let at = c.args.at in
    let b0 = c.args.pass.now in
    resumed_as T τ (statement_of c.args.term.now)
    (Par (statement_of c.in-Par-Second.field-0-0.value) (statement_of c.deref-in-Par-Second.result.now))
    (Resume (selection_of c.args.mark.now))
    (Resume (Second (selection_of c.deref-in-Par-Second-2.result.now))) at.depth at.level at.sure
    (greater c.gives-first.result c.in_ok-second-in-Par-Second.second) c.greater-in-Par-Second.result
    c.take_greater-in-Par-Second.new.codes b0 c.resume-in-Par-Second.new.pass
    (ap node_statement c.in-Par-Second.is-0 ∙ ap
    (λ x. Par (statement_of c.in-Par-Second.field-0-0.value) (statement_of x))
    (sym c.deref-in-Par-Second.ensures))
    (ap (λ x. Resume (selection_of x)) c.in-Par-Second.is-1 ∙ ap (λ x. Resume (Second (selection_of x)))
    (sym c.deref-in-Par-Second-2.ensures)) c.greater-in-Par-Second.ensures
    (second_rests T τ (statement_of c.in-Par-Second.field-0-0.value)
    (statement_of c.deref-in-Par-Second.result.now) at.depth at.level
    (selection_of c.deref-in-Par-Second-2.result.now) at.sure c.gives-first.result
    c.in_ok-second-in-Par-Second.second c.gives-first.new.codes c.resume-in-Par-Second.new.codes
    c.take_greater-in-Par-Second.new.codes b0 c.resume-in-Par-Second.new.pass c.gives-first.ensures.code
    c.gives-first.ensures.codes c.in_ok-second-in-Par-Second.ensures c.take_greater-in-Par-Second.ensures)

pub returns-in_ok-second-in-Par-Both : goal.returns-in_ok-second-in-Par-Both
returns-in_ok-second-in-Par-Both t c =
    let T = table_of (kernel_of c.args.program.now) in
    let τ = cells_in c.args.table.now in
    let at = c.args.at in
    let b0 = c.args.pass.now in
    resumed_as T τ (statement_of c.args.term.now)
    (Par (statement_of c.deref-in-Par-Both.result.now) (statement_of c.deref-in-Par-Both-3.result.now))
    (Resume (selection_of c.args.mark.now))
    (Resume (Both (selection_of c.deref-in-Par-Both-2.result.now)
    (selection_of c.deref-in-Par-Both-4.result.now))) at.depth at.level at.sure
    (greater c.in_ok-first-in-Par-Both.first c.in_ok-second-in-Par-Both.second)
    c.greater-in-Par-Both.result c.take_greater-in-Par-Both.new.codes b0 c.resume-in-Par-Both-2.new.pass
    (ap node_statement c.in-Par-Both.is-0 ∙ ap
    (λ x. Par (statement_of x) (statement_of c.in-Par-Both.q.value)) (sym c.deref-in-Par-Both.ensures) ∙
    ap (λ x. Par (statement_of c.deref-in-Par-Both.result.now) (statement_of x))
    (sym c.deref-in-Par-Both-3.ensures))
    (ap (λ x. Resume (selection_of x)) c.in-Par-Both.is-1 ∙ ap
    (λ x. Resume (Both (selection_of x) (selection_of c.in-Par-Both.n.value)))
    (sym c.deref-in-Par-Both-2.ensures) ∙ ap
    (λ x. Resume (Both (selection_of c.deref-in-Par-Both-2.result.now) (selection_of x)))
    (sym c.deref-in-Par-Both-4.ensures)) c.greater-in-Par-Both.ensures
    (beside_met T τ (statement_of c.deref-in-Par-Both.result.now)
    (statement_of c.deref-in-Par-Both-3.result.now) at.depth at.level
    (Resume (selection_of c.deref-in-Par-Both-2.result.now))
    (Resume (selection_of c.deref-in-Par-Both-4.result.now)) at.sure c.in_ok-first-in-Par-Both.first
    c.in_ok-second-in-Par-Both.second c.resume-in-Par-Both.new.codes c.resume-in-Par-Both-2.new.codes
    c.take_greater-in-Par-Both.new.codes b0 c.resume-in-Par-Both.new.pass c.resume-in-Par-Both-2.new.pass
    (c.in_ok-first-in-Par-Both.ensures) (c.in_ok-second-in-Par-Both.ensures)
    c.take_greater-in-Par-Both.ensures)

pub returns-then-not-codes-2 : goal.returns-then-not-codes-2
returns-then-not-codes-2 t c =
    let T = table_of (kernel_of c.args.program.now) in
    let τ = cells_in c.args.table.now in
    let at = c.args.at in
    let b0 = c.args.pass.now in
    resumed_as T τ (statement_of c.args.term.now) (Loop (statement_of c.deref-in-Loop-Inside.result.now))
    (Resume (selection_of c.args.mark.now))
    (Resume (Inside (selection_of c.deref-in-Loop-Inside-2.result.now))) at.depth at.level at.sure
    c.in_ok-first-in-Loop-Inside.first c.in_ok-first-in-Loop-Inside.first
    c.resume-in-Loop-Inside.new.codes b0 c.resume-in-Loop-Inside.new.pass
    (ap node_statement c.in-Loop-Inside.is-0 ∙ ap (λ x. Loop (statement_of x))
    (sym c.deref-in-Loop-Inside.ensures))
    (ap (λ x. Resume (selection_of x)) c.in-Loop-Inside.is-1 ∙ ap (λ x. Resume (Inside (selection_of x)))
    (sym c.deref-in-Loop-Inside-2.ensures)) refl
    (stopped_met T τ (statement_of c.deref-in-Loop-Inside.result.now)
    (statement_of c.deref-in-Loop-Inside.result.now) (suc at.depth) (suc at.depth) at.level (suc at.depth)
    (Resume (selection_of c.deref-in-Loop-Inside-2.result.now)) at.sure c.in_ok-first-in-Loop-Inside.first
    c.resume-in-Loop-Inside.new.codes b0 c.resume-in-Loop-Inside.new.pass
    (subst (λ n. Visited T τ (statement_of c.deref-in-Loop-Inside.result.now) n at.level
    (Resume (selection_of c.deref-in-Loop-Inside-2.result.now)) at.sure c.in_ok-first-in-Loop-Inside.first
    c.resume-in-Loop-Inside.new.codes b0 c.resume-in-Loop-Inside.new.pass) (add-one at.depth)
    c.in_ok-first-in-Loop-Inside.ensures) c.if-not-codes-2.true)

pub returns-in_ok-second-in-Loop-Inside : goal.returns-in_ok-second-in-Loop-Inside
returns-in_ok-second-in-Loop-Inside t c =
    let T = table_of (kernel_of c.args.program.now) in
    let τ = cells_in c.args.table.now in
    let at = c.args.at in
    let b0 = c.args.pass.now in
    resumed_as T τ (statement_of c.args.term.now) (Loop (statement_of c.deref-in-Loop-Inside.result.now))
    (Resume (selection_of c.args.mark.now))
    (Resume (Inside (selection_of c.deref-in-Loop-Inside-2.result.now))) at.depth at.level at.sure
    (go_on c.in_ok-first-in-Loop-Inside.first c.in_ok-second-in-Loop-Inside.second)
    c.go_on-in-Loop-Inside.result c.follow-in-Loop-Inside.new.codes b0 c.start-in-Loop-Inside.new.pass
    (ap node_statement c.in-Loop-Inside.is-0 ∙ ap (λ x. Loop (statement_of x))
    (sym c.deref-in-Loop-Inside.ensures))
    (ap (λ x. Resume (selection_of x)) c.in-Loop-Inside.is-1 ∙ ap (λ x. Resume (Inside (selection_of x)))
    (sym c.deref-in-Loop-Inside-2.ensures)) c.go_on-in-Loop-Inside.ensures
    (in_turn_met T τ (statement_of c.deref-in-Loop-Inside.result.now)
    (statement_of c.deref-in-Loop-Inside.result.now) (suc at.depth) (suc at.depth) at.level (suc at.depth)
    (Resume (selection_of c.deref-in-Loop-Inside-2.result.now)) at.sure c.is_end.result
    c.in_ok-first-in-Loop-Inside.first c.in_ok-second-in-Loop-Inside.second
    c.resume-in-Loop-Inside.new.codes c.start-in-Loop-Inside.new.codes c.follow-in-Loop-Inside.new.codes
    b0 c.resume-in-Loop-Inside.new.pass c.start-in-Loop-Inside.new.pass
    (subst (λ n. Visited T τ (statement_of c.deref-in-Loop-Inside.result.now) n at.level
    (Resume (selection_of c.deref-in-Loop-Inside-2.result.now)) at.sure c.in_ok-first-in-Loop-Inside.first
    c.resume-in-Loop-Inside.new.codes b0 c.resume-in-Loop-Inside.new.pass) (add-one at.depth)
    c.in_ok-first-in-Loop-Inside.ensures) c.if-not-codes-2.false c.is_end.ensures
    (subst (λ n. Visited T τ (statement_of c.deref-in-Loop-Inside.result.now) n n Start c.is_end.result
    c.in_ok-second-in-Loop-Inside.second c.start-in-Loop-Inside.new.codes c.resume-in-Loop-Inside.new.pass
    c.start-in-Loop-Inside.new.pass) (add-one at.depth)
    (subst (λ x. Visited T τ (statement_of x) (at.depth + 1) (at.depth + 1) Start c.is_end.result
    c.in_ok-second-in-Loop-Inside.second c.start-in-Loop-Inside.new.codes c.resume-in-Loop-Inside.new.pass
    c.start-in-Loop-Inside.new.pass)
    (c.deref-in-Loop-Inside-3.ensures ∙ sym c.deref-in-Loop-Inside.ensures)
    c.in_ok-second-in-Loop-Inside.ensures)) c.follow-in-Loop-Inside.ensures)

pub returns-in_ok-code-in-Trap-Inside : goal.returns-in_ok-code-in-Trap-Inside
returns-in_ok-code-in-Trap-Inside t c =
    let T = table_of (kernel_of c.args.program.now) in
    let τ = cells_in c.args.table.now in
    let at = c.args.at in
    let b0 = c.args.pass.now in
    resumed_as T τ (statement_of c.args.term.now) (Trap (statement_of c.deref-in-Trap-Inside.result.now))
    (Resume (selection_of c.args.mark.now))
    (Resume (Inside (selection_of c.deref-in-Trap-Inside-2.result.now))) at.depth at.level at.sure
    (lower_code c.in_ok-code-in-Trap-Inside.code) c.lowered.result c.lower.new.codes b0
    c.resume-in-Trap-Inside.new.pass
    (ap node_statement c.in-Trap-Inside.is-0 ∙ ap (λ x. Trap (statement_of x))
    (sym c.deref-in-Trap-Inside.ensures))
    (ap (λ x. Resume (selection_of x)) c.in-Trap-Inside.is-1 ∙ ap (λ x. Resume (Inside (selection_of x)))
    (sym c.deref-in-Trap-Inside-2.ensures)) c.lowered.ensures
    (trap_met T τ (statement_of c.deref-in-Trap-Inside.result.now) at.depth at.level
    (Resume (selection_of c.deref-in-Trap-Inside-2.result.now)) at.sure c.in_ok-code-in-Trap-Inside.code
    c.resume-in-Trap-Inside.new.codes c.lower.new.codes b0 c.resume-in-Trap-Inside.new.pass
    c.in_ok-code-in-Trap-Inside.ensures c.lower.ensures)

pub returns-in_ok-leave-in-Local-Local : goal.returns-in_ok-leave-in-Local-Local
returns-in_ok-leave-in-Local-Local t c =
    let T = table_of (kernel_of c.args.program.now) in
    let τ = cells_in c.args.table.now in
    let at = c.args.at in
    let b0 = c.args.pass.now in
    let s = c.in-Local-Local.s in
    let fits = subst (λ x. Fits (length b0.cells.signals.items) (length c.args.table.now.rows.items) at.depth
    (node_statement x)) c.in-Local-Local.is-0 c.requires.fits in
    let ls : s < length b0.cells.signals.items = fits.0 in
    resumed_as T τ (statement_of c.args.term.now) (Local s (statement_of c.deref-in-Local-Local.result.now))
    (Resume (selection_of c.args.mark.now))
    (Resume (Scope (selection_of c.deref-in-Local-Local-2.result.now) c.in-Local-Local.pre
    c.in-Local-Local.before)) at.depth at.level at.sure c.in_ok-code-in-Local-Local.code
    c.in_ok-code-in-Local-Local.code c.resume-in-Local-Local.new.codes b0 c.leave.new.self
    (ap node_statement c.in-Local-Local.is-0 ∙ ap (λ x. Local s (statement_of x))
    (sym c.deref-in-Local-Local.ensures))
    (ap (λ x. Resume (selection_of x)) c.in-Local-Local.is-1 ∙ ap
    (λ x. Resume (Scope (selection_of x) c.in-Local-Local.pre c.in-Local-Local.before))
    (sym c.deref-in-Local-Local-2.ensures)) refl
    (local_met T τ s (statement_of c.deref-in-Local-Local.result.now) at.depth at.level
    (Resume (selection_of c.deref-in-Local-Local-2.result.now)) at.sure c.in-Local-Local.pre
    c.in-Local-Local.before c.in_ok-code-in-Local-Local.code c.resume-in-Local-Local.new.codes
    c.in_ok-outer-in-Local-Local.outer b0 c.enter.new.pass c.resume-in-Local-Local.new.pass
    c.leave.new.self ls (omega (arith, ls, c.requires.tallies))
    c.in_ok-outer-in-Local-Local.ensures
    c.in_ok-code-in-Local-Local.ensures
    (subst (λ k. Left k s at.level c.in_ok-outer-in-Local-Local.outer c.resume-in-Local-Local.new.pass
    c.leave.new.self) c.kind_of.ensures c.in_ok-leave-in-Local-Local.ensures))

pub returns-in_default : goal.returns-in_default
returns-in_default t c =
    let T = table_of (kernel_of c.args.program.now) in
    let τ = cells_in c.args.table.now in
    let at = c.args.at in
    let b0 = c.args.pass.now in
    elim c.in_default.branch [
      | in_default-via-in-Async+in_default w ↦ known_as T τ (statement_of c.args.term.now)
          (Async w.in_default.field-0-0) at.depth at.level (Resume (selection_of c.args.mark.now)) at.sure
          c.gives-in_default.result c.gives-in_default.result c.gives-in_default.new.codes b0 b0
          (ap node_statement w.in_default.is-0) refl
          (async_unmet T τ at.depth at.level at.sure c.gives-in_default.result c.gives-in_default.new.codes b0
          c.gives-in_default.ensures.code c.gives-in_default.ensures.codes w.in_default.field-0-0
          c.args.mark.now w.in_default.not-Async-1)
      | in_default-via-in-If+in_default w ↦ known_as T τ (statement_of c.args.term.now)
          (If (expression_of w.in_default.field-0-0) (statement_of w.in_default.field-1-0.value)
          (statement_of w.in_default.field-2-0.value)) at.depth at.level
          (Resume (selection_of c.args.mark.now)) at.sure c.gives-in_default.result c.gives-in_default.result
          c.gives-in_default.new.codes b0 b0 (ap node_statement w.in_default.is-0) refl
          (if_unmet T τ at.depth at.level at.sure c.gives-in_default.result c.gives-in_default.new.codes b0
          c.gives-in_default.ensures.code c.gives-in_default.ensures.codes
          (expression_of w.in_default.field-0-0) (statement_of w.in_default.field-1-0.value)
          (statement_of w.in_default.field-2-0.value) c.args.mark.now w.in_default.not-First-1
          w.in_default.not-Second-1)
      | in_default-via-in-Suspend+in_default w ↦ known_as T τ (statement_of c.args.term.now)
          (Suspend (expression_of w.in_default.field-0-0) (statement_of w.in_default.field-1-0.value))
          at.depth at.level (Resume (selection_of c.args.mark.now)) at.sure c.gives-in_default.result
          c.gives-in_default.result c.gives-in_default.new.codes b0 b0 (ap node_statement w.in_default.is-0)
          refl
          (suspend_unmet T τ at.depth at.level at.sure c.gives-in_default.result c.gives-in_default.new.codes
          b0 c.gives-in_default.ensures.code c.gives-in_default.ensures.codes
          (expression_of w.in_default.field-0-0) (statement_of w.in_default.field-1-0.value)
          c.args.mark.now w.in_default.not-Inside-1)
      | in_default-via-in-Seq+in_default w ↦ known_as T τ (statement_of c.args.term.now)
          (Seq (statement_of w.in_default.field-0-0.value) (statement_of w.in_default.field-1-0.value))
          at.depth at.level (Resume (selection_of c.args.mark.now)) at.sure c.gives-in_default.result
          c.gives-in_default.result c.gives-in_default.new.codes b0 b0 (ap node_statement w.in_default.is-0)
          refl
          (seq_unmet T τ at.depth at.level at.sure c.gives-in_default.result c.gives-in_default.new.codes b0
          c.gives-in_default.ensures.code c.gives-in_default.ensures.codes
          (statement_of w.in_default.field-0-0.value) (statement_of w.in_default.field-1-0.value)
          c.args.mark.now w.in_default.not-First-1 w.in_default.not-Second-1)
      | in_default-via-in-Par+in_default w ↦ known_as T τ (statement_of c.args.term.now)
          (Par (statement_of w.in_default.field-0-0.value) (statement_of w.in_default.field-1-0.value))
          at.depth at.level (Resume (selection_of c.args.mark.now)) at.sure c.gives-in_default.result
          c.gives-in_default.result c.gives-in_default.new.codes b0 b0 (ap node_statement w.in_default.is-0)
          refl
          (par_unmet T τ at.depth at.level at.sure c.gives-in_default.result c.gives-in_default.new.codes b0
          c.gives-in_default.ensures.code c.gives-in_default.ensures.codes
          (statement_of w.in_default.field-0-0.value) (statement_of w.in_default.field-1-0.value)
          c.args.mark.now w.in_default.not-First-1 w.in_default.not-Second-1 w.in_default.not-Both-1)
      | in_default-via-in-Loop+in_default w ↦ known_as T τ (statement_of c.args.term.now)
          (Loop (statement_of w.in_default.field-0-0.value)) at.depth at.level
          (Resume (selection_of c.args.mark.now)) at.sure c.gives-in_default.result c.gives-in_default.result
          c.gives-in_default.new.codes b0 b0 (ap node_statement w.in_default.is-0) refl
          (loop_unmet T τ at.depth at.level at.sure c.gives-in_default.result c.gives-in_default.new.codes b0
          c.gives-in_default.ensures.code c.gives-in_default.ensures.codes
          (statement_of w.in_default.field-0-0.value) c.args.mark.now w.in_default.not-Inside-1)
      | in_default-via-in-Trap+in_default w ↦ known_as T τ (statement_of c.args.term.now)
          (Trap (statement_of w.in_default.field-0-0.value)) at.depth at.level
          (Resume (selection_of c.args.mark.now)) at.sure c.gives-in_default.result c.gives-in_default.result
          c.gives-in_default.new.codes b0 b0 (ap node_statement w.in_default.is-0) refl
          (trap_unmet T τ at.depth at.level at.sure c.gives-in_default.result c.gives-in_default.new.codes b0
          c.gives-in_default.ensures.code c.gives-in_default.ensures.codes
          (statement_of w.in_default.field-0-0.value) c.args.mark.now w.in_default.not-Inside-1)
      | in_default-via-in-Local+in_default w ↦ known_as T τ (statement_of c.args.term.now)
          (Local w.in_default.field-0-0 (statement_of w.in_default.field-1-0.value)) at.depth at.level
          (Resume (selection_of c.args.mark.now)) at.sure c.gives-in_default.result c.gives-in_default.result
          c.gives-in_default.new.codes b0 b0 (ap node_statement w.in_default.is-0) refl
          (local_unmet T τ at.depth at.level at.sure c.gives-in_default.result c.gives-in_default.new.codes b0
          c.gives-in_default.ensures.code c.gives-in_default.ensures.codes w.in_default.field-0-0
          (statement_of w.in_default.field-1-0.value) c.args.mark.now w.in_default.not-Local-1)
    ]
