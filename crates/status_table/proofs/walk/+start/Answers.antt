use Rattle.std.proofs.Common.{◌≡◌, refl, sym, ap, ◌∙◌, subst, false, None, length, add-one, ◌<◌, arith}
use Rattle.host_expr.specs.Expression.{expression_of}
use Rattle.host_expr.specs.Environment.{env_of}
use Rattle.host_expr.specs.Evaluation.{eval_of}
use Rattle.hh_term.specs.Statement.{If, Suspend, Seq, Par, Loop, Trap, Local}
use Rattle.hh_term.specs.Selection.{Start}
use Rattle.hh_term.specs.MustCan.{table_of, go_on, greater, lower_code}
use Rattle.hh_term.specs.ProgramView.{kernel_of}
use Rattle.hh_term.specs.Views.{statement_of, node_statement}
use Rattle.status_table.specs.Flat.{cell_with}
use Rattle.status_table.specs.TableView.{cells_in}
use Rattle.status_table.specs.Walking.{tested, Fits, Entered, Left, Visited}
use Rattle.status_table.proofs.Visiting.{known_as, in_turn_met, stopped_met, beside_met, if_holds, if_fails}
use Rattle.status_table.proofs.Visiting.{if_open, trap_met, local_met}
use Rattle.status_table.proofs.Reading.{first_is}
use Rattle.status_table.proofs.walk.+start.Goals as goal

pub returns-in_ok-end-in-Holds : goal.returns-in_ok-end-in-Holds
returns-in_ok-end-in-Holds t c =
    let T = table_of (kernel_of c.args.program.now) in
    let τ = cells_in c.args.table.now in
    let at = c.args.at in
    let b0 = c.args.pass.now in
    known_as T τ (statement_of c.args.term.now)
    (If (expression_of c.in-If.condition) (statement_of c.deref.result.now)
    (statement_of c.in-If.q.value)) at.depth at.level Start at.sure c.in_ok-end-in-Holds.end
    c.in_ok-end-in-Holds.end c.start.new.codes b0 c.start.new.pass
    (ap node_statement c.in-If.is ∙ ap
    (λ x. If (expression_of c.in-If.condition) (statement_of x) (statement_of c.in-If.q.value))
    (sym c.deref.ensures)) refl
    (if_holds T τ (expression_of c.in-If.condition) (statement_of c.deref.result.now)
    (statement_of c.in-If.q.value) at.depth at.level at.sure c.in_ok-end-in-Holds.end c.start.new.codes b0
    c.start.new.pass (ap (λ x. tested
    (eval_of (expression_of c.in-If.condition) (env_of b0.cells.signals.items) x)) (sym c.requires.args) ∙
    sym c.in_ok-holds-in-If.ensures ∙ c.in-Holds.is) c.in_ok-end-in-Holds.ensures)

pub returns-in_ok-end-in-Fails : goal.returns-in_ok-end-in-Fails
returns-in_ok-end-in-Fails t c =
    let T = table_of (kernel_of c.args.program.now) in
    let τ = cells_in c.args.table.now in
    let at = c.args.at in
    let b0 = c.args.pass.now in
    known_as T τ (statement_of c.args.term.now)
    (If (expression_of c.in-If.condition) (statement_of c.in-If.p.value)
    (statement_of c.deref-in-Fails.result.now)) at.depth at.level Start at.sure c.in_ok-end-in-Fails.end
    c.in_ok-end-in-Fails.end c.start-in-Fails.new.codes b0 c.start-in-Fails.new.pass
    (ap node_statement c.in-If.is ∙ ap
    (λ x. If (expression_of c.in-If.condition) (statement_of c.in-If.p.value) (statement_of x))
    (sym c.deref-in-Fails.ensures)) refl
    (if_fails T τ (expression_of c.in-If.condition) (statement_of c.in-If.p.value)
    (statement_of c.deref-in-Fails.result.now) at.depth at.level at.sure c.in_ok-end-in-Fails.end
    c.start-in-Fails.new.codes b0 c.start-in-Fails.new.pass
    (ap (λ x. tested (eval_of (expression_of c.in-If.condition) (env_of b0.cells.signals.items) x))
    (sym c.requires.args) ∙ sym c.in_ok-holds-in-If.ensures ∙ c.in-Fails.is) c.in_ok-end-in-Fails.ensures)

pub returns-in_ok-start-in-Undecided-2 : goal.returns-in_ok-start-in-Undecided-2
returns-in_ok-start-in-Undecided-2 t c =
    let T = table_of (kernel_of c.args.program.now) in
    let τ = cells_in c.args.table.now in
    let at = c.args.at in
    let b0 = c.args.pass.now in
    known_as T τ (statement_of c.args.term.now)
    (If (expression_of c.in-If.condition) (statement_of c.deref-in-Undecided.result.now)
    (statement_of c.deref-in-Undecided-2.result.now)) at.depth at.level Start at.sure None None
    c.join.new.codes b0 c.start-in-Undecided-2.new.pass
    (ap node_statement c.in-If.is ∙ ap
    (λ x. If (expression_of c.in-If.condition) (statement_of x) (statement_of c.in-If.q.value))
    (sym c.deref-in-Undecided.ensures) ∙ ap
    (λ x. If (expression_of c.in-If.condition) (statement_of c.deref-in-Undecided.result.now)
    (statement_of x)) (sym c.deref-in-Undecided-2.ensures)) refl
    (if_open T τ (expression_of c.in-If.condition) (statement_of c.deref-in-Undecided.result.now)
    (statement_of c.deref-in-Undecided-2.result.now) at.depth at.level at.sure
    c.in_ok-start-in-Undecided.field-0 c.in_ok-start-in-Undecided-2.field-0 c.start-in-Undecided.new.codes
    c.start-in-Undecided-2.new.codes c.join.new.codes b0 c.start-in-Undecided.new.pass
    c.start-in-Undecided-2.new.pass
    (ap (λ x. tested (eval_of (expression_of c.in-If.condition) (env_of b0.cells.signals.items) x))
    (sym c.requires.args) ∙ sym c.in_ok-holds-in-If.ensures ∙ c.in-Undecided.is)
    c.in_ok-start-in-Undecided.ensures c.in_ok-start-in-Undecided-2.ensures c.join.ensures)

pub returns-in_ok-end-in-Suspend : goal.returns-in_ok-end-in-Suspend
returns-in_ok-end-in-Suspend t c =
    let T = table_of (kernel_of c.args.program.now) in
    let τ = cells_in c.args.table.now in
    let at = c.args.at in
    let b0 = c.args.pass.now in
    known_as T τ (statement_of c.args.term.now)
    (Suspend (expression_of c.in-Suspend.field-0) (statement_of c.deref-in-Suspend.result.now)) at.depth
    at.level Start at.sure c.in_ok-end-in-Suspend.end c.in_ok-end-in-Suspend.end
    c.start-in-Suspend.new.codes b0 c.start-in-Suspend.new.pass
    (ap node_statement c.in-Suspend.is ∙ ap
    (λ x. Suspend (expression_of c.in-Suspend.field-0) (statement_of x)) (sym c.deref-in-Suspend.ensures))
    refl
    (c.in_ok-end-in-Suspend.ensures)

pub returns-then-not-codes : goal.returns-then-not-codes
returns-then-not-codes t c =
    let T = table_of (kernel_of c.args.program.now) in
    let τ = cells_in c.args.table.now in
    let at = c.args.at in
    let b0 = c.args.pass.now in
    known_as T τ (statement_of c.args.term.now)
    (Seq (statement_of c.deref-in-Seq.result.now) (statement_of c.in-Seq.q.value)) at.depth at.level Start
    at.sure c.in_ok-first-in-Seq.first c.in_ok-first-in-Seq.first c.start-in-Seq.new.codes b0
    c.start-in-Seq.new.pass
    (ap node_statement c.in-Seq.is ∙ ap (λ x. Seq (statement_of x) (statement_of c.in-Seq.q.value))
    (sym c.deref-in-Seq.ensures)) refl
    (stopped_met T τ (statement_of c.deref-in-Seq.result.now) (statement_of c.in-Seq.q.value) at.depth
    at.depth at.level at.level Start at.sure c.in_ok-first-in-Seq.first c.start-in-Seq.new.codes b0
    c.start-in-Seq.new.pass c.in_ok-first-in-Seq.ensures c.if-not-codes.true)

pub returns-in_ok-second-in-Seq : goal.returns-in_ok-second-in-Seq
returns-in_ok-second-in-Seq t c =
    let T = table_of (kernel_of c.args.program.now) in
    let τ = cells_in c.args.table.now in
    let at = c.args.at in
    let b0 = c.args.pass.now in
    known_as T τ (statement_of c.args.term.now)
    (Seq (statement_of c.deref-in-Seq.result.now) (statement_of c.deref-in-Seq-2.result.now)) at.depth
    at.level Start at.sure (go_on c.in_ok-first-in-Seq.first c.in_ok-second-in-Seq.second) c.go_on.result
    c.follow.new.codes b0 c.start-in-Seq-2.new.pass
    (ap node_statement c.in-Seq.is ∙ ap (λ x. Seq (statement_of x) (statement_of c.in-Seq.q.value))
    (sym c.deref-in-Seq.ensures) ∙ ap (λ x. Seq (statement_of c.deref-in-Seq.result.now) (statement_of x))
    (sym c.deref-in-Seq-2.ensures)) c.go_on.ensures
    (in_turn_met T τ (statement_of c.deref-in-Seq.result.now) (statement_of c.deref-in-Seq-2.result.now)
    at.depth at.depth at.level at.level Start at.sure c.is_end-sure.result c.in_ok-first-in-Seq.first
    c.in_ok-second-in-Seq.second c.start-in-Seq.new.codes c.start-in-Seq-2.new.codes c.follow.new.codes b0
    c.start-in-Seq.new.pass c.start-in-Seq-2.new.pass c.in_ok-first-in-Seq.ensures c.if-not-codes.false
    c.is_end-sure.ensures c.in_ok-second-in-Seq.ensures c.follow.ensures)

pub returns-in_ok-second-in-Par : goal.returns-in_ok-second-in-Par
returns-in_ok-second-in-Par t c =
    let T = table_of (kernel_of c.args.program.now) in
    let τ = cells_in c.args.table.now in
    let at = c.args.at in
    let b0 = c.args.pass.now in
    known_as T τ (statement_of c.args.term.now)
    (Par (statement_of c.deref-in-Par.result.now) (statement_of c.deref-in-Par-2.result.now)) at.depth
    at.level Start at.sure (greater c.in_ok-first-in-Par.first c.in_ok-second-in-Par.second)
    c.greater.result c.take_greater.new.codes b0 c.start-in-Par-2.new.pass
    (ap node_statement c.in-Par.is ∙ ap (λ x. Par (statement_of x) (statement_of c.in-Par.q.value))
    (sym c.deref-in-Par.ensures) ∙ ap (λ x. Par (statement_of c.deref-in-Par.result.now) (statement_of x))
    (sym c.deref-in-Par-2.ensures)) c.greater.ensures
    (beside_met T τ (statement_of c.deref-in-Par.result.now) (statement_of c.deref-in-Par-2.result.now)
    at.depth at.level Start Start at.sure c.in_ok-first-in-Par.first c.in_ok-second-in-Par.second
    c.start-in-Par.new.codes c.start-in-Par-2.new.codes c.take_greater.new.codes b0
    c.start-in-Par.new.pass c.start-in-Par-2.new.pass c.in_ok-first-in-Par.ensures
    c.in_ok-second-in-Par.ensures c.take_greater.ensures)

pub returns-in_ok-end-in-Loop : goal.returns-in_ok-end-in-Loop
returns-in_ok-end-in-Loop t c =
    let T = table_of (kernel_of c.args.program.now) in
    let τ = cells_in c.args.table.now in
    let at = c.args.at in
    let b0 = c.args.pass.now in
    known_as T τ (statement_of c.args.term.now) (Loop (statement_of c.deref-in-Loop.result.now)) at.depth
    at.level Start at.sure c.in_ok-end-in-Loop.end c.in_ok-end-in-Loop.end c.start-in-Loop.new.codes b0
    c.start-in-Loop.new.pass
    (ap node_statement c.in-Loop.is ∙ ap (λ x. Loop (statement_of x)) (sym c.deref-in-Loop.ensures)) refl
    (subst (λ n. Visited T τ (statement_of c.deref-in-Loop.result.now) n at.level Start at.sure
    c.in_ok-end-in-Loop.end c.start-in-Loop.new.codes b0 c.start-in-Loop.new.pass) (add-one at.depth)
    c.in_ok-end-in-Loop.ensures)

pub returns-in_ok-code-in-Trap : goal.returns-in_ok-code-in-Trap
returns-in_ok-code-in-Trap t c =
    let T = table_of (kernel_of c.args.program.now) in
    let τ = cells_in c.args.table.now in
    let at = c.args.at in
    let b0 = c.args.pass.now in
    known_as T τ (statement_of c.args.term.now) (Trap (statement_of c.deref-in-Trap.result.now)) at.depth
    at.level Start at.sure (lower_code c.in_ok-code-in-Trap.code) c.lowered.result c.lower.new.codes b0
    c.start-in-Trap.new.pass
    (ap node_statement c.in-Trap.is ∙ ap (λ x. Trap (statement_of x)) (sym c.deref-in-Trap.ensures))
    c.lowered.ensures
    (trap_met T τ (statement_of c.deref-in-Trap.result.now) at.depth at.level Start at.sure
    c.in_ok-code-in-Trap.code c.start-in-Trap.new.codes c.lower.new.codes b0 c.start-in-Trap.new.pass
    c.in_ok-code-in-Trap.ensures c.lower.ensures)

pub returns-in_ok-leave-in-Local : goal.returns-in_ok-leave-in-Local
returns-in_ok-leave-in-Local t c =
    let T = table_of (kernel_of c.args.program.now) in
    let τ = cells_in c.args.table.now in
    let at = c.args.at in
    let b0 = c.args.pass.now in
    let K = kernel_of c.args.program.now in
    let s = c.in-Local.s in
    let fits = subst (λ x. Fits (length b0.cells.signals.items) (length c.args.table.now.rows.items) at.depth
    (node_statement x)) c.in-Local.is c.requires.fits in
    let ls : s < length b0.cells.signals.items = fits.0 in
    let first : T.first s ≡ c.index-signals-s.result.first = first_is c.signals.result.now K s
    c.index-signals-s.result c.signals.ensures (omega (arith, ls, c.requires.declared))
    c.index-signals-s.is in
    known_as T τ (statement_of c.args.term.now) (Local s (statement_of c.deref-in-Local.result.now)) at.depth
    at.level Start at.sure c.in_ok-code-in-Local.code c.in_ok-code-in-Local.code
    c.start-in-Local.new.codes b0 c.leave.new.self
    (ap node_statement c.in-Local.is ∙ ap (λ x. Local s (statement_of x)) (sym c.deref-in-Local.ensures)) refl
    (local_met T τ s (statement_of c.deref-in-Local.result.now) at.depth at.level Start at.sure false
    (T.first s) c.in_ok-code-in-Local.code c.start-in-Local.new.codes c.in_ok-outer-in-Local.outer b0
    c.enter.new.pass c.start-in-Local.new.pass c.leave.new.self ls (omega (arith, ls, c.requires.tallies))
    (subst (λ v. Entered s (cell_with (τ s at.level) false v) c.in_ok-outer-in-Local.outer b0
    c.enter.new.pass) (sym (first ∙ ap (λ d. d.first) c.index-signals-s.is))
    c.in_ok-outer-in-Local.ensures)
    c.in_ok-code-in-Local.ensures
    (subst (λ k. Left k s at.level c.in_ok-outer-in-Local.outer c.start-in-Local.new.pass c.leave.new.self)
    c.kind_of.ensures c.in_ok-leave-in-Local.ensures))
