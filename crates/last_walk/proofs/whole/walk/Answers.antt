use Rattle.std.proofs.Common.{refl, sym, ap, ◌∙◌}
use Rattle.hh_term.specs.MustCan.{table_of}
use Rattle.hh_term.specs.ProgramView.{kernel_of}
use Rattle.hh_term.specs.Views.{control_in, control_of, selection_of, statement_of}
use Rattle.status_table.specs.TableView.{cells_in}
use Rattle.last_walk.proofs.Programs.{ran_fresh, ran_at, ran_ended}
use Rattle.last_walk.proofs.whole.walk.Goals as goal

pub returns-in_ok-end-in-Fresh : goal.returns-in_ok-end-in-Fresh
returns-in_ok-end-in-Fresh c =
    let K = kernel_of c.args.program.now in
    ran_fresh (table_of K) (cells_in c.args.table.now) K.statement (statement_of c.term.result.now)
    (control_in c.args.marked.now) c.args.pass.now c.start.new.pass c.in_ok-end-in-Fresh.end c.run_of.result
    c.term.ensures.kernel (sym c.control.ensures ∙ ap control_of c.in-Fresh.is) c.in_ok-end-in-Fresh.ensures
    c.run_of.ensures

pub returns-in_ok-end-in-At : goal.returns-in_ok-end-in-At
returns-in_ok-end-in-At c =
    let K = kernel_of c.args.program.now in
    ran_at (table_of K) (cells_in c.args.table.now) K.statement (statement_of c.term-in-At.result.now)
    (control_in c.args.marked.now) c.args.pass.now c.resume.new.pass (selection_of c.in-At.mark) c.in_ok-end-in-At.end
    c.run_of-in-At.result c.term-in-At.ensures.kernel (sym c.control.ensures ∙ ap control_of c.in-At.is)
    c.in_ok-end-in-At.ensures c.run_of-in-At.ensures

pub returns-in-Ended : goal.returns-in-Ended
returns-in-Ended c =
    let K = kernel_of c.args.program.now in
    ran_ended (table_of K) (cells_in c.args.table.now) K.statement (control_in c.args.marked.now) _ c.args.pass.now
    (sym c.control.ensures ∙ ap control_of c.in-Ended.is) refl refl
