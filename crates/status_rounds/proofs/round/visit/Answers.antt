use Rattle.std.proofs.Common.{sym, ap, ◌∙◌}
use Rattle.hh_term.specs.MustCan.{table_of}
use Rattle.hh_term.specs.ProgramView.{kernel_of}
use Rattle.hh_term.specs.Views.{control_in, control_of, selection_of, statement_of}
use Rattle.status_table.specs.TableView.{cells_in}
use Rattle.status_rounds.proofs.Seeing.{seen_fresh, seen_at}
use Rattle.status_rounds.proofs.round.visit.Goals as goal

pub returns-in_ok-start-in-Fresh : goal.returns-in_ok-start-in-Fresh
returns-in_ok-start-in-Fresh c =
    let K = kernel_of c.args.program.now in
    seen_fresh (table_of K) (cells_in c.args.table.now) K.statement (statement_of c.term.result.now)
    (control_in c.args.marked.now) c.in_ok-start-in-Fresh.field-0 c.start.new.codes c.args.pass.now
    c.start.new.pass c.term.ensures.kernel (sym c.control.ensures ∙ ap control_of c.in-Fresh.is)
    c.in_ok-start-in-Fresh.ensures

pub returns-in_ok-resume-in-At : goal.returns-in_ok-resume-in-At
returns-in_ok-resume-in-At c =
    let K = kernel_of c.args.program.now in
    seen_at (table_of K) (cells_in c.args.table.now) K.statement (statement_of c.term-in-At.result.now)
    (control_in c.args.marked.now) c.in_ok-resume-in-At.field-0 c.resume.new.codes c.args.pass.now
    c.resume.new.pass (selection_of c.in-At.mark) c.term-in-At.ensures.kernel
    (sym c.control.ensures ∙ ap control_of c.in-At.is) c.in_ok-resume-in-At.ensures
