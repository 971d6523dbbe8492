use Rattle.std.proofs.Common.{sym, subst, ◌∙◌, [], ◌∷◌}
use Rattle.host_expr.specs.declared.cell.Cell.TheVariants as cell
use Rattle.hh_term.specs.MustCan.{table_of, answer_bag}
use Rattle.hh_term.specs.ProgramView.{kernel_of}
use Rattle.last_walk.specs.LastWalk.{Noted}
use Rattle.last_walk.proofs.instance.emit_answer.Goals as goal

pub returns-in_ok-emit : goal.returns-in_ok-emit
returns-in_ok-emit c =
    let T = table_of (kernel_of c.args.program.now) in
    let b0 = c.args.pass.now in
    subst (λ o. Noted T (answer_bag o c.args.answer.now.value) [] [] [] b0 c.emit.new.self)
    (sym c.in-Some.is ∙ c.target_of.ensures)
    (subst (λ v. Noted T ((c.in-Some.signal, cell.Known v) ∷ []) [] [] [] b0 c.emit.new.self) c.in_ok-copy.ensures
    (c.in_ok-emit.ensures T))
