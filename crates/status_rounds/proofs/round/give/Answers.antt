use Rattle.std.proofs.Common.{subst, [], ◌∷◌}
use Rattle.host_expr.specs.declared.cell.Cell.TheVariants as cell
use Rattle.hh_term.specs.MustCan.{table_of, gives, Executed}
use Rattle.hh_term.specs.ProgramView.{kernel_of}
use Rattle.status_table.specs.Walking.{Tallied}
use Rattle.status_rounds.proofs.Giving.{none_counted, one_counted, all_counted}
use Rattle.status_rounds.proofs.round.give.Goals as goal

pub loop-input-init : goal.loop-input-init
loop-input-init c = none_counted (table_of (kernel_of c.args.program.now)) c.args.tallies.now.items

pub loop-input-preserved : goal.loop-input-preserved
loop-input-preserved c =
    let T = table_of (kernel_of c.args.program.now) in
    one_counted T c.args.inputs.now c.loop-input.input-index c.input-item.result c.args.tallies.now.items
    c.loop-input.tallies.items c.add_executed.new.tallies.items c.loop-input-test.true c.input-item.is
    c.loop-input.invariant
    (subst (λ v. Tallied T (gives ((c.input-item.result.0, cell.Known v) ∷ []) 0 Executed)
    c.loop-input.tallies.items c.add_executed.new.tallies.items) c.in_ok-copy.ensures
    c.in_ok-add_executed.ensures)

pub returns : goal.returns
returns c = all_counted (table_of (kernel_of c.args.program.now)) c.args.inputs.now c.loop-input.input-index
    c.args.tallies.now.items c.loop-input.tallies.items c.loop-input-test.false c.loop-input.invariant
