use Rattle.std.proofs.Common.{subst, arith, [], ◌∷◌}
use Rattle.hh_term.specs.MustCan.{table_of}
use Rattle.hh_term.specs.ProgramView.{kernel_of}
use Rattle.status_table.specs.Tallies.{Adds}
use Rattle.status_table.proofs.Reading.{read_here}
use Rattle.status_table.proofs.Adding.{executed_tallied, executed_past}
use Rattle.status_table.proofs.state.add_executed.Goals as goal

pub returns-in_ok-tallies : goal.returns-in_ok-tallies
returns-in_ok-tallies c =
    let T = table_of (kernel_of c.args.program.now) in
    let ts = c.args.tallies.now.items in
    let lt = c.len.ensures in
    executed_tallied T c.args.signal c.args.cell ts c.replace-tally.result c.in_ok-tallies.field-0
    c.replace-tally.new.dest (omega (arith, c.if-at-len.true, c.len.ensures))
    (read_here ts c.args.signal c.index_mut.result.now c.replace-tally.result
    (omega (arith, c.if-at-len.true, c.len.ensures)) c.index_mut.ensures.value
    c.replace-tally.ensures.value)
    (subst (λ k. Adds k (T.word c.args.signal) c.replace-tally.result c.in_ok-tallies.field-0
    (c.args.cell ∷ []) (c.args.cell ∷ [])) c.kind_of-kind.ensures
    (subst (λ w. Adds c.kind_of-kind.result w c.replace-tally.result c.in_ok-tallies.field-0
    (c.args.cell ∷ []) (c.args.cell ∷ [])) c.word_of.ensures c.in_ok-tallies.ensures))

pub returns-else-at-len : goal.returns-else-at-len
returns-else-at-len c = executed_past (table_of (kernel_of c.args.program.now)) c.args.signal c.args.cell
    c.args.tallies.now.items (omega (arith, c.if-at-len.false, c.len.ensures))
