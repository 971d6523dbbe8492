use Rattle.std.proofs.Common.{arith}
use Rattle.hh_term.specs.MustCan.{table_of}
use Rattle.hh_term.specs.ProgramView.{kernel_of}
use Rattle.status_table.proofs.Reading.{read_here}
use Rattle.status_table.proofs.Adding.{possible_tallied, possible_past}
use Rattle.status_table.proofs.state.add_possible.Goals as goal

pub returns-in_ok-tallies : goal.returns-in_ok-tallies
returns-in_ok-tallies c =
    λ x.
    let T = table_of (kernel_of c.args._program.now) in
    let ts = c.args.tallies.now.items in
    possible_tallied T c.args.signal x ts c.replace-tally.result c.in_ok-tallies.field-0
    c.replace-tally.new.dest (omega (arith, c.if-at-len.true, c.len.ensures))
    (read_here ts c.args.signal c.index_mut.result.now c.replace-tally.result
    (omega (arith, c.if-at-len.true, c.len.ensures)) c.index_mut.ensures.value
    c.replace-tally.ensures.value)
    (c.in_ok-tallies.ensures (T.kind c.args.signal) (T.word c.args.signal) x)

pub returns-else-at-len : goal.returns-else-at-len
returns-else-at-len c = λ x. possible_past (table_of (kernel_of c.args._program.now)) c.args.signal x
    c.args.tallies.now.items (omega (arith, c.if-at-len.false, c.len.ensures))
