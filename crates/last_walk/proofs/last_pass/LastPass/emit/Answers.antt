use Rattle.std.proofs.Common.{◌<◌, length, arith}
use Rattle.status_table.proofs.Reading.{read_here}
use Rattle.last_walk.proofs.Noting.{noted_emission, one_emitted, past_emitted}
use Rattle.last_walk.proofs.last_pass.LastPass.emit.Goals as goal

pub returns-in_ok-self : goal.returns-in_ok-self
returns-in_ok-self c T =
    let b = c.args.self.now in
    let lt : c.args.signal < length b.emitted.items = omega (arith, c.if-at-len.true, c.len.ensures) in
    noted_emission T c.args.signal c.args.cell.now b _
    (one_emitted T c.args.signal c.args.cell.now b.emitted.items c.replace-before.result c.in_ok-self.field-0
    c.replace-before.new.dest lt
    (read_here b.emitted.items c.args.signal c.index_mut.result.now c.replace-before.result lt
    c.index_mut.ensures.value c.replace-before.ensures.value) c.in_ok-self.ensures)

pub returns-else-at-len : goal.returns-else-at-len
returns-else-at-len c T =
    noted_emission T c.args.signal c.args.cell.now c.args.self.now c.args.self.now.emitted
    (past_emitted T c.args.signal c.args.cell.now c.args.self.now.emitted.items
    (omega (arith, c.if-at-len.false, c.len.ensures)))
