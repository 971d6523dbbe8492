use Rattle.std.proofs.Common.{◌||◌, refl, arith}
use Rattle.hh_term.specs.MustCan.{table_of}
use Rattle.hh_term.specs.ProgramView.{kernel_of}
use Rattle.status_rounds.proofs.Concluding.{one_conclusion, flag_by}
use Rattle.status_rounds.proofs.round.conclude_all.Goals as goal

pub loop-signal-preserved : goal.loop-signal-preserved
loop-signal-preserved c =
    let l = c.loop-signal in
    let e = c.interface_len-signal-end.ensures in
    let lt = c.loop-signal-test.true in
    one_conclusion (table_of (kernel_of c.args.program.now)) l.signal l.changed c.in_ok-changed.field-0
    (l.changed || c.in_ok-changed.field-0) c.args.pass.now l.pass c.conclude.new.pass
    (omega (arith, e, lt, c.requires.cells)) (omega (arith, e, lt, c.requires.tallies)) l.invariant
    c.in_ok-changed.ensures (flag_by l.changed c.in_ok-changed.field-0 (l.changed || c.in_ok-changed.field-0)
    refl)
