use Rattle.std.proofs.Common.{◌<◌, length, get_or, subst, ◌≡◌}
use Rattle.scenario_play.proofs.LineLaws.{printed_on}
use Rattle.scenario_play.proofs.line.print_log.Goals as goal

pub loop-entry-preserved : goal.loop-entry-preserved
loop-entry-preserved c =
    printed_on c.args.signals.now c.args.bodies.now c.args.log.now c.loop-entry.entry-index c.args.number c.loop-entry.next c.in_ok-next.next
    c.args.out.now.items c.loop-entry.out.items c.print_entry.new.out.items c.entry-item.result c.loop-entry.invariant
    (subst (λ es. c.loop-entry.entry-index < length es) c.entries-entry-items.ensures c.loop-entry-test.true)
    (subst (λ es. c.entry-item.result ≡ get_or es c.loop-entry.entry-index c.entry-item.result) c.entries-entry-items.ensures c.entry-item.is)
    c.in_ok-next.ensures.lines c.in_ok-next.ensures.next
