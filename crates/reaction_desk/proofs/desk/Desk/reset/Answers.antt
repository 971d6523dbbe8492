use Rattle.std.proofs.Common.{◌≡◌}
use Rattle.reaction_desk.proofs.DeskLaws.{kept_reset}
use Rattle.reaction_desk.proofs.desk.Desk.reset.Goals as goal

pub invariant_of-self : goal.invariant_of-self
invariant_of-self g c =
    let d = c.args.self.now in
    let kept = kept_reset d.first_pass.value.pass.me.0.client d.logged.log c.reset.new.self.log d.pass.pass.me.0.client d.pass.empties d.waiting (record { took = d.took; short = d.short; few = d.few }) c.reset.result c.reset.ensures.added c.reset.ensures.same in
    record { inbox = d.inbox; rests = d.rests; took = kept.took; short = kept.short; few = kept.few }
