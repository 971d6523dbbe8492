use Rattle.std.proofs.Common.{◌≡◌, ◌∙◌, sym, refl}
use Rattle.reaction_run.specs.declared.event.Event.TheVariants.{Pump}
use Rattle.reaction_desk.proofs.DeskLaws.{kept_event}
use Rattle.reaction_desk.proofs.desk.Desk.pump.Goals as goal

pub invariant_of-self-2 : goal.invariant_of-self-2
invariant_of-self-2 g c =
    let d = c.args.self.now in let t = c.take_more.new in
    let kept = kept_event d.first_pass.value.pass.me.0.client d.logged.log c.pump.new.self.log d.pass t.pass d.waiting t.waiting c.pump.new.took (Pump c.take_more.new.waiting)
    (record { took = d.took; short = d.short; few = d.few }) c.take_more.ensures.took refl c.pump.new.self.short c.in_ok-take_more.ensures.end c.pump.result c.pump.ensures.added c.pump.ensures.took c.pump.ensures.same in
    record {
      inbox = c.take_more.ensures.own.0 ∙ sym c.requires.inbox;
      rests = c.take_more.ensures.own.1;
      took = kept.took;
      short = kept.short;
      few = kept.few;
    }
