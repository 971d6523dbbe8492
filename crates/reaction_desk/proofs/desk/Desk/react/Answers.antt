use Rattle.std.proofs.Common.{◌≡◌, ◌∙◌, sym, refl}
use Rattle.reaction_run.specs.declared.event.Event.TheVariants.{React}
use Rattle.reaction_desk.proofs.DeskLaws.{kept_event}
use Rattle.reaction_desk.proofs.desk.Desk.react.Goals as goal

pub invariant_of-self-2 : goal.invariant_of-self-2
invariant_of-self-2 g c =
    let d = c.args.self.now in let t = c.take_more.new in
    let kept = kept_event d.first_pass.value.pass.me.0.client d.logged.log c.react.new.self.log d.pass t.pass d.waiting t.waiting c.react.new.took (React c.args.inputs.now c.take_more.new.waiting)
    (record { took = d.took; short = d.short; few = d.few }) c.take_more.ensures.took refl c.react.new.self.short c.in_ok-take_more.ensures.end c.react.result c.react.ensures.added c.react.ensures.took c.react.ensures.same in
    record {
      inbox = c.take_more.ensures.own.0 ∙ sym c.requires.inbox;
      rests = c.take_more.ensures.own.1;
      took = kept.took;
      short = kept.short;
      few = kept.few;
    }
