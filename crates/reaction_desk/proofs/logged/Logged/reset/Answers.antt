use Rattle.std.proofs.Common.{◌≡◌, ◌∙◌, sym}
use Rattle.reaction_desk.proofs.LegalLogs.{reset_keeps}
use Rattle.reaction_desk.proofs.logged.Logged.reset.Goals as goal

pub invariant_of-self : goal.invariant_of-self
invariant_of-self g c =
    let M = g.M.Reactor in let d = c.args.self.now in
    let kept = reset_keeps M.machine (M.state d.first.value) (M.state d.machine) (M.state c.reset.new.self) d.log c.reset.new.log d.legal d.stands c.in_ok-check_room.ensures c.reset.result c.reset.ensures.reacts c.reset.ensures.err in
    record {
      legal = kept.legal;
      stands = kept.stands;
      signals = c.reset.ensures.signals ∙ d.signals;
      short = kept.short;
      copied = d.copied ∙ sym kept.waits;
      room = d.room;
    }
