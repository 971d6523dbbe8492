use Rattle.std.proofs.Common.{false, [], ◌∷◌}
use Rattle.net_block.specs.Drawn.{drawn}
use Rattle.net_block.proofs.Rowing.{with_register}
use Rattle.net_block.proofs.Siting.{site_drawn}
use Rattle.net_block.proofs.drawing.Drawing.site_gates.Goals as goal

pub returns : goal.returns
returns c =
    site_drawn (drawn c.args.self.now) (drawn c.gate.new.self) (drawn c.gate-2.new.self) (drawn c.gate-3.new.self)
    (drawn c.and.new.self) (drawn c.and-2.new.self) (drawn c.and-3.new.self) (drawn c.gate-4.new.self)
    (drawn c.and-4.new.self) (drawn c.or.new.self) (drawn c.and-5.new.self) (drawn c.or-2.new.self)
    (drawn c.gate-5.new.self) (drawn c.and-6.new.self) (drawn c.or-3.new.self) c.args.site c.args.wires
    c.in_ok-register.register c.in_ok-rests.rests c.in_ok-last.last c.in_ok-part.part c.in_ok-runs.runs c.in_ok-ends.ends
    c.in_ok-used.used c.in_ok-waits.waits c.in_ok-resumed.resumed c.in_ok-pauses.pauses c.in_ok-held.held c.in_ok-stays.stays
    c.in_ok-lives.lives c.in_ok-next.next c.in_ok-sends.sends c.in_ok-register.ensures c.in_ok-rests.ensures
    c.in_ok-last.ensures c.in_ok-part.ensures c.in_ok-runs.ensures c.in_ok-ends.ensures c.in_ok-used.ensures
    c.in_ok-waits.ensures c.in_ok-resumed.ensures c.in_ok-pauses.ensures c.in_ok-held.ensures c.in_ok-stays.ensures
    c.in_ok-lives.ensures c.in_ok-next.ensures c.in_ok-sends.ensures _
    (with_register (drawn c.or-3.new.self) ((false, c.in_ok-next.next) ∷ []) c.push.new.self.items
    c.in_ok-push.ensures.items)
