use Rattle.net_kinds.proofs.Unruled.{IsAtVerdict}
use Rattle.net_kinds.proofs.kinds.past_bodies.Given as goal

abbrev pub invariant-loop-fits : goal.invariant-loop-fits
invariant-loop-fits l = IsAtVerdict l.fit l.from l.fits-index l.line
