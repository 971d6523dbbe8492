use Rattle.std.proofs.Common.{◌≡◌, ◌++◌, map, take}
use Rattle.link_faults.specs.Walks.{local_meaning}
use Rattle.link_faults.proofs.walk.add_meanings.Given as goal

abbrev pub invariant-signals : goal.invariant-signals
invariant-signals l = l.meanings ≡ l.fn.meanings ++ map local_meaning (take l.signal-index l.signals)
