use Rattle.std.proofs.Common.{◌≡◌, map, take}
use Rattle.hh_term.specs.ProgramView.{kernel_of}
use Rattle.term_machine.specs.Place.{name_at}
use Rattle.term_reactor.proofs.ending.names_of.Given as goal

abbrev pub invariant-loop-signal : goal.invariant-loop-signal
invariant-loop-signal l = l.names.items ≡ map (name_at (kernel_of l.program)) (take l.signal-index l.signals)
