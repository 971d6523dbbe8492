use Rattle.std.proofs.Common.{◌≡◌, ◌++◌, map, drop}
use Rattle.hh_term.specs.ProgramView.{kernel_of}
use Rattle.sync_step.specs.Told.{now_in}
use Rattle.term_machine.specs.Place.{outputs_of}
use Rattle.term_reactor.proofs.ending.outputs.Given as goal

abbrev pub invariant-loop-signal : goal.invariant-loop-signal
invariant-loop-signal l =
    l.outs.items ++ outputs_of (kernel_of l.program) (map now_in (drop l.signal-index l.signals)) ≡ outputs_of (kernel_of l.program) (map now_in l.signals)
