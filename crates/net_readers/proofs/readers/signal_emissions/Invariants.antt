use Rattle.std.proofs.Common.{length, take}
use Rattle.net_readers.specs.Readers.{emissions_from, Lists}
use Rattle.net_readers.proofs.readers.signal_emissions.Given as goal

abbrev pub invariant-loop-place : goal.invariant-loop-place
invariant-loop-place l =
    Lists l.lists.items (length l.nets.signals) (λ s. emissions_from 0 s (take l.place l.emits))
