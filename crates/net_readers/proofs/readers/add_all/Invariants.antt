use Rattle.std.proofs.Common.{take}
use Rattle.net_readers.specs.Readers.{each_time, Grows}
use Rattle.net_readers.proofs.readers.add_all.Given as goal

abbrev pub invariant-loop-place : goal.invariant-loop-place
invariant-loop-place l =
    Grows l.fn.lists.items l.lists.items (λ n. each_time n l.number (take l.place-index l.places))
