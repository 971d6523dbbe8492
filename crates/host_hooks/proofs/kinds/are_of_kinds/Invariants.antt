use Rattle.std.proofs.Common.{◌≡◌, length}
use Rattle.host_hooks.specs.Law.{kinds_of}
use Rattle.host_hooks.proofs.kinds.are_of_kinds.Given as goal

-- what is left decides
abbrev pub invariant-loop-value : goal.invariant-loop-value
invariant-loop-value l =
    (kinds_of l.values ≡ l.kinds → kinds_of l.fn.values ≡ l.fn.kinds)
    × (kinds_of l.fn.values ≡ l.fn.kinds → kinds_of l.values ≡ l.kinds)

abbrev pub decreases-loop-value : goal.decreases-loop-value
decreases-loop-value l = length l.values
