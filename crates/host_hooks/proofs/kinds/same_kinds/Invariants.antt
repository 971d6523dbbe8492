use Rattle.std.proofs.Common.{◌≡◌, length}
use Rattle.host_hooks.proofs.kinds.same_kinds.Given as goal

-- what is left decides
abbrev pub invariant-loop-kind : goal.invariant-loop-kind
invariant-loop-kind l =
    (l.left ≡ l.right → l.fn.left ≡ l.fn.right) × (l.fn.left ≡ l.fn.right → l.left ≡ l.right)

abbrev pub decreases-loop-kind : goal.decreases-loop-kind
decreases-loop-kind l = length l.left
