use Rattle.std.proofs.Common.{◌≡◌, map, take}
use Rattle.module_tree.specs.Scopes.{InScope}
use Rattle.module_link.specs.Places.{Shows}
use Rattle.module_link.specs.Resolved.{resolved}
use Rattle.module_link.proofs.places.Places.arguments.Given as goal

abbrev pub invariant-loop-x : goal.invariant-loop-x
invariant-loop-x l = (c : InScope) → Shows l.self c → l.args.items ≡ map (resolved c) (take l.x-index l.xs)
