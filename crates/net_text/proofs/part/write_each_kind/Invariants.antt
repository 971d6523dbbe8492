use Rattle.std.proofs.Common.{◌≡◌, ◌++◌, take}
use Rattle.std.specs.List.{flat_map}
use Rattle.net_text.specs.Parts.{kind_part}
use Rattle.net_text.proofs.part.write_each_kind.Given as goal

abbrev pub invariant-loop-kind : goal.invariant-loop-kind
invariant-loop-kind l = l.out.items ≡ l.fn.out.items ++ flat_map kind_part (take l.kind-index l.fn.kinds)
