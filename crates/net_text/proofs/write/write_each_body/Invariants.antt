use Rattle.std.proofs.Common.{◌≡◌, ◌++◌, take}
use Rattle.std.specs.List.{flat_map}
use Rattle.net_text.specs.Lines.{body_line}
use Rattle.net_text.proofs.write.write_each_body.Given as goal

abbrev pub invariant-loop-body : goal.invariant-loop-body
invariant-loop-body l = l.out.items ≡ l.fn.out.items ++ flat_map body_line (take l.body-index l.fn.bodies)
