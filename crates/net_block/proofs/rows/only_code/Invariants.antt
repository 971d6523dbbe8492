use Rattle.std.proofs.Common.{◌≡◌, ◌-◌, ◌++◌}
use Rattle.net_block.specs.Codes.{only_code}
use Rattle.net_block.proofs.rows.only_code.Given as goal

abbrev pub invariant-loop-level : goal.invariant-loop-level
invariant-loop-level l = l.codes.items ++ only_code (l.code - l.level) l.go ≡ only_code l.code l.go
