use Rattle.std.proofs.Common.{◌≡◌, ◌++◌, take}
use Rattle.std.specs.List.{flat_map}
use Rattle.net_text.specs.Lines.{test_line}
use Rattle.net_text.proofs.write.write_each_test.Given as goal

abbrev pub invariant-loop-test : goal.invariant-loop-test
invariant-loop-test l = l.out.items ≡ l.fn.out.items ++ flat_map (test_line 2) (take l.test-index l.fn.tests)
