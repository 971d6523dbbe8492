use Rattle.net_list.specs.Range.{test_in_range}
use Rattle.net_range.proofs.Walk.{IsAt}
use Rattle.net_range.proofs.range.past_tests.Given as goal

abbrev pub invariant-loop-test : goal.invariant-loop-test
invariant-loop-test l = IsAt (test_in_range l.nets) l.nets.tests l.from l.test-index l.line
