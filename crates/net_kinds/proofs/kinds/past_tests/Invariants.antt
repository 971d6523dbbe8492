use Rattle.net_list.specs.Kinds.{test_fits}
use Rattle.net_range.proofs.Walk.{IsAt}
use Rattle.net_kinds.proofs.kinds.past_tests.Given as goal

abbrev pub invariant-loop-test : goal.invariant-loop-test
invariant-loop-test l = IsAt (test_fits l.scope.signals.items) l.nets.tests l.from l.test-index l.line
