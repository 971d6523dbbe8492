use Rattle.std.proofs.Common.{◌≡◌, ◌+◌, ◌-◌, ◌++◌, length, map, drop}
use Rattle.module_tree.specs.Scopes.{local_signals}
use Rattle.link_faults.specs.InnermostFirst.{IsScope, in_scope, shown}
use Rattle.link_faults.proofs.scope.Scope.enter_signals.Given as goal

abbrev pub invariant-signals : goal.invariant-signals
invariant-signals l = record {
  scope : IsScope l.self;
  declared : in_scope l.self ≡ map shown (local_signals (l.first + (length l.signals - l.behind))
      (drop (length l.signals - l.behind) l.signals)) ++ in_scope l.initial.self;
}
