use Rattle.std.proofs.Common.{◌≡◌, ◌-◌, length, map, drop}
use Rattle.module_tree.specs.Scopes.{interface_from}
use Rattle.link_faults.specs.InnermostFirst.{IsScope, in_scope, shown}
use Rattle.link_resolve.proofs.scopes.interface_scope.Given as goal

abbrev pub invariant-signals : goal.invariant-signals
invariant-signals l = record {
  scope : IsScope l.scope;
  declared : in_scope l.scope ≡ map shown (interface_from (length l.interface - l.behind)
      (drop (length l.interface - l.behind) l.interface));
}
