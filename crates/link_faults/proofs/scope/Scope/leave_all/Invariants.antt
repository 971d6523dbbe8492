use Rattle.std.proofs.Common.{◌≡◌, drop}
use Rattle.link_faults.specs.InnermostFirst.{IsScope, in_scope}
use Rattle.link_faults.proofs.scope.Scope.leave_all.Given as goal

abbrev pub invariant-declared : goal.invariant-declared
invariant-declared l = record {
  scope : IsScope l.self;
  declared : in_scope l.self ≡ drop l.left (in_scope l.initial.self);
}
