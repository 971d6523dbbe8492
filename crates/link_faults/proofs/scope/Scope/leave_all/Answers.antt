use Rattle.std.proofs.Common.{drop, ◌∙◌, ap}
use Rattle.std.proofs.lemmas.List.{drop-drop}
use Rattle.link_faults.specs.InnermostFirst.{in_scope, Named}
use Rattle.link_faults.proofs.scope.Scope.leave_all.Goals as goal

pub declared-preserved : goal.declared-preserved
declared-preserved c = record {
  scope = c.in_ok-leave.ensures.scope;
  declared = c.in_ok-leave.ensures.declared ∙ ap (drop {A = Named} 1) c.declared.invariant.declared
      ∙ drop-drop 1 c.declared.left (in_scope c.args.self.now);
}
