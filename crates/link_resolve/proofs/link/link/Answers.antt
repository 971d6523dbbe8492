use Rattle.std.proofs.Common.{subst}
use Rattle.link_faults.specs.FirstFault.{IsVerdict}
use Rattle.link_resolve.proofs.link.link.Goals as goal

pub resolve-requires : goal.resolve-requires
resolve-requires c = subst (IsVerdict c.args.modules.now) c.in-None.is c.in_ok-first.ensures

pub returns-in-Some : goal.returns-in-Some
returns-in-Some c = subst (IsVerdict c.args.modules.now) c.in-Some.is c.in_ok-first.ensures

pub returns-in_ok-resolve-in-None : goal.returns-in_ok-resolve-in-None
returns-in_ok-resolve-in-None c = (
  subst (IsVerdict c.args.modules.now) c.in-None.is c.in_ok-first.ensures,
  c.in_ok-resolve-in-None.ensures,
)
