use Rattle.std.proofs.Common.{refl}
use Rattle.host_hooks.specs.Promise.{promise_of}
use Rattle.host_hooks.specs.Stored.{promises_of}
use Rattle.host_hooks.proofs.Answering.{found_covers, written_covered}
use Rattle.host_hooks.proofs.table.HookTable.is_covered.Goals as goal

pub returns-in-Some : goal.returns-in-Some
returns-in-Some g c = (
  (λ _. written_covered (promises_of c.args.self.now) c.args.body.now c.in-Some.field-0
      c.in-Some.is),
  (λ _. refl),
)

pub returns-in-None : goal.returns-in-None
returns-in-None g c = found_covers (promises_of c.args.self.now) c.args.body.now promise_of c.find.result
    c.in-None.is c.find.ensures c.is_some.result c.is_some.ensures
