use Rattle.std.proofs.Common.{refl, ap, arith}
use Rattle.std.specs.Prelude.{nat_le, ◌-◌}
use Rattle.exec_instance.specs.Running.{Running}
use Rattle.exec_instance.proofs.Ids.{ids_left}
use Rattle.exec_instance.proofs.instances.Instances.has_ids.Goals as goal

pub returns : goal.returns
returns c =
    ids_left c.args.self.now.last c.self.inside.last c.new_ids.result c.args.changes.now (nat_le c.new_ids.result (18446744073709551615 - c.self.inside.last)) (ap (λ (w : Running). w.last) c.self.view_is) c.new_ids.ensures refl (omega arith)
