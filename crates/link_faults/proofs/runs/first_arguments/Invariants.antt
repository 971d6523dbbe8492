use Rattle.std.proofs.Common.{◌≡◌, drop}
use Rattle.link_faults.specs.Faults.{earlier}
use Rattle.link_faults.specs.Meanings.{kind_of_signal, kind_of_parameter}
use Rattle.link_faults.specs.RunFaults.{first_arguments}
use Rattle.link_faults.proofs.runs.first_arguments.Given as goal

abbrev pub invariant-each : goal.invariant-each
invariant-each l = first_arguments (kind_of_signal l.names) (kind_of_parameter l.names) l.kinds l.args
    ≡ earlier l.first (first_arguments (kind_of_signal l.names) (kind_of_parameter l.names) l.left
    (drop l.arg-index l.args))
