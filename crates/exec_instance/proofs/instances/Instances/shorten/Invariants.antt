use Rattle.std.proofs.Common.{◌≡◌, length}
use Rattle.exec_instance.proofs.Shortening.{shortened_up_to}
use Rattle.exec_instance.proofs.instances.Instances.shorten.Given as goal

abbrev pub invariant-loop-place : goal.invariant-loop-place
invariant-loop-place l =
    record {
      cut : l.instance-items ≡ shortened_up_to l.place l.lengths l.initial.instance-items;
      same : length l.lengths ≡ length l.initial.instance-items;
    }
