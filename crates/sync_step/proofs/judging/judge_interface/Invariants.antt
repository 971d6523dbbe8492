use Rattle.std.proofs.Common.{◌≡◌}
use Rattle.hh_term.specs.MustCan.{table_of}
use Rattle.hh_term.specs.ProgramView.{kernel_of}
use Rattle.sync_step.specs.Reacting.{JudgedAll}
use Rattle.sync_step.proofs.judging.judge_interface.Given as goal

abbrev pub invariant-loop-signal : goal.invariant-loop-signal
invariant-loop-signal l = record {
  same : l.pass ≡ record l.initial.pass { fault = l.pass.fault; doubled = l.pass.doubled };
  judged : JudgedAll (table_of (kernel_of l.program)) l.signal l.emitted l.initial.pass l.pass;
}
