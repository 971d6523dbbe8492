use Rattle.std.proofs.Common.{ap, ◌∙◌}
use Rattle.hh_term.specs.MustCan.{table_of}
use Rattle.hh_term.specs.ProgramView.{kernel_of}
use Rattle.last_walk.specs.declared.last_pass.LastPass.{LastPass}
use Rattle.sync_step.proofs.OneByOne.{one_judged}
use Rattle.sync_step.proofs.judging.judge_interface.Goals as goal

pub loop-signal-preserved : goal.loop-signal-preserved
loop-signal-preserved c =
    let n = c.loop-signal.signal in
    let em = c.args.emitted.now in
    let b1 = c.loop-signal.pass in
    let b2 = c.judge.new.self in
    let e = c.emissions_of.result.now in
    record {
      same = c.judge.ensures.same
          ∙ ap (λ (b : LastPass). let x : LastPass = record b { fault = b2.fault; doubled = b2.doubled } in x)
          c.loop-signal.invariant.same;
      judged = one_judged (table_of (kernel_of c.args.program.now)) n em e c.args.pass.now b1 b2
          c.emissions_of.ensures c.loop-signal.invariant.judged c.judge.ensures.judged;
    }
