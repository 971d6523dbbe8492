use Rattle.std.proofs.Common.{subst, sym}
use Rattle.link_faults.specs.Meanings.{kind_of_signal, kind_of_parameter}
use Rattle.link_faults.specs.Judgements.{IsJudgement}
use Rattle.link_faults.proofs.JudgementLaws.{is_judged}
use Rattle.link_faults.proofs.judge.judge.Goals as goal

pub returns : goal.returns
returns c =
    let signals = kind_of_signal c.args.names.now in
    let args = kind_of_parameter c.args.names.now in
    subst (IsJudgement signals args c.args.expr.now) (sym c.judge_node.ensures)
    (is_judged signals args c.args.expr.now)
