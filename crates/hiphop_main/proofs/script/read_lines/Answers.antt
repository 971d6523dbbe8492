use Rattle.std.proofs.Common.{sym, subst}
use Rattle.scenario_lines.specs.declared.line.Mode.TheVariants.{Play}
use Rattle.hiphop_main.specs.Scripts.{IsOnlyScenario}
use Rattle.hiphop_main.proofs.LinesFit.{few_lines}
use Rattle.hiphop_main.proofs.script.read_lines.Goals as goal

pub returns-in-Ok-clause-lines : goal.returns-in-Ok-clause-lines
returns-in-Ok-clause-lines c =
    subst (λ s. IsOnlyScenario s c.args.text.now c.in-Ok.lines.items) c.named_signals.ensures.signals
    (record { is = c.in-Ok.ensures.found; only = λ ms h. sym (c.in-Ok.ensures.only ms h) })

pub returns-in-Ok-clause-few : goal.returns-in-Ok-clause-few
returns-in-Ok-clause-few c =
    few_lines c.named_signals.result.now Play c.args.text.now c.in-Ok.lines.items c.in-Ok.ensures.found
