use Rattle.std.proofs.Common.{◌∷◌, sym, subst}
use Rattle.std.specs.Prelude.{IfOk}
use Rattle.scenario_lines.specs.Lines.{parts_of}
use Rattle.scenario_lines.specs.Reader.{command_word}
use Rattle.scenario_lines.specs.Scenario.{IsLine}
use Rattle.scenario_lines.specs.Tells.{Tells}
use Rattle.scenario_lines.proofs.read.read_command.Goals as goal

pub returns-in-React-clause-line : goal.returns-in-React-clause-line
returns-in-React-clause-line c =
    subst (λ k. IfOk c.read_react.result (Tells (IsLine c.args.mode c.args.index.now (command_word k ∷ parts_of c.args.rest.now))))
    (sym c.in-React.is) (c.read_react.ensures.line c.args.mode)

pub returns-in-Work-clause-line : goal.returns-in-Work-clause-line
returns-in-Work-clause-line c =
    subst (λ k. Tells (IsLine c.args.mode c.args.index.now (command_word k ∷ parts_of c.args.rest.now)) c.read_work.result)
    (sym c.in-Work.is) (c.read_work.ensures c.args.index.now)

pub returns-in-Notify-clause-line : goal.returns-in-Notify-clause-line
returns-in-Notify-clause-line c =
    subst (λ k. IfOk c.read_answer.result (Tells (IsLine c.args.mode c.args.index.now (command_word k ∷ parts_of c.args.rest.now))))
    (sym c.in-Notify.is) (c.read_answer.ensures c.args.mode c.args.index.now)

pub returns-in-More-clause-line : goal.returns-in-More-clause-line
returns-in-More-clause-line c =
    subst (λ k. IfOk c.read_answer-in-More.result (Tells (IsLine c.args.mode c.args.index.now (command_word k ∷ parts_of c.args.rest.now))))
    (sym c.in-More.is) (c.read_answer-in-More.ensures c.args.mode c.args.index.now)

pub returns-in-Reset-clause-line : goal.returns-in-Reset-clause-line
returns-in-Reset-clause-line c =
    subst (λ k. Tells (IsLine c.args.mode c.args.index.now (command_word k ∷ parts_of c.args.rest.now)) c.read_reset.result)
    (sym c.in-Reset.is) (c.read_reset.ensures c.args.mode c.args.index.now)

pub returns-in-Settle-clause-line : goal.returns-in-Settle-clause-line
returns-in-Settle-clause-line c =
    subst (λ k. Tells (IsLine c.args.mode c.args.index.now (command_word k ∷ parts_of c.args.rest.now)) c.read_settle.result)
    (sym c.in-Settle.is) (c.read_settle.ensures c.args.index.now)
