use Rattle.std.proofs.Common.{sym}
use Rattle.scenario_lines.proofs.Numbering.{found, found_within, unfound}
use Rattle.scenario_lines.proofs.interface.NameIndex.find_input.Goals as goal

pub bounds-self-inside-number : goal.bounds-self-inside-number
bounds-self-inside-number c =
    found_within c.self.inside.signals.now c.self.inside.numbers c.args.name.now c.in_ok-number.field-0.now
    c.self.invariant.index (sym c.in_ok-number.ensures.value)

pub returns-in_err-number-clause-input : goal.returns-in_err-number-clause-input
returns-in_err-number-clause-input c =
    rw (c.from_residual.ensures, ← c.self.view_is) (unfound c.self.inside.signals.now c.self.inside.numbers
    c.args.name.now c.self.invariant.index (sym c.in_err-number.ensures.value))

pub returns-in_err-number-clause-words : goal.returns-in_err-number-clause-words
returns-in_err-number-clause-words c = rw (← c.self.view_is) c.self.invariant.words

pub returns-clause-input : goal.returns-clause-input
returns-clause-input c =
    rw (← c.self.view_is) (found c.self.inside.signals.now c.self.inside.numbers c.args.name.now
    c.in_ok-number.field-0.now c.index-self-number.result c.self.invariant.index
    (sym c.in_ok-number.ensures.value) c.index-self-number.is)

pub returns-clause-words : goal.returns-clause-words
returns-clause-words c = rw (← c.self.view_is) c.self.invariant.words
