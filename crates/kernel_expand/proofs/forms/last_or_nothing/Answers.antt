use Rattle.std.proofs.Common.{◌++◌, ap, ◌∙◌, arith, option_to_list}
use Rattle.hh_term.specs.Placed.{placed_term}
use Rattle.kernel_expand.proofs.Lasts.{none_left, one_left}
use Rattle.kernel_expand.proofs.forms.last_or_nothing.Goals as goal

pub returns-then-count-eq0-clause-term : goal.returns-then-count-eq0-clause-term
returns-then-count-eq0-clause-term c = λ j. c.nothing.ensures
    ∙ none_left j c.args.at.pos placed_term c.args.terms.now.items c.args.count c.if-count-eq0.true

pub returns-in-Some-clause-term : goal.returns-in-Some-clause-term
returns-in-Some-clause-term c =
    λ j. one_left j c.args.at.pos placed_term c.args.terms.now.items c.pop.new.self.items c.in-Some.term
    c.args.count (let one = c.requires.one in let some = c.if-count-eq0.false in omega arith)
    (c.pop.ensures.items ∙ ap (λ o. c.pop.new.self.items ++ option_to_list o) c.in-Some.is)
