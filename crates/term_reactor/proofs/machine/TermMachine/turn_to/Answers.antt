use Rattle.std.proofs.Common.{◌∙◌}
use Rattle.term_reactor.proofs.machine.TermMachine.turn_to.Goals as goal

pub react_at-requires-clause-kinds : goal.react_at-requires-clause-kinds
react_at-requires-clause-kinds c = c.deref.ensures.value ∙ c.args.self.now.answers
