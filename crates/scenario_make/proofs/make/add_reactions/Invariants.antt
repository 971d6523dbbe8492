use Rattle.std.proofs.Common.{◌≡◌, ◌++◌}
use Rattle.scenario_make.specs.Make.{lines_up_to, reaction_line}
use Rattle.scenario_make.proofs.make.add_reactions.Given as goal

abbrev pub invariant-reactions : goal.invariant-reactions
invariant-reactions l = l.text.items ≡ l.fn.text.items ++ lines_up_to l.before reaction_line
