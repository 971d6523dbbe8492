use Rattle.std.proofs.Common.{ap, ◌∙◌}
use Rattle.host_expr.specs.Expression.{expression_of}
use Rattle.loop_copy.specs.Renaming.{numbers_in}
use Rattle.loop_copy.proofs.Renamed.{is_renamed}
use Rattle.loop_copy.proofs.renaming.renumbered.Goals as goal

pub returns : goal.returns
returns c = ap expression_of c.in_ok-expr.ensures ∙ is_renamed (numbers_in c.args.numbers.now) c.args.expr.now
