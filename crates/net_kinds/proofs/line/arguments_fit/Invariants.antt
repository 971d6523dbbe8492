use Rattle.std.proofs.Common.{◌≡◌, drop}
use Rattle.net_list.specs.Kinds.{arguments_fit}
use Rattle.net_kinds.proofs.line.arguments_fit.Given as goal

abbrev pub invariant-loop-param : goal.invariant-loop-param
invariant-loop-param l =
    arguments_fit l.scope.signals.items l.params l.args
    ≡ arguments_fit l.scope.signals.items (drop l.param-index l.params) l.rest
