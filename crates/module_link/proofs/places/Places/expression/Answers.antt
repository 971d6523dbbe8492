use Rattle.std.proofs.Common.{ap, ◌∙◌}
use Rattle.module_link.proofs.ShownPlaces.{shown_expr}
use Rattle.module_link.proofs.places.Places.expression.Goals as goal

pub returns : goal.returns
returns c = λ k shows. ap (λ x. record { pos = c.args.x.now.pos; expr = x })
    (c.in_ok-resolve_expr.ensures ∙ shown_expr c.args.self.now k shows c.args.x.now.expr)
