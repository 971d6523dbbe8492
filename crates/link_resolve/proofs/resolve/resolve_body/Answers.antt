use Rattle.std.proofs.Common.{◌∙◌}
use Rattle.link_resolve.proofs.ModuleParts.{body_made}
use Rattle.link_resolve.proofs.resolve.resolve_body.Goals as goal

pub returns : goal.returns
returns c = λ parts. body_made parts c.args.body.now c.in_ok-places.places c.in_ok-resolve_expr.field-0
    c.in_ok-copy.field-0 c.in_ok-copy_parameters.field-0 c.as_slice.result.now c.as_slice.ensures
    c.in_ok-places.ensures.signals c.in_ok-places.ensures.parameters c.in_ok-resolve_expr.ensures
    c.in_ok-copy.ensures (c.in_ok-copy_parameters.ensures ∙ c.as_slice-2.ensures)
