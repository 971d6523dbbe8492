use Rattle.std.proofs.Common.{◌∙◌, sym, ap}
use Rattle.module_link.specs.Resolved.{resolved_part}
use Rattle.link_resolve.proofs.resolve.resolve_part.Goals as goal

pub returns-in_ok-resolve_body-in-Body : goal.returns-in_ok-resolve_body-in-Body
returns-in_ok-resolve_body-in-Body c =
    let parts = c.args.text.now.parts.now in
    c.in_ok-resolve_body-in-Body.ensures parts ∙ ap (resolved_part parts) (sym c.in-Body.is)
