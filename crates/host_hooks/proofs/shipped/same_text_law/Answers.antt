use Rattle.std.proofs.Common.{refl}
use Rattle.host_hooks.proofs.Sameness.{same_law, same_law_fits}
use Rattle.host_hooks.proofs.shipped.same_text_law.Goals as goal

pub returns-clause-law : goal.returns-clause-law
returns-clause-law c = (
  _,
  refl,
  same_law _ c.in_ok-parameter.field-0 c.in_ok-parameter-2.field-0
      c.in_ok-parameter.ensures c.in_ok-parameter-2.ensures,
)

pub returns-clause-fits : goal.returns-clause-fits
returns-clause-fits c = same_law_fits _ (
  _,
  refl,
  same_law _ c.in_ok-parameter.field-0
      c.in_ok-parameter-2.field-0 c.in_ok-parameter.ensures c.in_ok-parameter-2.ensures,
)
