use Rattle.std.proofs.Common.{sym, subst, ◌∙◌}
use Rattle.hh_base.specs.Literal.{IsLiteral}
use Rattle.hh_base.specs.declared.value.Value.TheVariants as value_kind
use Rattle.std.specs.Prelude.{slice_range}
use Rattle.module_token.proofs.Unquoted.{value_of_quoted}
use Rattle.module_token.proofs.tokens.unquote.Goals as goal

pub returns-in-Ok-clause-value : goal.returns-in-Ok-clause-value
returns-in-Ok-clause-value c =
    let literal : IsLiteral c.token_text.result.now (value_kind.Text c.into_text.result) =
    subst (IsLiteral c.token_text.result.now) c.into_text.ensures c.in-Ok.ensures.found in
    sym (value_of_quoted c.into_text.result (slice_range c.args.text.now c.args.token.start
    c.args.token.«end») literal.0 (sym c.token_text.ensures ∙ literal.1))
