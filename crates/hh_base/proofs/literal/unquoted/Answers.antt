use Rattle.std.proofs.Common.{◌≡◌, ◌∷◌, [], ◌++◌, List, ℕ, true, sym, ap, ◌∙◌}
use Rattle.std.specs.List.{flat_map}
use Rattle.hh_base.specs.Literal.{escaped}
use Rattle.hh_base.proofs.Quotes.{only-text, no-text}
use Rattle.hh_base.proofs.literal.unquoted.Goals as goal

pub returns-then-not-is_quote-clause-only : goal.returns-then-not-is_quote-clause-only
returns-then-not-is_quote-clause-only c t plain is =
    let loop = c.loop-byte in
    no-text loop.bytes.items t loop.rest.now loop.invariant.plain plain (sym loop.invariant.split ∙ is)
    (sym c.in_default.ensures.next)
    (λ e. let quote : c.is_quote.result ≡ true = c.is_quote.ensures.1 e in let no : ⊥ = cc in no)

pub returns-clause-only : goal.returns-clause-only
returns-clause-only c t plain is =
    let loop = c.loop-byte in
    let quote : loop.rest.now ≡ 34 ∷ [] = c.is_quote.ensures.0 c.if-not-is_quote.false in
    only-text loop.bytes.items t loop.invariant.plain plain
    (sym (loop.invariant.split ∙ ap (λ (l : List ℕ). flat_map escaped loop.bytes.items ++ l) quote)
    ∙ is)
