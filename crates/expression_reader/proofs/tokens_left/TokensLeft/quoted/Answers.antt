use Rattle.std.proofs.Common.{◌≡◌, true, sym, subst}
use Rattle.grammar.specs.Tokens.{kind_of, passes}
use Rattle.expression_reader.specs.Rules.{is_quoted}
use Rattle.expression_reader.proofs.QuotedWords.{first_quoted}
use Rattle.expression_reader.proofs.tokens_left.TokensLeft.quoted.Goals as goal

pub unreachable-requires-in_default : goal.unreachable-requires-in_default
unreachable-requires-in_default c =
    c.in_default.not-Quoted (first_quoted c.self.inside.text.now c.self.inside.rest.now _
    (subst (λ ts. passes is_quoted (kind_of ts) ≡ true) (sym c.self.view_is) c.requires))
