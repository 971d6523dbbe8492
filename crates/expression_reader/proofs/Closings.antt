-- What stands in round brackets, by the step that opens one.
use Rattle.std.proofs.Common.{◌≡◌, ℕ, zero, suc, Ok, Err, refl}
use Rattle.module_token.specs.declared.punct.Punct.TheVariants as k
use Rattle.host_expr.specs.declared.expr.Expr.{Expr}
use Rattle.grammar.specs.Parser.{Unread, Parsed, ◌>>=◌, ◌>>◌, pure, and_then, opening, opened}
use Rattle.expression_reader.specs.declared.terminal.Terminal.{Terminal}
use Rattle.expression_reader.specs.Trees.{Name}
use Rattle.expression_reader.specs.Reference.{Parser, punct, expression, inside, in_round}

-- an expression, and the bracket that closes
closed_behind : Parser (Expr Name) → Parser (Expr Name)
closed_behind part = do
  a ← part
  punct k.RightParen
  pure a

by_bracket : (room : ℕ) (o : Parsed Terminal ℕ)
    → and_then (and_then {A = ℕ} {B = ℕ × ℕ} o (λ place. pure (place, room)))
    (λ bracket. closed_behind (expression (inside room)))
    ≡ and_then (and_then {A = ℕ} {B = ℕ × ℕ} o (λ place. pure (place, room)))
    (λ bracket. closed_behind (expression (inside bracket.1)))
by_bracket room (Ok q) = refl
by_bracket room (Err e) = refl

pub inside_opened : (room : ℕ) (i : Unread Terminal) → inside room i
    ≡ in_round (λ left. expression (inside left)) room i
unfolding inside in_round opened opening closed_behind
inside_opened zero i = refl
inside_opened (suc room) i = by_bracket room (punct k.LeftParen i)
