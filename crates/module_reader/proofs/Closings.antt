-- What stands in curly brackets, by the step that opens one.
use Rattle.std.proofs.Common.{◌≡◌, ℕ, zero, suc, List, Ok, Err, refl}
use Rattle.module_token.specs.declared.punct.Punct.TheVariants as k
use Rattle.module_tree.specs.declared.source.BlockNode.{BlockNode}
use Rattle.module_tree.specs.declared.source.StatementNode.{StatementNode}
use Rattle.grammar.specs.Parser.{Unread, Parsed, ◌>>=◌, ◌>>◌, pure, and_then, many, opening, opened}
use Rattle.expression_reader.specs.declared.terminal.Terminal.{Terminal}
use Rattle.expression_reader.specs.Terminals.{is_in_curly}
use Rattle.expression_reader.specs.Trees.{Name}
use Rattle.expression_reader.specs.Reference.{Parser, punct}
use Rattle.module_reader.specs.Trees.{block_at}
use Rattle.module_reader.specs.Reference.{statement, block_with, block}

-- statements, and the bracket that closes
closed_behind : Parser (StatementNode Name) → ℕ → Parser (BlockNode Name)
closed_behind inner place = do
  xs ← many is_in_curly inner
  punct k.RightBrace
  pure (block_at place xs)

by_bracket : (room : ℕ) (o : Parsed Terminal ℕ)
    → and_then (and_then {A = ℕ} {B = ℕ × ℕ} o (λ place. pure (place, room)))
    (λ bracket. closed_behind (statement (block room) room) bracket.0)
    ≡ and_then (and_then {A = ℕ} {B = ℕ × ℕ} o (λ place. pure (place, room)))
    (λ bracket. closed_behind (statement (block bracket.1) bracket.1) bracket.0)
by_bracket room (Ok q) = refl
by_bracket room (Err e) = refl

pub block_opened : (room : ℕ) (i : Unread Terminal) → block room i
    ≡ block_with (λ left. statement (block left) left) room i
unfolding block block_with opened opening closed_behind
block_opened zero i = refl
block_opened (suc room) i = by_bracket room (punct k.LeftBrace i)
