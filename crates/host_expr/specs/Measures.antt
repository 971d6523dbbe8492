-- How large an expression is, and which signals it reads. (This project's own.)
use Rattle.std.specs.Prelude.{ℕ, ◌+◌, ◌-◌, ◌/◌, List, [], ◌∷◌, ◌++◌, length}
use Rattle.host_expr.specs.declared.expr.TheConstants.{TEXT_BLOCK}
use Rattle.host_expr.specs.Expression.{Expression, Text, Now, Pre, NowVal, PreVal, Not, Neg, Arith}
use Rattle.host_expr.specs.Expression.{Compare, And, Or, Choose}

-- blocks of a text's bytes, begun
abbrev pub text_blocks : List ℕ → ℕ
text_blocks t = (length t + (TEXT_BLOCK - 1)) / TEXT_BLOCK

abbrev pub leaves_and_operators : Expression → ℕ
leaves_and_operators (Not a) = 1 + leaves_and_operators a
leaves_and_operators (Neg p a) = 1 + leaves_and_operators a
leaves_and_operators (Arith p op a b) = 1 + leaves_and_operators a + leaves_and_operators b
leaves_and_operators (Compare rel a b) = 1 + leaves_and_operators a + leaves_and_operators b
leaves_and_operators (And a b) = 1 + leaves_and_operators a + leaves_and_operators b
leaves_and_operators (Or a b) = 1 + leaves_and_operators a + leaves_and_operators b
leaves_and_operators (Choose a b c) =
    1 + leaves_and_operators a + leaves_and_operators b + leaves_and_operators c
leaves_and_operators _ = 1

-- one for each leaf and operator, and one more for each block of a literal text begun
abbrev pub size_of_expression : Expression → ℕ
size_of_expression (Text t) = 1 + text_blocks t
size_of_expression (Not a) = 1 + size_of_expression a
size_of_expression (Neg p a) = 1 + size_of_expression a
size_of_expression (Arith p op a b) = 1 + size_of_expression a + size_of_expression b
size_of_expression (Compare rel a b) = 1 + size_of_expression a + size_of_expression b
size_of_expression (And a b) = 1 + size_of_expression a + size_of_expression b
size_of_expression (Or a b) = 1 + size_of_expression a + size_of_expression b
size_of_expression (Choose a b c) = 1 + size_of_expression a + size_of_expression b + size_of_expression c
size_of_expression _ = 1

-- the signals that it reads, from left to right
abbrev pub signals_read : Expression → List ℕ
signals_read (Now s) = s ∷ []
signals_read (Pre s) = s ∷ []
signals_read (NowVal s) = s ∷ []
signals_read (PreVal s) = s ∷ []
signals_read (Not a) = signals_read a
signals_read (Neg p a) = signals_read a
signals_read (Arith p op a b) = signals_read a ++ signals_read b
signals_read (Compare rel a b) = signals_read a ++ signals_read b
signals_read (And a b) = signals_read a ++ signals_read b
signals_read (Or a b) = signals_read a ++ signals_read b
signals_read (Choose a b c) = signals_read a ++ signals_read b ++ signals_read c
signals_read _ = []
