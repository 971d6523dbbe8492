use Rattle.std.proofs.Common.{arith}
use Rattle.expression_reader.proofs.Words.{plain_word}
use Rattle.expression_reader.proofs.terminal.word.Goals as goal

pub returns-in_default : goal.returns-in_default
returns-in_default c = plain_word c.args.text.now (λ e. omega (arith, c)) (λ e. omega (arith, c))
    (λ e. omega (arith, c)) (λ e. omega (arith, c))

pub returns-in_default-2 : goal.returns-in_default-2
returns-in_default-2 c = plain_word c.args.text.now (λ e. omega (arith, c)) (λ e. omega (arith, c))
    (λ e. omega (arith, c)) (λ e. omega (arith, c))
