use Rattle.module_token.proofs.Digits.{number_large}
use Rattle.module_token.proofs.number.number_cut.Goals as goal

pub returns-in_default-2 : goal.returns-in_default-2
returns-in_default-2 c = number_large c.args.digits.now c.args.len c.in_default.field-0
    c.in_default.ensures.value.0 c.requires.digits c.requires.some
