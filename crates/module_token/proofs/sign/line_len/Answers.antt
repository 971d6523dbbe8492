use Rattle.module_token.proofs.Lines.{line_found}
use Rattle.module_token.proofs.sign.line_len.Goals as goal

pub returns-in-Some-clause-len : goal.returns-in-Some-clause-len
returns-in-Some-clause-len c = line_found c.args.text.now c.in-Some.len c.in-Some.ensures.cases
