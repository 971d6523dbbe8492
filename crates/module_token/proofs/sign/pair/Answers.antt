use Rattle.std.proofs.Common.{sym, arith}
use Rattle.module_token.proofs.Cuts.{long_cut}
use Rattle.module_token.proofs.sign.pair.Goals as goal

pub returns-in-Some-clause-cut : goal.returns-in-Some-clause-cut
returns-in-Some-clause-cut c = (
  omega arith,
  long_cut c.args.text.now c.args.first c.args.second
      c.in-Some.mark c.utf8.text c.requires.both c.requires.second (sym c.in-Some.ensures),
)
