use Rattle.std.proofs.Common.{◌≡◌, arith}
use Rattle.std.proofs.lemmas.Grind.{common_steps}
use Rattle.signal_bank.specs.Outcome.{outcome}
use Rattle.signal_bank.proofs.Outcomes.{single_exactly}
use Rattle.signal_bank.proofs.combination.combine.Goals as goal

pub returns-in-len1-up-clause-single : goal.returns-in-len1-up-clause-single
returns-in-len1-up-clause-single c =
    let e : c.combine_several.result ≡ outcome c.args.word c.args.bag.now = grind (arith, common_steps) in
    single_exactly _ _ _ _ e
