use Rattle.std.proofs.Common.{◌∙◌, ap, arith, map}
use Rattle.std.specs.Borrow.{Bor}
use Rattle.clap.specs.Words.{Text}
use Rattle.gen_words.proofs.Taken.{order_of}
use Rattle.gen_words.proofs.order.read_order.Goals as goal

pub returns-clause-order : goal.returns-clause-order
returns-clause-order c =
    let parse = c.in_ok-matches.ensures.taken in
    order_of c.in_ok-matches.matches _ c.args.words.now c.in-Some.seed c.in-Some-number.size parse
    (ap (map (λ (w : Bor Text). w.now)) c.as_slice.ensures.value ∙ c.in-Ok.ensures)
    (c.in-Some.ensures 0 4294967295 (omega arith) parse.both.seed).0 (c.in-Some-number.ensures 1 1000 (omega arith) parse.both.size).0
