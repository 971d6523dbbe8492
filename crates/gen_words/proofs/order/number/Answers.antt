use Rattle.std.specs.Str.Parse.{ParsesUnsigned, ExplainsUnsignedError, HasUnsignedDigitsIfOk}
use Rattle.clap.specs.Words.{found_of, without_minus}
use Rattle.clap.proofs.CallerReads.{signed_reads}
use Rattle.gen_words.proofs.Taken.{found_number}
use Rattle.gen_words.proofs.order.number.Goals as goal

pub returns : goal.returns
returns c = λ least most small reads.
    let one = c.get_one.ensures.value (without_minus reads.text) reads.given in
    let got = signed_reads _ (λ bs r. ParsesUnsigned 32 10 bs r × ExplainsUnsignedError 10 bs r × HasUnsignedDigitsIfOk bs r) 32 least most
    reads.text c.get_one.result one (λ u x g. g.0) small reads.within in
    found_number _ (λ bs r. ParsesUnsigned 32 10 bs r × ExplainsUnsignedError 10 bs r × HasUnsignedDigitsIfOk bs r)
    (found_of c.args.matches.now) c.args.name.now (without_minus reads.text) c.get_one.result got.0 most got.1 got.3 reads.given one (λ u x g. g.0)
