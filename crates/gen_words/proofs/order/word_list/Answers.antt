use Rattle.gen_words.proofs.Taken.{word_more}
use Rattle.gen_words.proofs.order.word_list.Goals as goal

pub words-preserved : goal.words-preserved
words-preserved c = word_more c.args.words.now c.words.at _ _ c.word_at.result c.words.invariant c.in_ok-push.ensures.items c.word_at.ensures
