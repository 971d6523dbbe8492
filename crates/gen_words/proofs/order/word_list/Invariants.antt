use Rattle.std.proofs.Common.{◌≡◌, map, take}
use Rattle.gen_words.proofs.order.word_list.Given as goal

abbrev pub invariant-words : goal.invariant-words
invariant-words l = map (λ word. word.now) l.list.items ≡ take l.at l.words
