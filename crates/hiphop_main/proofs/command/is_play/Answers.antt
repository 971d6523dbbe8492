use Rattle.std.proofs.Common.{◌∙◌, sym}
use Rattle.std.proofs.lemmas.Slice.Eq.{bytes_eq-Decides}
use Rattle.hiphop_main.proofs.Plays.{one_word, first_word}
use Rattle.hiphop_main.proofs.command.is_play.Goals as goal

pub returns-then-len-eq1 : goal.returns-then-len-eq1
returns-then-len-eq1 c = (
  λ t. one_word c.args.words.now c.in-Some.word.now _ c.in-Some.ensures (sym c.len.ensures ∙ c.if-len-eq1.true) ((bytes_eq-Decides c.in-Some.word.now _).0 (sym c.eq.ensures ∙ t)),
  λ e. c.eq.ensures ∙ (bytes_eq-Decides c.in-Some.word.now _).1 (first_word c.args.words.now c.in-Some.word.now _ c.in-Some.ensures e),
)
