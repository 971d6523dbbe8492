use Rattle.std.proofs.Common.{refl}
use Rattle.hiphop_main.specs.Obeys.{plays, says_usage}
use Rattle.hiphop_main.proofs.Dispatch.{gen_obeys, no_word_is_one, not_both}
use Rattle.hiphop_main.proofs.command.hiphop.Goals as goal

pub returns-then-is_play : goal.returns-then-is_play
returns-then-is_play g c = plays (c.if-is_play.ensures.0 refl) c.play.ensures

pub returns-then-is_gen : goal.returns-then-is_gen
returns-then-is_gen g c = gen_obeys _ _ _ _ _ _ (c.if-is_gen.ensures.0 refl) c.gen_run.ensures

pub returns-else-is_gen : goal.returns-else-is_gen
returns-else-is_gen g c =
    says_usage (no_word_is_one _ (λ p. let t = c.if-is_play.ensures.1 p in cc) (λ w. not_both _ (c.if-is_gen.ensures.1 w) refl))
    (record { line = c.refuse.ensures; unread = refl })
