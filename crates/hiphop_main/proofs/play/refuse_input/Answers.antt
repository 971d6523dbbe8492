use Rattle.std.proofs.Common.{refl}
use Rattle.hiphop_main.specs.Play.{unanswered}
use Rattle.hiphop_main.proofs.Scripts.{refused_played}
use Rattle.hiphop_main.proofs.play.refuse_input.Goals as goal

pub returns-in-NoMemory : goal.returns-in-NoMemory
returns-in-NoMemory g c = λ hooks input h. unanswered refl

pub returns-in_default : goal.returns-in_default
returns-in_default g c = λ hooks input h. refused_played hooks input c.args.cause c.refuse.result (g.K.Sink.state c.args.sink.now) (g.K.Sink.state c.refuse.new.sink) c.in_default.not-NoMemory h c.refuse.ensures
