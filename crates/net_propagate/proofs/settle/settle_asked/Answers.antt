use Rattle.net_propagate.specs.Settling.{nets_in, question_in}
use Rattle.net_propagate.proofs.Stepping.{begins}
use Rattle.net_propagate.proofs.settle.settle_asked.Goals as goal

pub sweeps-init : goal.sweeps-init
sweeps-init c =
    record {
      listed = c.requires.listed;
      rising = begins (nets_in c.args.task.now) (question_in c.args.task.now) c.args.place.now c.forget.new.place
          c.requires.room c.forget.ensures.blank c.forget.ensures.room;
    }
