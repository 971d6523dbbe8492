use Rattle.std.proofs.Common.{◌∙◌, refl}
use Rattle.hiphop_main.proofs.Starts.{same_kernel}
use Rattle.hiphop_main.proofs.ready.make_ready.Goals as goal

pub returns : goal.returns
returns c =
    record {
      state = c.in_ok-machine.ensures;
      kernel = same_kernel c.args.script.program c.in_ok-machine.machine c.in_ok-machine.ensures;
      bodies = c.in_ok-bodies.ensures ∙ c.bodies.ensures.placed;
      lines = refl;
    }
