use Rattle.host_hooks.specs.Stored.{promises_of}
use Rattle.hiphop_main.specs.Play.{bodies_of}
use Rattle.hiphop_main.proofs.Scripts.{bare_at}
use Rattle.hiphop_main.proofs.script.check_hooks.Goals as goal

pub returns-in-Err : goal.returns-in-Err
returns-in-Err g c =
    bare_at (promises_of c.args.hooks.now) c.bodies-bodies.result.now (bodies_of c.args.program.now) c.in-Err.place
    c.index-bodies-place.result c.bodies-bodies.ensures.placed c.in-Err.ensures.first c.index-bodies-place.is
