use Rattle.std.proofs.Common.{rules, ◌≡◌, ◌≢◌, ap, ◌∙◌}
use Rattle.turn_cell.specs.declared.view.Stage.TheVariants.{Waiting}
use Rattle.turn_cell.proofs.Keeps.{looks}
use Rattle.turn_cell.proofs.cell.TurnCell.wait.Goals as goal

pub load-requires : goal.load-requires
load-requires g c =
    (search rules, search rules, looks _ _ _ _ _ _ c.args.ticket (ap (λ m. m.0.stage) c.loop.invariant.2 ∙ c.requires.waits))

pub loop-preserved : goal.loop-preserved
loop-preserved g c =
    let waits : c.loop.pass.me.0.stage ≡ Waiting c.args.ticket = ap (λ m. m.0.stage) c.loop.invariant.2 ∙ c.requires.waits in
    let missed : c.load.result ≢ c.args.ticket = search rules in
    (search rules, search rules, (c.load.ensures.2 c.args.ticket waits).1 missed ∙ c.loop.invariant.2)
