use Rattle.std.proofs.Common.{rules, ◌≡◌}
use Rattle.scenario_lines.specs.declared.line.Mode.TheVariants.{Play}
use Rattle.scenario_lines.specs.Lines.{parts_of}
use Rattle.scenario_lines.proofs.Forms.{serves, settle_played, settle_read}
use Rattle.scenario_lines.proofs.read.read_settle.Goals as goal

pub returns-then-eq : goal.returns-then-eq
returns-then-eq c signals =
    let play : c.args.mode ≡ Play = search rules in
    settle_played c.args.mode signals (parts_of c.args.rest.now) play

pub returns : goal.returns
returns c signals =
    let other : c.args.mode ≡ Play → ⊥ = search rules in
    rw c.then_some.ensures (settle_read c.args.mode signals (parts_of c.args.rest.now) c.has_none.result
    (serves c.args.mode other) c.has_none.ensures)
