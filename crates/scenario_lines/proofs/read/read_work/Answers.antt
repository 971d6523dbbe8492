use Rattle.std.proofs.Common.{rules, ◌≡◌}
use Rattle.scenario_lines.specs.declared.line.Mode.TheVariants.{Serve}
use Rattle.scenario_lines.specs.Lines.{parts_of}
use Rattle.scenario_lines.proofs.Forms.{plays, work_served, work_alone, work_no_id, work_found}
use Rattle.scenario_lines.proofs.read.read_work.Goals as goal

pub returns-then-eq : goal.returns-then-eq
returns-then-eq c signals =
    let serve : c.args.mode ≡ Serve = search rules in
    work_served c.args.mode signals (parts_of c.args.rest.now) serve

pub returns-in_err-digits : goal.returns-in_err-digits
returns-in_err-digits c signals =
    rw c.from_residual.ensures (work_alone c.args.mode signals c.args.rest.now c.in_err-digits.ensures)

pub returns-in_err-id : goal.returns-in_err-id
returns-in_err-id c signals =
    rw c.from_residual-in_err-id.ensures (work_no_id c.args.mode signals c.args.rest.now
    c.in_ok-digits.digits.now c.in_ok-digits.ensures c.in_err-id.ensures.only)

pub returns : goal.returns
returns c signals =
    let other : c.args.mode ≡ Serve → ⊥ = search rules in
    work_found c.args.mode signals c.args.rest.now c.in_ok-digits.digits.now c.in_ok-id.id
    (plays c.args.mode other) c.in_ok-digits.ensures c.in_ok-id.ensures.found c.in_ok-id.ensures.only
