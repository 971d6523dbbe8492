use Rattle.std.proofs.Common.{eq-eqb, sym, subst, cond, ◌∷◌, []}
use Rattle.hh_base.specs.declared.value.Tri.TheVariants as tri
use Rattle.host_expr.specs.declared.cell.Cell.TheVariants as cell
use Rattle.net_solution.specs.Tallied.{Meets}
use Rattle.net_solution.proofs.Tallying.{meets_one}
use Rattle.net_solution.proofs.signal.meet_input.Goals as goal

pub returns-in_ok-add_executed : goal.returns-in_ok-add_executed
returns-in_ok-add_executed c =
    subst (Meets c.args.kind c.args.word c.args.tally c.in_ok-add_executed.field-0)
    (λ i. cond (sym (eq-eqb c.args.given.now.0 c.args.signal c.if-given-signal.true) i)
    ((tri.One, cell.Known (c.in_ok-copy.ensures i)) ∷ []) [])
    (meets_one c.args.kind c.args.word c.args.tally c.in_ok-add_executed.field-0
    (cell.Known c.in_ok-copy.field-0)
    c.in_ok-add_executed.ensures)
