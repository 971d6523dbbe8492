use Rattle.std.proofs.Common.{ap, ◌∙◌, cond, not, ◌||◌}
use Rattle.host_expr.specs.declared.cell.Cell.TheVariants as cell
use Rattle.host_expr.specs.Environment.{env_of}
use Rattle.hh_term.specs.MustCan.{value_by}
use Rattle.net_solution.specs.Equations.{is_absent, made}
use Rattle.net_solution.specs.Places.{known_by}
use Rattle.net_solution.specs.Tallied.{possible}
use Rattle.net_solution.proofs.Tallying.{value_told}
use Rattle.net_solution.proofs.signal.tallied_value.Goals as goal

pub returns : goal.returns
returns c = λ es same.
    let s = c.args.signal in
    let k = c.args.net_signal.now.decl.kind in
    let w = c.args.net_signal.now.decl.combine in
    let base = c.is_base_known-base_known.ensures ∙ ap (λ xs. (known_by xs s).base) c.deref-2.ensures.value in
    let preval = c.in_ok-preval.ensures ∙ ap (λ xs. (env_of xs s).preval) c.deref.ensures.value in
    let status = c.solved-solved.ensures.status w (made es) (possible es) same in
    let value = c.solved-solved.ensures.value w (made es) (possible es) same
    ∙ ap (λ p. value_by k w p (made es) (possible es)) preval in
    c.over_base.ensures
    ∙ (λ i. cond (base i || not (is_absent (status i))) (value i) cell.Unknown)
    ∙ value_told k w (known_by c.args.place.now.before.items s).base
    (env_of c.args.place.now.cells.signals.items s).preval es
