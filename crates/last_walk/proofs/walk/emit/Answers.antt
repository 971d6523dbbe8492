use Rattle.std.proofs.Common.{◌≡◌, ap, ◌∙◌, subst, not, true, Some}
use Rattle.host_expr.specs.Environment.{is_known}
use Rattle.hh_term.specs.Step.{emit_step}
use Rattle.last_walk.specs.LastWalk.{Did}
use Rattle.last_walk.proofs.Scoping.{emit_did}
use Rattle.last_walk.proofs.walk.emit.Goals as goal

pub returns : goal.returns
returns c T =
    let b0 = c.args.pass.now in
    let known : is_known c.in_ok-cell.cell ≡ true = c.is_unknown.ensures ∙ ap not c.if-is_unknown.false in
    subst (λ x. Did T (emit_step c.args.signal x) (Some c.completes.result) b0 c.emit.new.self) c.in_ok-cell.ensures
    (emit_did T c.args.signal c.in_ok-cell.cell c.completes.result b0 c.note_fault.new.self c.emit.new.self known
    c.completes.ensures.code c.completes.ensures.next (c.note_fault.ensures.noted T) (c.in_ok-emit.ensures T))
