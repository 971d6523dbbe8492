use Rattle.std.proofs.Common.{◌≡◌, ◌≤◌, sym, ap, ◌∙◌, subst, arith}
use Rattle.hh_term.specs.Statement.{Loop}
use Rattle.hh_term.specs.Sizes.{height_of}
use Rattle.hh_term.specs.Views.{statement_of, node_statement}
use Rattle.status_rounds.proofs.Declared.{loops_height}
use Rattle.status_rounds.proofs.opening.+loops_round.Goals as goal

pub overflow_add-result : goal.overflow_add-result
overflow_add-result t c =
    let p = statement_of c.deref-in-Loop.result.now in
    let e : statement_of c.args.term.now ≡ Loop p = ap node_statement c.in-Loop.is ∙ ap
    (λ x. Loop (statement_of x)) (sym c.deref-in-Loop.ensures) in
    let h : height_of (Loop p) ≤ 1024 = subst (λ x. height_of x ≤ 1024) e c.requires in
    let le = loops_height p in
    let r = c.loops_round-in-Loop.ensures in
    omega (arith, h, le, r)
