use Rattle.std.proofs.Common.{rules, ◌≡◌, ◌+◌, ◌^◌, sym, ◌∙◌, is_some, unwrap_or, ap, subst, true≢false, arith}
use Rattle.turn_cell.specs.Steps.{startless}
use Rattle.turn_cell.specs.Calls.{EndsWith}
use Rattle.turn_cell.proofs.Shares.{at_close}
use Rattle.turn_cell.proofs.cell.TurnCell.close.Goals as goal

pub unreachable-requires : goal.unreachable-requires
unreachable-requires g c =
    let s = c.args.seat in let r = s.rests in
    let all : s.pass.me.0.allowance + s.pass.me.0.spent ≡ 2 ^ 63 = search rules in
    let has : startless s.pass.me.0.start ≡ 0 = omega arith in
    let h = at_close _ _ _ _ _ _ _ c.take-slot.result c.close_with-closed.ensures.values.2 all has c.take-slot.ensures.value in
    true≢false (ap is_some (sym h.1 ∙ c.in-None.is))

pub returns-clause-end : goal.returns-clause-end
returns-clause-end g c =
    let s = c.args.seat in let r = s.rests in
    let all : s.pass.me.0.allowance + s.pass.me.0.spent ≡ 2 ^ 63 = search rules in
    let has : startless s.pass.me.0.start ≡ 0 = omega arith in
    let h = at_close _ _ _ _ _ _ _ c.take-slot.result c.close_with-closed.ensures.values.2 all has c.take-slot.ensures.value in
    let same : h.0 ≡ c.in-Some.value = ap (λ o. unwrap_or o h.0) (sym h.1 ∙ c.in-Some.is) in
    subst (λ x. EndsWith s.pass.me.0 (g.T.Storied.begins x) (g.T.Storied.story x)) same h.2
