use Rattle.std.proofs.Common.{rules, ◌≡◌, sym, subst}
use Rattle.turn_cell.specs.Lists.{Among, merge}
use Rattle.turn_cell.proofs.Keeps.{clears}
use Rattle.turn_cell.proofs.Merged.{among_merge, merge_among}
use Rattle.turn_cell.proofs.Shares.{joins, at_rest}
use Rattle.turn_cell.proofs.cell.TurnCell.join.Goals as goal

pub join_seat-requires : goal.join_seat-requires
join_seat-requires g c =
    let r = at_rest c.args.other.pass.me c.args.other.rests in
    (c.requires.own, c.requires.other, r.held, search rules, joins _ _ _ _ _ _ _ r.stage)

pub load-requires : goal.load-requires
load-requires g c = (search rules, search rules, clears _ _ _ _ _ _)

pub returns-clause-places : goal.returns-clause-places
returns-clause-places g c =
    let v = c.args.seat.now.pass.me.0 in let w = c.args.other.pass.me.0 in
    let mine : c.load.new.seat.me.0.mine ≡ merge v.mine w.mine = search rules in
    λ p. (
      λ k. among_merge p v.mine w.mine (subst (Among p) mine k),
      λ k. subst (Among p) (sym mine) (merge_among p v.mine w.mine k),
    )
