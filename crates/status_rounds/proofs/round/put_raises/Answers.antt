use Rattle.std.proofs.Common.{sym, subst, ◌∙◌, ℕ}
use Rattle.hh_base.specs.declared.value.Tri.{Tri}
use Rattle.host_expr.specs.declared.cell.Cell.{Cell}
use Rattle.status_table.specs.TableView.{cells_in}
use Rattle.status_table.specs.Walking.{AllPut}
use Rattle.status_rounds.specs.Rounds.{HasPlace, shape_of}
use Rattle.status_rounds.proofs.Taking.{Taking, one_taken, put_parts}
use Rattle.status_rounds.proofs.round.put_raises.Goals as goal

pub put-requires : goal.put-requires
put-requires c =
    let Q : ℕ → ℕ → Tri × Cell → Type 0 = λ s n v. HasPlace (shape_of c.loop-raise.table) s n in
    (put_parts Q c.pop.new.self.items c.in-Some.raise
    (subst (AllPut Q) c.in-Some.ensures.items c.loop-raise.invariant.places)).1

pub loop-raise-preserved : goal.loop-raise-preserved
loop-raise-preserved c =
    let l = c.loop-raise in
    let Q : ℕ → ℕ → Tri × Cell → Type 0 = λ s n v. HasPlace (shape_of l.table) s n in
    let left = c.pop.new.self.items in
    let all = c.args.raised.now.items in
    let τ = cells_in c.args.table.now in
    record {
      places = subst (λ z. AllPut (λ s n v. HasPlace z s n) left) (sym c.put.ensures.shape)
          (put_parts Q left c.in-Some.raise (subst (AllPut Q) c.in-Some.ensures.items l.invariant.places)).0;
      shape = c.put.ensures.shape ∙ l.invariant.shape;
      taking = one_taken all left c.in-Some.raise τ (cells_in l.table) (cells_in c.put.new.table)
          (subst (λ z. Taking all z τ (cells_in l.table)) c.in-Some.ensures.items l.invariant.taking)
          c.put.ensures.puts;
    }
