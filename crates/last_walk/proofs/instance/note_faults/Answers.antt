use Rattle.std.proofs.Common.{sym, subst, ap, ◌∙◌, take, [], ◌∷◌, ◌++◌}
use Rattle.std.proofs.lemmas.List.{take_more, take_all}
use Rattle.last_walk.specs.LastWalk.{faults_in, Noted}
use Rattle.last_walk.proofs.Noting.{noted_none}
use Rattle.last_walk.proofs.Instances.{one_fault_more}
use Rattle.last_walk.proofs.instance.note_faults.Goals as goal

pub loop-cell-init : goal.loop-cell-init
loop-cell-init c T = noted_none T c.args.pass.now

pub loop-cell-preserved : goal.loop-cell-preserved
loop-cell-preserved c T =
    let cs = c.args.cells.now in
    let i = c.loop-cell.cell-index in
    let x = c.cell-item.result in
    subst (λ z. Noted T [] [] (faults_in z) [] c.args.pass.now c.note_fault.new.self)
    (ap (λ y. take i cs ++ y ∷ []) c.cell-item.is ∙ sym (take_more cs i x c.loop-cell-test.true))
    (one_fault_more T (take i cs) x c.args.pass.now c.loop-cell.pass c.note_fault.new.self (c.loop-cell.invariant T)
    (c.note_fault.ensures.noted T))

pub returns : goal.returns
returns c T = subst (λ z. Noted T [] [] (faults_in z) [] c.args.pass.now c.loop-cell.pass)
    (take_all c.loop-cell.cell-index c.args.cells.now c.loop-cell-test.false) (c.loop-cell.invariant T)
