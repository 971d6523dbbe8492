use Rattle.std.proofs.Common.{sym, refl}
use Rattle.std.proofs.lemmas.List.{append-nil}
use Rattle.module_tree.specs.Parts.{Test, Times, here}
use Rattle.link_faults.specs.Walks.{Follows}
use Rattle.link_faults.proofs.EarlierLaws.{earlier_none}
use Rattle.link_faults.proofs.WalkLaws.{follows_here, follows_then}
use Rattle.link_verdict.proofs.blocks.over_later.Goals as goal

pub returns-in-Count : goal.returns-in-Count
returns-in-Count c =
    let parts = c.args.text.now.parts.now in
    let old = c.args.walker.now in
    let n = c.in-Count.field-0 in
    let x = c.in-Count.x in
    let times : Follows parts (here (Times n)) old old = follows_here parts (Times n) old old refl refl
    (sym (append-nil old.runs)) (λ scope s. sym (earlier_none old.first)) in
    rw c.in-Count.is (follows_then parts (here (Times n)) (here (Test x)) old old c.test-in-Count.new.self times
    c.test-in-Count.ensures)
