use Rattle.std.proofs.Common.{◌≡◌, ◌<◌, ◌++◌, [], ◌∷◌, length, get_or, ◌∙◌, ap, arith}
use Rattle.std.proofs.lemmas.List.{length-set}
use Rattle.run_graph.specs.Reach.{callees}
use Rattle.run_graph.proofs.CallersLemmas.{among_index, added_step}
use Rattle.run_graph.proofs.callers.add_to_all.Goals as goal

pub add-requires : goal.add-requires
add-requires c =
    let l : get_or c.args.called.now c.called.callee-index 0 < length c.args.callers.now.items =
    c.requires (get_or c.args.called.now c.called.callee-index 0)
    (among_index c.args.called.now c.called.callee-index c.called-test.true) in
    let e : length c.called.callers.items ≡ length c.args.callers.now.items = c.called.invariant.size in
    omega arith

pub called-preserved : goal.called-preserved
called-preserved c =
    let l : get_or c.args.called.now c.called.callee-index 0 < length c.args.callers.now.items =
    c.requires (get_or c.args.called.now c.called.callee-index 0)
    (among_index c.args.called.now c.called.callee-index c.called-test.true) in
    let e : length c.called.callers.items ≡ length c.args.callers.now.items = c.called.invariant.size in
    record {
      added = added_step c.args.callers.now.items c.called.callers.items c.add.new.callers.items
          c.args.called.now c.called.callee-index c.args.caller c.called.invariant.added c.called-test.true
          (omega arith) c.in_ok-add.ensures;
      size = ap length c.in_ok-add.ensures ∙ length-set c.called.callers.items
          (get_or c.args.called.now c.called.callee-index 0)
          (callees c.called.callers.items (get_or c.args.called.now c.called.callee-index 0)
          ++ c.args.caller ∷ []) ∙ e;
    }
