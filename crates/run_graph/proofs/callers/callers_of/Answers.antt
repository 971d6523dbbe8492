use Rattle.std.proofs.Common.{◌≡◌, ℕ, ◌<◌, ◌&&◌, List, length, sym, ◌∙◌, ap, subst, arith}
use Rattle.std.specs.Prelude.{nat_lt}
use Rattle.module_tree.specs.Runs.{is_among}
use Rattle.run_graph.specs.Reach.{callees}
use Rattle.run_graph.specs.Callers.{AddsCaller}
use Rattle.run_graph.proofs.CallersLemmas.{callees_read, callers_more, all_callers}
use Rattle.run_graph.proofs.callers.callers_of.Goals as goal

pub add_to_all-requires : goal.add_to_all-requires
add_to_all-requires c n a =
    let called : callees c.args.runs.now c.modules.caller ≡ c.as_slice.result.now =
    callees_read c.args.runs.now c.modules.caller c.index-runs-caller.result c.modules-test.true
    c.index-runs-caller.is ∙ sym c.as_slice.ensures in
    let l : n < length c.args.runs.now = c.requires.in_range c.modules.caller n
    (ap (λ ms. is_among ms n) called ∙ a) in
    let e : length c.modules.callers.items ≡ length c.args.runs.now = c.modules.invariant.size in omega arith

pub modules-preserved : goal.modules-preserved
modules-preserved c =
    let called : callees c.args.runs.now c.modules.caller ≡ c.as_slice.result.now =
    callees_read c.args.runs.now c.modules.caller c.index-runs-caller.result c.modules-test.true
    c.index-runs-caller.is ∙ sym c.as_slice.ensures in
    record {
      callers = callers_more c.args.runs.now c.modules.callers.items c.add_to_all.new.callers.items
          c.modules.caller c.modules.invariant.callers
          (subst (λ (ms : List ℕ). AddsCaller c.modules.callers.items c.add_to_all.new.callers.items ms
          c.modules.caller) (sym called) c.in_ok-add_to_all.ensures.added);
      size = c.in_ok-add_to_all.ensures.size ∙ c.modules.invariant.size;
    }

pub returns-clause-callers : goal.returns-clause-callers
returns-clause-callers c = all_callers c.args.runs.now c.modules.callers.items
    (λ m n. let is : c.modules.caller ≡ length c.args.runs.now = omega arith in
    c.modules.invariant.callers m n ∙ ap (λ k. nat_lt m k && is_among (callees c.args.runs.now m) n) is)
