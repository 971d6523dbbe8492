use Rattle.std.proofs.Common.{◌≡◌, ℕ, List, sym, ap, subst, ◌∙◌}
use Rattle.module_tree.specs.Runs.{runs_of, is_callees_first}
use Rattle.run_graph.specs.Reach.{InRange}
use Rattle.run_graph.specs.Components.{HasNoCycle}
use Rattle.link_resolve.proofs.resolve.callees_first.Goals as goal

pub components_of-requires-clause-in_range : goal.components_of-requires-clause-in_range
components_of-requires-clause-in_range c = subst InRange (sym (c.as_slice.ensures.value ∙ c.in_ok-runs.ensures))
    c.requires.in_range

pub returns : goal.returns
returns c =
    let tree = c.args.parts.now in
    let same : c.as_slice.result.now ≡ runs_of tree = c.as_slice.ensures.value ∙ c.in_ok-runs.ensures in
    let order = c.in_ok-components.ensures.order (subst HasNoCycle (sym same) c.requires.no_cycle) in
    let copied : c.in_ok-to_vec.field-0.items ≡ c.in_ok-components.components.callees_first =
    c.in_ok-to_vec.ensures.items_if_clones_equal (λ x y e. e) ∙ c.as_slice-2.ensures in
    ap (is_callees_first (runs_of tree)) copied
    ∙ ap (λ (rs : List (List ℕ)). is_callees_first rs c.in_ok-components.components.callees_first) (sym same)
    ∙ order
