use Rattle.std.proofs.Common.{◌≡◌, ℕ, ◌+◌, ◌<◌, Some, List, [], ◌∷◌, ◌++◌, length, set, refl, sym, ◌∙◌, ap}
use Rattle.std.proofs.Common.{subst, arith}
use Rattle.module_tree.specs.Runs.{is_among}
use Rattle.std.proofs.lemmas.List.{length_push}
use Rattle.run_graph.specs.Flood.{rootless, Spreads}
use Rattle.run_graph.proofs.FloodLemmas.{flood_begins, flood_goes_on, flood_ends}
use Rattle.run_graph.proofs.flood.flood.Goals as goal

pub fringe-init : goal.fringe-init
fringe-init c = flood_begins c.args.graph.now c.args.root c.args.roots.now.items
    (set c.args.roots.now.items c.args.root (Some c.args.root)) c.push.new.self
    (subst (λ (k : ℕ). c.args.root < k) (sym c.requires.size) c.requires.within) c.requires.fresh
    c.requires.closed refl
    (c.in_ok-push.ensures.ok ∙ ap (λ xs. xs ++ c.args.root ∷ []) c.new-fringe.ensures)

pub spread-requires : goal.spread-requires
spread-requires c m a =
    let l : m < length c.args.graph.now = c.requires.in_range c.in-Some.next m
    (ap (λ ms. is_among ms m) (sym c.callees_of.ensures) ∙ a) in
    let e : length c.fringe.roots.items ≡ length c.args.roots.now.items = c.fringe.invariant.size in
    let f : length c.args.roots.now.items ≡ length c.args.graph.now = c.requires.size in omega arith

pub fringe-preserved : goal.fringe-preserved
fringe-preserved c =
    flood_goes_on c.args.graph.now c.args.root c.in-Some.next c.args.roots.now.items c.fringe.roots.items
    c.spread.new.roots.items c.fringe.fringe c.pop.new.self c.spread.new.fringe
    c.fringe.invariant c.in-Some.ensures
    (subst (λ (ms : List ℕ). Spreads ms c.args.root c.fringe.roots.items c.spread.new.roots.items
    c.pop.new.self c.spread.new.fringe) c.callees_of.ensures c.in_ok-spread.ensures)

pub fringe-smaller : goal.fringe-smaller
fringe-smaller c =
    let work : rootless c.spread.new.roots.items + length c.spread.new.fringe ≡ rootless
    c.fringe.roots.items + length c.pop.new.self = c.in_ok-spread.ensures.work in
    let longer : length c.fringe.fringe ≡ length c.pop.new.self + 1 = ap length c.in-Some.ensures
    ∙ length_push c.pop.new.self c.in-Some.next in
    omega arith

pub returns : goal.returns
returns c = flood_ends c.args.graph.now c.args.root c.args.roots.now.items c.fringe.roots.items
    c.fringe.fringe c.fringe.invariant c.in_default.ensures.0
