use Rattle.std.proofs.Common.{◌≡◌, ℕ, ◌-◌, ◌<◌, ◌≤◌, List, length, get_or, reverse, sym, ◌∙◌, ap, subst}
use Rattle.std.proofs.lemmas.List.{get_or-reverse, length-reverse, take_all}
use Rattle.run_graph.specs.Flood.{Floods}
use Rattle.run_graph.specs.Components.{IsRooting}
use Rattle.run_graph.proofs.CallersLemmas.{among_index}
use Rattle.run_graph.proofs.RootLemmas.{rooting_goes_on, roots_show}
use Rattle.run_graph.proofs.components.give_roots.Goals as goal

-- the modules from the end on are those of the list turned round
behind_there : (finished : List ℕ) (k : ℕ) → k < length finished → k < length (reverse finished)
behind_there finished k l = subst (λ (j : ℕ). k < j) (sym (length-reverse finished)) l

pub visit-requires-clause-within : goal.visit-requires-clause-within
visit-requires-clause-within c =
    let there : get_or (reverse c.args.finished.now) c.finished.behind 0 < length c.args.runs.now =
    c.requires.there (get_or (reverse c.args.finished.now) c.finished.behind 0)
    (among_index (reverse c.args.finished.now) c.finished.behind
    (behind_there c.args.finished.now c.finished.behind c.finished-test.true)) in
    let is : get_or (reverse c.args.finished.now) c.finished.behind 0 ≡ get_or c.args.finished.now
    (length c.args.finished.now - 1 - c.finished.behind) 0 =
    get_or-reverse c.args.finished.now c.finished.behind 0 c.finished-test.true in
    let size : length c.as_slice.result.now ≡ length c.args.runs.now = ap length c.as_slice.ensures.value
    ∙ c.in_ok-callers.ensures.size in
    subst (λ (j : ℕ). j < length c.as_slice.result.now) is
    (subst (λ (j : ℕ). get_or (reverse c.args.finished.now) c.finished.behind 0 < j) (sym size) there)

pub finished-preserved : goal.finished-preserved
finished-preserved c =
    let is : get_or (reverse c.args.finished.now) c.finished.behind 0 ≡ get_or c.args.finished.now
    (length c.args.finished.now - 1 - c.finished.behind) 0 =
    get_or-reverse c.args.finished.now c.finished.behind 0 c.finished-test.true in
    rooting_goes_on c.args.runs.now c.in_ok-callers.callers.items (reverse c.args.finished.now)
    c.finished.behind c.finished.roots.items c.visit.new.roots.items
    c.in_ok-callers.ensures.callers c.finished.invariant
    (behind_there c.args.finished.now c.finished.behind c.finished-test.true)
    (subst (λ (j : ℕ). Floods c.in_ok-callers.callers.items j c.finished.roots.items
    c.visit.new.roots.items) (sym is)
    (subst (λ (g : List (List ℕ)). Floods g (get_or c.args.finished.now
    (length c.args.finished.now - 1 - c.finished.behind) 0) c.finished.roots.items
    c.visit.new.roots.items) c.as_slice.ensures.value c.in_ok-visit.ensures))

pub returns : goal.returns
returns c =
    let past : length (reverse c.args.finished.now) ≤ c.finished.behind =
    subst (λ (j : ℕ). j ≤ c.finished.behind) (sym (length-reverse c.args.finished.now))
    c.finished-test.false in
    roots_show c.args.runs.now c.in_ok-callers.callers.items (reverse c.args.finished.now)
    c.finished.roots.items c.requires.in_range c.requires.order c.requires.all
    (subst (λ (done : List ℕ). IsRooting c.args.runs.now c.in_ok-callers.callers.items
    (reverse c.args.finished.now) done c.finished.roots.items)
    (take_all c.finished.behind (reverse c.args.finished.now) past) c.finished.invariant)
