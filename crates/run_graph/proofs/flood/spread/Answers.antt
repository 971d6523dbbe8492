use Rattle.std.proofs.Common.{◌≡◌, ℕ, ◌<◌, Option, Some, None, is_some, not, true, false, List, length}
use Rattle.std.proofs.Common.{get_or, refl, sym, ◌∙◌, ap, subst, arith}
use Rattle.std.proofs.lemmas.Bool.{both_ways}
use Rattle.std.proofs.lemmas.List.{get_or_read}
use Rattle.run_graph.specs.Flood.{HasRoot, root_of}
use Rattle.run_graph.proofs.CallersLemmas.{among_index}
use Rattle.run_graph.proofs.FloodLemmas.{spread_over_at, spread_to_at}
use Rattle.run_graph.proofs.flood.spread.Goals.{then-is_none+in_ok-push, else-is_none}
use Rattle.run_graph.proofs.flood.spread.Goals as goal

pub index-requires : goal.index-requires
index-requires c =
    let l : get_or c.args.modules.now c.modules.at-index 0 < length c.args.roots.now.items =
    c.requires (get_or c.args.modules.now c.modules.at-index 0)
    (among_index c.args.modules.now c.modules.at-index c.modules-test.true) in
    let e : length c.modules.roots.items ≡ length c.args.roots.now.items = c.modules.invariant.size in
    omega arith

pub index_mut-requires : goal.index_mut-requires
index_mut-requires c =
    let l : get_or c.args.modules.now c.modules.at-index 0 < length c.args.roots.now.items =
    c.requires (get_or c.args.modules.now c.modules.at-index 0)
    (among_index c.args.modules.now c.modules.at-index c.modules-test.true) in
    let e : length c.modules.roots.items ≡ length c.args.roots.now.items = c.modules.invariant.size in
    omega arith

no_root : (roots : List (Option ℕ)) (m : ℕ) (o : Option ℕ) → m < length roots → o ≡ get_or roots m o
    → is_some o ≡ false → root_of roots m ≡ None
no_root roots m None l e h = sym (get_or_read roots m None l e None)
no_root roots m (Some r) l e h = absurd (both_ways true h refl)

some_root : (roots : List (Option ℕ)) (m : ℕ) (o : Option ℕ) → m < length roots → o ≡ get_or roots m o
    → is_some o ≡ true → HasRoot roots m
some_root roots m o l e h = ap is_some (sym (get_or_read roots m o l e None)) ∙ h

pub modules-preserved : goal.modules-preserved
modules-preserved c =
    let l : get_or c.args.modules.now c.modules.at-index 0 < length c.args.roots.now.items =
    c.requires (get_or c.args.modules.now c.modules.at-index 0)
    (among_index c.args.modules.now c.modules.at-index c.modules-test.true) in
    let within : get_or c.args.modules.now c.modules.at-index 0 < length c.modules.roots.items =
    subst (λ (k : ℕ). get_or c.args.modules.now c.modules.at-index 0 < k)
    (sym c.modules.invariant.size) l in
    elim c.if-is_none.branch [
      | then-is_none+in_ok-push w ↦ spread_to_at c.args.modules.now c.modules.at-index c.args.root
          c.args.roots.now.items c.modules.roots.items c.if-is_none.roots.items c.args.fringe.now
          c.modules.fringe c.if-is_none.fringe
          c.modules.invariant c.modules-test.true l
          (no_root c.modules.roots.items (get_or c.args.modules.now c.modules.at-index 0)
          c.index.result.now within c.index.ensures (c.is_none.ensures ∙ ap not w.if-is_none.true))
          (ap (λ v. v.items) w.roots-is) (w.fringe-is ∙ w.in_ok-push.ensures.ok)
      | else-is_none w ↦ rw (w.roots-is, w.fringe-is)
          (spread_over_at c.args.modules.now c.modules.at-index c.args.root c.args.roots.now.items
          c.modules.roots.items c.args.fringe.now c.modules.fringe
          c.modules.invariant c.modules-test.true
          (some_root c.modules.roots.items (get_or c.args.modules.now c.modules.at-index 0)
          c.index.result.now within c.index.ensures (w.if-is_none.ensures)))
    ]
