use Rattle.std.proofs.Common.{◌≡◌, ℕ, ◌+◌, true, [], map, length, get_or, set, refl, Bor, Vec, Global, sym}
use Rattle.std.proofs.Common.{ap, subst, ◌∙◌, arith}
use Rattle.std.specs.List.{list_all, range_with_len}
use Rattle.std.proofs.lemmas.List.{length-map}
use Rattle.module_tree.specs.declared.source.ModuleNode.{ModuleNode}
use Rattle.module_tree.specs.Callables.{modules_of}
use Rattle.module_tree.specs.Runs.{callees_of, is_among, stand_behind_callees}
use Rattle.kernel_expand.specs.declared.sizes.Sizes.{Sizes}
use Rattle.kernel_expand.specs.Interpretation.{of_block}
use Rattle.kernel_expand.specs.Measures.{measure, known}
use Rattle.kernel_expand.proofs.Measured.{sizes_are_of_expansion}
use Rattle.kernel_expand.proofs.Listing.{found, not_found, as_many, past_end}
use Rattle.kernel_expand.proofs.Progress.{Progress, both_true, started, measured, skipped, finished}
use Rattle.kernel_expand.proofs.measure.measure.Goals as goal
use Rattle.kernel_expand.proofs.measure.measure.Goals.{in-Some+in_ok-known-2, in_default}

pub returns : goal.returns
returns c =
    let ms = modules_of c.args.linked.now in
    let order = c.callees_first-place-items.result.now in
    let at_end : c.each.place-index ≡ length order = omega arith in
    let order_is = both_true (list_all (is_among order) (range_with_len 0 (length (map callees_of ms))))
    (stand_behind_callees (map callees_of ms) [] order) c.callees_first-place-items.ensures in
    c.module_at.ensures ∙ ap (λ s. known s 0) c.deref-2.ensures.value
    ∙ finished ms order c.each.known.items (subst (λ i. Progress ms order i c.each.known.items) at_end
    c.each.invariant) (subst (λ n. list_all (is_among order) (range_with_len 0 n) ≡ true)
    (length-map ms callees_of) order_is.0)
    ∙ sizes_are_of_expansion c.args.linked.now

pub each-init : goal.each-init
each-init c =
    let ms = modules_of c.args.linked.now in
    let order = c.callees_first-place-items.result.now in
    let order_is = both_true (list_all (is_among order) (range_with_len 0 (length (map callees_of ms))))
    (stand_behind_callees (map callees_of ms) [] order) c.callees_first-place-items.ensures in
    let modules : length c.in_ok-modules.modules.items ≡ length ms =
    as_many c.in_ok-modules.modules.items ms (c.in_ok-modules.ensures
    ∙ ap modules_of c.parts.ensures.parts) in
    let many = c.in_ok-known.ensures.len in
    started ms order c.in_ok-known.known.items order_is.1 (let measured = c.len.ensures in let ok =
    c.in_ok-known.known.ok in let listed = c.in_ok-modules.modules.ok in
    omega (arith, modules, many, measured, ok.0, listed.0))

pub each-preserved : goal.each-preserved
each-preserved c =
    let ms = modules_of c.args.linked.now in
    let order = c.callees_first-place-items.result.now in
    let i = c.each.place-index in
    let place = get_or order i 0 in
    let listed = c.deref.ensures.value in
    let targets = ap (map (λ (m : Bor (ModuleNode ℕ)). m.now)) listed ∙ c.in_ok-modules.ensures
    ∙ ap modules_of c.parts.ensures.parts in
    elim c.match-get.branch [
      | in-Some+in_ok-known-2 w ↦
          let look = w.in-Some.ensures.lookup in
          let b = w.in-Some.module.now.now in
          let value : w.in_ok-known-2.field-0 ≡ of_block (measure (known c.each.known.items)) b.block =
          w.in_ok-known-2.ensures ∙ ap (λ s. of_block (measure (known s)) b.block)
          w.deref-in-Some.ensures.value in
          let written : c.match-get.known.items ≡ set c.each.known.items place
          (of_block (measure (known c.each.known.items)) b.block) =
          ap (λ (v : Vec Sizes Global). v.items) w.known-is
          ∙ ap (λ s. set c.each.known.items place s) value in
          subst (Progress ms order (i + 1)) (sym written)
          (measured ms order i place c.each.known.items c.each.invariant c.each-test.true refl b
          (found c.deref.result.now ms place w.in-Some.module.now targets look.3.0 look.1))
      | in_default w ↦
          let past = past_end c.deref.result.now place c.get.result c.get.ensures.lookup
          w.in_default.not-Some in
          subst (Progress ms order (i + 1)) (sym (ap (λ (v : Vec Sizes Global). v.items) w.known-is))
          (skipped ms order i place c.each.known.items c.each.invariant c.each-test.true refl
          (not_found c.deref.result.now ms place targets past))
    ]
