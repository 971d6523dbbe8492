use Rattle.std.proofs.Common.{◌≡◌, ◌+◌, ◌-◌, ◌/◌, List, take, drop, length, sym, ap, ◌∙◌, arith}
use Rattle.kernel_expand.specs.declared.sizes.Sizes.{Sizes}
use Rattle.kernel_expand.specs.Halves.{in_halves}
use Rattle.kernel_expand.specs.Measures.{leaf, both}
use Rattle.kernel_expand.proofs.Balanced.{no_item, only_item, two_halves}
use Rattle.kernel_expand.proofs.blocks.+in_halves.Goals as goal

abbrev whole : List Sizes → Sizes
whole = in_halves (both 0) (leaf 0 0)

pub returns-in-0 : goal.returns-in-0
returns-in-0 t c = c.leaf.ensures ∙ sym (no_item (both 0) (leaf 0 0) c.args.parts.now c.in-0.is)

pub returns-in-1 : goal.returns-in-1
returns-in-1 t c = sym (only_item (both 0) (leaf 0 0)
    (record { size = 0; copied = 0; height = 0; traps = 0; sites = 0 }) c.args.parts.now c.in-1.is)

pub returns-in_default : goal.returns-in_default
returns-in_default t c =
    let parts = c.args.parts.now in
    let half : length parts - length parts / 2 ≡ (length parts + 1) / 2 = omega arith in
    let halves = two_halves (both 0) (leaf 0 0) parts (length parts - length parts / 2) (omega arith) half in
    let first : c.in_halves.result ≡ whole (take (length parts - length parts / 2) parts) =
    c.in_halves.ensures ∙ ap whole c.split_at.ensures.front in
    let second : c.in_halves-in_default.result ≡ whole (drop (length parts - length parts / 2) parts) =
    c.in_halves-in_default.ensures ∙ ap whole c.split_at.ensures.back in
    c.both.ensures ∙ ap (λ s. both 0 s c.in_halves-in_default.result) first
    ∙ ap (λ s. both 0 (whole (take (length parts - length parts / 2) parts)) s) second ∙ sym halves
