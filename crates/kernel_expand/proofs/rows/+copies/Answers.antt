use Rattle.std.proofs.Common.{◌-◌, ◌/◌, replicate, [], refl, sym, ap, ◌∙◌, arith}
use Rattle.kernel_expand.specs.Halves.{in_halves}
use Rattle.kernel_expand.specs.Measures.{leaf, both}
use Rattle.kernel_expand.proofs.Balanced.{no_item, one_item, same_items}
use Rattle.kernel_expand.proofs.rows.+copies.Goals as goal

pub returns-in-0 : goal.returns-in-0
returns-in-0 t c = c.leaf.ensures ∙ sym (no_item (both 0) (leaf 0 0) [] refl)
    ∙ ap (λ n. in_halves (both 0) (leaf 0 0) (replicate n c.args.statement)) (sym c.in-0.is)

pub returns-in-1 : goal.returns-in-1
returns-in-1 t c = sym (one_item (both 0) (leaf 0 0) c.args.statement)
    ∙ ap (λ n. in_halves (both 0) (leaf 0 0) (replicate n c.args.statement)) (sym c.in-1.is)

pub returns-in_default : goal.returns-in_default
returns-in_default t c =
    let parts = same_items (both 0) (leaf 0 0) c.args.statement c.args.times (c.args.times / 2)
    (omega arith) refl in
    c.both.ensures ∙ ap (λ s. both 0 s c.copies.result) c.copies-first.ensures
    ∙ ap (λ s. both 0 (in_halves (both 0) (leaf 0 0)
    (replicate (c.args.times - c.args.times / 2) c.args.statement)) s) c.copies.ensures ∙ sym parts
