use Rattle.std.proofs.Common.{◌-◌, ◌/◌, List, length, map, drop, refl, ap, ◌∙◌, arith}
use Rattle.hh_term.specs.declared.term.Term.{Term}
use Rattle.hh_term.specs.Placed.{Nothing, placed_term}
use Rattle.kernel_expand.specs.Forms.{two, joined}
use Rattle.kernel_expand.proofs.Lasts.{last_two}
use Rattle.kernel_expand.proofs.forms.Join.+last.Goals as goal

pub returns-clause-term : goal.returns-clause-term
returns-clause-term t c =
    let at = c.args.at.pos in
    let j = c.args.self in
    let xs = c.args.terms.now.items in
    let n = c.args.count in
    let left = c.in_ok-second.ensures.left in
    c.in_ok-two.ensures
    ∙ (λ i. two j at (c.in_ok-first.ensures.term i) (c.in_ok-second.ensures.term i))
    ∙ ap (λ (ys : List Term). two j at (joined j at (map placed_term (drop (length ys - (n - n / 2)) ys)))
    (joined j at (map placed_term (drop (length xs - n / 2) xs)))) left
    ∙ last_two (two j at) (Nothing at) placed_term xs n (n / 2) (omega arith) c.requires refl
