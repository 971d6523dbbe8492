use Rattle.std.proofs.Common.{◌≡◌, false, slice_index_or, ap, sym, ◌∙◌}
use Rattle.hh_term.proofs.FlagSets.{greater_cong}
use Rattle.hh_term.specs.Views.{statement_of, node_statement}
use Rattle.hh_term.specs.Codes.{static_codes, greater_of}
use Rattle.hh_term.specs.Flags.{codes_in}
use Rattle.hh_term.specs.Placed.{placed_term, placed_node, unplaced}
use Rattle.hh_term.proofs.Unplaced.{terms_are_unplaced}
use Rattle.kernel_expand.specs.Refusals.{instant_loops, if_instant, least, both_earlier}
use Rattle.kernel_expand.proofs.Earlier.{least_of_both}
use Rattle.kernel_expand.proofs.loops.+first_within.Goals as goal

pub returns-in-Par-clause-codes : goal.returns-in-Par-clause-codes
returns-in-Par-clause-codes t c =
    λ k. c.take_greater.ensures k
    ∙ greater_cong (codes_in c.first_within-in-Par.new.codes)
    (static_codes (statement_of c.deref-in-Par.result.now)) (codes_in c.first_within-in-Par-2.new.codes)
    (static_codes (statement_of c.deref-in-Par-2.result.now)) c.first_within-in-Par.ensures.codes
    c.first_within-in-Par-2.ensures.codes k
    ∙ ap (λ x. greater_of (static_codes (statement_of x))
    (static_codes (statement_of c.deref-in-Par-2.result.now)) k) c.deref-in-Par.ensures
    ∙ ap (λ x. greater_of (static_codes (statement_of c.in-Par.p.value))
    (static_codes (statement_of x)) k) c.deref-in-Par-2.ensures
    ∙ ap (λ x. static_codes (node_statement x) k) (sym c.in-Par.is)

pub returns-in-Loop-clause-first : goal.returns-in-Loop-clause-first
returns-in-Loop-clause-first t c =
    let at = c.args.term.now.pos in
    let p = c.in-Loop.p.value in
    let inner : c.first_within-inner.result ≡ least (instant_loops (placed_term p)) =
    c.first_within-inner.ensures.first ∙ ap (λ x. least (instant_loops (placed_term x))) c.deref-in-Loop.ensures in
    let ends : slice_index_or c.first_within-inner.new.codes 0 false ≡ static_codes (unplaced (placed_term p)) 0 =
    c.first_within-inner.ensures.codes 0 ∙ ap (λ x. static_codes (statement_of x) 0) c.deref-in-Loop.ensures
    ∙ ap (λ s. static_codes s 0) (sym (terms_are_unplaced p)) in
    c.earlier-first-in-Loop.ensures
    ∙ ap (λ z. both_earlier z c.first_within-inner.result) (c.if_instant.ensures
    ∙ ap (λ b. least (if_instant b at)) ends)
    ∙ ap (both_earlier (least (if_instant (static_codes (unplaced (placed_term p)) 0) at))) inner
    ∙ sym (least_of_both (if_instant (static_codes (unplaced (placed_term p)) 0) at)
    (instant_loops (placed_term p)))
    ∙ ap (λ n. least (instant_loops (placed_node at n))) (sym c.in-Loop.is)
