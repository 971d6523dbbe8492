use Rattle.std.proofs.Common.{eq-eqb, sym, ap, subst, cond, ◌∷◌, [], ◌∙◌, get_or}
use Rattle.hh_base.specs.declared.value.Tri.TheVariants as tri
use Rattle.net_solution.specs.Equations.{carried}
use Rattle.net_solution.specs.Places.{question_of, seen_in}
use Rattle.net_solution.specs.Tallied.{Meets}
use Rattle.net_solution.proofs.Tallying.{meets_zero, meets_unknown, meets_one}
use Rattle.net_solution.proofs.signal.meet_emission.Goals as goal

pub returns-in-Zero : goal.returns-in-Zero
returns-in-Zero c =
    let carries = carried (question_of c.args.asked.now) (seen_in c.args.place.now) c.args.kind
    c.args.emit.now.sent in
    let status = ap (λ xs. get_or xs c.args.emit.now.control tri.Unknown) (sym c.deref.ensures.value)
    ∙ sym c.status_of.ensures ∙ c.in-Zero.is in
    subst (Meets c.args.kind c.args.word c.args.tally c.args.tally)
    (λ i. cond (sym (eq-eqb c.args.emit.now.signal c.args.signal c.if-emit-signal.true) i)
    ((sym status i, carries) ∷ []) [])
    (meets_zero c.args.kind c.args.word c.args.tally carries)

pub returns-in_ok-add_possible-in-Unknown : goal.returns-in_ok-add_possible-in-Unknown
returns-in_ok-add_possible-in-Unknown c =
    let carries = carried (question_of c.args.asked.now) (seen_in c.args.place.now) c.args.kind
    c.args.emit.now.sent in
    let status = ap (λ xs. get_or xs c.args.emit.now.control tri.Unknown) (sym c.deref.ensures.value)
    ∙ sym c.status_of.ensures ∙ c.in-Unknown.is in
    let after = c.in_ok-add_possible-in-Unknown.field-0 in
    subst (Meets c.args.kind c.args.word c.args.tally after)
    (λ i. cond (sym (eq-eqb c.args.emit.now.signal c.args.signal c.if-emit-signal.true) i)
    ((sym status i, carries) ∷ []) [])
    (meets_unknown c.args.kind c.args.word c.args.tally after carries
    (c.in_ok-add_possible-in-Unknown.ensures c.args.kind c.args.word carries))

pub returns-in_ok-add_executed-in-One : goal.returns-in_ok-add_executed-in-One
returns-in_ok-add_executed-in-One c =
    let status = ap (λ xs. get_or xs c.args.emit.now.control tri.Unknown) (sym c.deref.ensures.value)
    ∙ sym c.status_of.ensures ∙ c.in-One.is in
    let after = c.in_ok-add_executed-in-One.field-0 in
    subst (Meets c.args.kind c.args.word c.args.tally after)
    (λ i. cond (sym (eq-eqb c.args.emit.now.signal c.args.signal c.if-emit-signal.true) i)
    ((sym status i, c.in_ok-cell-in-One.ensures i) ∷ []) [])
    (meets_one c.args.kind c.args.word c.args.tally after c.in_ok-cell-in-One.cell
    c.in_ok-add_executed-in-One.ensures)
