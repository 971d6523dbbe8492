use Rattle.std.proofs.Common.{◌≡◌, ℕ, true, false, List, [], ◌∷◌, ◌++◌, sym, ap, ◌∙◌, append-nil}
use Rattle.std.specs.Option.{option_copied}
use Rattle.reaction_run.specs.Reacting.{is_settled}
use Rattle.reaction_desk.proofs.Opens.{open_step, open_all}
use Rattle.reaction_desk.proofs.looking.unsettled_in.Goals as goal

pub loop-index-preserved-then-settled : goal.loop-index-preserved-then-settled
loop-index-preserved-then-settled g c =
    let S = g.M.Reactor.state c.args.machine.now in
    c.loop-index.invariant ∙ sym (append-nil _)
    ∙ sym (open_step (is_settled S) S.running c.loop-index.index c.in-Some.instance.now true (sym c.running.ensures ∙ ap option_copied c.in-Some.is) (sym c.settled.ensures ∙ c.if-settled.true))

pub returns-in-None : goal.returns-in-None
returns-in-None g c =
    let S = g.M.Reactor.state c.args.machine.now in
    c.loop-index.invariant ∙ open_all (is_settled S) S.running c.loop-index.index (sym c.running.ensures ∙ ap option_copied c.in-None.is)

pub loop-index-preserved : goal.loop-index-preserved
loop-index-preserved g c =
    let S = g.M.Reactor.state c.args.machine.now in
    c.in_ok-push-in-Some.ensures.items ∙ ap (λ (l : List ℕ). l ++ c.in-Some.instance.now.id ∷ []) c.loop-index.invariant
    ∙ sym (open_step (is_settled S) S.running c.loop-index.index c.in-Some.instance.now false (sym c.running.ensures ∙ ap option_copied c.in-Some.is) (sym c.settled.ensures ∙ c.if-settled.false))
