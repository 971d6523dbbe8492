use Rattle.std.proofs.Common.{sym, ap, ◌∙◌, ◌++◌, append-nil}
use Rattle.std.proofs.lemmas.Slice.Zip.{either_empty_from_Zip}
use Rattle.last_walk.proofs.Instances.{no_pairs}
use Rattle.last_walk.proofs.instance.argument_values.Goals as goal

pub returns : goal.returns
returns c =
    let vs = c.loop-kind.values.items in
    c.from_vec.ensures ∙ sym (append-nil vs) ∙ ap (λ z. vs ++ z)
    (sym (no_pairs c.loop-kind.kind-iterator.a.rest.now c.loop-kind.kind-iterator.b.rest.now
    (either_empty_from_Zip c.loop-kind.kind-iterator c.next.new.self c.next.result c.in-None.is c.next.ensures.steps))) ∙ c.loop-kind.invariant
