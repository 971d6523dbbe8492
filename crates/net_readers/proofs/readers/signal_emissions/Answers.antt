use Rattle.std.proofs.Common.{◌∙◌, ◌+◌, ◌++◌, ◌∷◌, [], length, take, arith}
use Rattle.net_readers.specs.Readers.{each_time, emissions_from}
use Rattle.net_readers.proofs.Growing.{lists_on, emissions_more}
use Rattle.net_readers.proofs.readers.signal_emissions.Goals as goal

pub loop-place-preserved : goal.loop-place-preserved
loop-place-preserved c =
    let emits = c.as_slice-emits.result.now in
    let i = c.loop-place.place in
    let x = c.index-emits-place.result in
    lists_on c.loop-place.lists.items c.add.new.lists.items (length c.args.nets.now.signals)
    (λ s. emissions_from 0 s (take i emits)) (λ s. each_time s c.in_ok-number_of.field-0 (x.signal ∷ []))
    (λ s. emissions_from 0 s (take (i + 1) emits)) c.loop-place.invariant c.in_ok-add.ensures
    (λ s.
    (λ j. emissions_from 0 s (take i emits) ++ each_time s (c.in_ok-number_of.ensures j) (x.signal ∷ []))
    ∙ emissions_more s emits i x (omega (arith, c.loop-place-test.true)) c.index-emits-place.is)
