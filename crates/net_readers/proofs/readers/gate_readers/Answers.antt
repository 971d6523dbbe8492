use Rattle.std.proofs.Common.{◌∙◌, ◌+◌, ◌++◌, length, take, arith}
use Rattle.net_readers.specs.Readers.{inputs_of, each_time, readers_from}
use Rattle.net_readers.proofs.Growing.{lists_on, readers_more}
use Rattle.net_readers.proofs.readers.gate_readers.Goals as goal

pub loop-place-preserved : goal.loop-place-preserved
loop-place-preserved c =
    let gates = c.as_slice-gates.result.now in
    let i = c.loop-place.place in
    let x = c.index-gates-place.result in
    lists_on c.loop-place.lists.items c.add_gate.new.lists.items (length c.args.nets.now.gates)
    (λ g. readers_from 0 g (take i gates)) (λ g. each_time g c.in_ok-number_of.field-0 (inputs_of x))
    (λ g. readers_from 0 g (take (i + 1) gates)) c.loop-place.invariant c.in_ok-add_gate.ensures
    (λ g.
    (λ j. readers_from 0 g (take i gates) ++ each_time g (c.in_ok-number_of.ensures j) (inputs_of x))
    ∙ readers_more g gates i x (omega (arith, c.loop-place-test.true)) c.index-gates-place.is)
