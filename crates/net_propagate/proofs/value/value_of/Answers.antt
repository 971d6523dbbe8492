use Rattle.std.proofs.Common.{ap, ◌∙◌, ◌++◌}
use Rattle.std.specs.List.{flat_map}
use Rattle.net_solution.specs.Equations.{input_of, emissions_of}
use Rattle.net_solution.specs.Places.{seen_in, statuses_in}
use Rattle.net_solution.specs.Tallied.{tallied}
use Rattle.net_propagate.specs.Settling.{nets_in, question_in, emission_at}
use Rattle.net_propagate.proofs.Listing.{all_listed}
use Rattle.net_propagate.proofs.value.value_of.Goals as goal

pub returns : goal.returns
returns c =
    let N = nets_in c.args.task.now in
    let Q = question_in c.args.task.now in
    let d = c.args.net_signal.now in
    let s = c.args.signal in
    c.in_ok-value.ensures
    (emissions_of N Q (statuses_in c.args.place.now) (seen_in c.args.place.now) d.decl.kind s)
    (c.in_ok-tally.ensures
    ∙ ap (tallied d.decl.kind d.decl.combine)
    (ap (λ ns. flat_map (input_of s) Q.given
    ++ flat_map (emission_at N Q c.args.place.now d.decl.kind s) ns) c.emissions_of-emissions.ensures
    ∙ all_listed N Q c.args.place.now c.args.task.now.watchers.now s d c.requires.listed c.requires.there))
