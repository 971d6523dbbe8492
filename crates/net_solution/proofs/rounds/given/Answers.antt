use Rattle.std.proofs.Common.{◌≡◌, ap, ◌∙◌, map, get_or}
use Rattle.hh_base.specs.declared.value.Tri.TheVariants as tri
use Rattle.net_solution.specs.Equations.{Statuses, gate_value, signal_value}
use Rattle.net_solution.specs.Places.{question_of, seen_in, seen_by}
use Rattle.net_solution.specs.Solution.{numbered}
use Rattle.net_solution.proofs.Rounding.{values_are, exact}
use Rattle.net_solution.proofs.rounds.given.Goals as goal

pub returns-clause-given : goal.returns-clause-given
returns-clause-given c =
    let N = c.args.nets.now in
    let Q = question_of c.args.asked.now in
    let γ : Statuses = λ g. get_or c.args.place.now.gates.items g tri.Unknown in
    let δ : Statuses = λ g. get_or c.as_slice-statuses.result.now g tri.Unknown in
    let V = seen_in c.args.place.now in
    let gates = c.in_ok-gates.ensures ∙ λ j. map (gate_value N Q γ (λ s. c.requires.view s j)) N.gates in
    let values = ap (map (λ x. x.value)) c.in_ok-signals.ensures ∙ values_are N Q γ V δ N.signals
    ∙ λ j. numbered (signal_value N Q γ (λ s. c.requires.view s j)) 0 N.signals in
    λ i. record { gates = gates i; values = values i }

pub returns-clause-exact : goal.returns-clause-exact
returns-clause-exact c =
    let N = c.args.nets.now in
    let Q = question_of c.args.asked.now in
    let γ : Statuses = λ g. get_or c.args.place.now.gates.items g tri.Unknown in
    let δ : Statuses = λ g. get_or c.as_slice-statuses.result.now g tri.Unknown in
    let V = seen_in c.args.place.now in
    let same : δ ≡ (λ g. get_or c.in_ok-gates.gates.items g tri.Unknown) =
    λ i g. get_or (c.as_slice-statuses.ensures.value i) g tri.Unknown in
    let values = ap (map (λ x. x.value)) c.in_ok-signals.ensures ∙ values_are N Q γ V δ N.signals in
    record {
      view = λ s.
          (λ i. seen_by (c.in_ok-signals.ensures i) (c.in_ok-before.ensures i) s)
          ∙ exact N Q γ V δ c.in_ok-gates.gates.items same (map (λ x. x.value)
          c.in_ok-signals.signals.items) values s;
      args = c.new.ensures.items;
    }
