-- Inputs of different signals, looked at one block of signals after another. (This project's own.)
use Rattle.std.specs.Prelude.{◌≢◌, ℕ, ◌<◌, ◌≤◌, List}
use Rattle.hh_term.specs.Pairs.{EachPair}
use Rattle.reaction_run.specs.declared.event.Input.{Input}

-- no two inputs name one signal of those from one on and before another
abbrev pub AreApart : (from to : ℕ) → List Input → Type 0
AreApart from to inputs = EachPair (λ i j. from ≤ i.signal → i.signal < to → i.signal ≢ j.signal) inputs
