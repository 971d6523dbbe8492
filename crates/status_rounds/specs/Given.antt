-- The given inputs of a reaction as first emissions. (This project's own.)
use Rattle.std.specs.Prelude.{◌≢◌, ℕ, List, ◌++◌, map}
use Rattle.hh_base.specs.declared.value.Value.{Value}
use Rattle.host_expr.specs.declared.cell.Cell.TheVariants as cell
use Rattle.hh_term.specs.MustCan.{MustCan, Bag}
use Rattle.hh_term.specs.Pairs.{EachPair}

-- one emission for each input
abbrev pub given_all : List (ℕ × Value) → Bag
given_all is = map (λ i. (i.0, cell.Known i.1)) is

-- no signal is given twice
abbrev pub NoneTwice : List (ℕ × Value) → Type 0
NoneTwice = EachPair (λ i j. i.0 ≢ j.0)

-- the inputs are emitted too
abbrev pub with_inputs : List (ℕ × Value) → MustCan → MustCan
with_inputs is a =
    record { must = given_all is ++ a.must; code = a.code; can = given_all is ++ a.can; codes = a.codes }
