-- What is kept of the emissions of one signal while they are met. (This project's own.)
use Rattle.std.specs.Prelude.{◌≡◌, Option, List, [], ◌∷◌, ◌++◌}
use Rattle.hh_base.specs.declared.value.Kind.{Kind}
use Rattle.hh_base.specs.declared.value.CombineWord.{CombineWord}
use Rattle.hh_base.specs.declared.value.Tri.TheVariants.{Zero}
use Rattle.host_expr.specs.declared.cell.Cell.{Cell}
use Rattle.status_table.specs.declared.tally.Tally.{Tally}
use Rattle.status_table.specs.Tallies.{tally_of}
use Rattle.net_solution.specs.Equations.{Emission, made}

-- what those carry that are made, or may be
abbrev pub possible : List Emission → List Cell
possible [] = []
possible ((Zero, c) ∷ es) = possible es
possible ((_, c) ∷ es) = c ∷ possible es

-- a tally that emissions came to
abbrev pub tallied : Kind → Option CombineWord → List Emission → Tally
tallied k w es = tally_of k w (made es) (possible es)

-- these emissions more
pub record Meets (k : Kind) (w : Option CombineWord) (before after : Tally) (more : List Emission) : Type 0
  where
    pub meets : (es : List Emission) → before ≡ tallied k w es → after ≡ tallied k w (es ++ more)
