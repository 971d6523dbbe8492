use Rattle.std.proofs.Common.{◌≡◌, ℕ, List, map, take, Bor}
use Rattle.indexmap.specs.IndexMap.{get_by_text}
use Rattle.link_faults.specs.Named.{place_of}
use Rattle.module_link.proofs.tables.first_places.Given as goal

abbrev pub invariant-names : goal.invariant-names
invariant-names l = (n : List ℕ) → get_by_text l.places n ≡ place_of (map (λ (m : Bor (List ℕ)). m.now)
    (take l.at l.names)) n
