use Rattle.std.proofs.Common.{◌≡◌, ◌-◌, length, drop}
use Rattle.indexmap.specs.IndexMap.{get_by_text}
use Rattle.link_faults.specs.Named.{Name}
use Rattle.link_verdict.specs.Declarations.{kinds_of_parameters}
use Rattle.link_verdict.proofs.modules.kinds_of_parameters.Given as goal

abbrev pub invariant-parameters : goal.invariant-parameters
invariant-parameters l = (q : Name) → get_by_text l.kinds q
    ≡ kinds_of_parameters (drop (length l.parameters - l.behind) l.parameters) q
