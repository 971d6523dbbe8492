-- What holds of every expansion. (This project's own.)
use Rattle.std.specs.Prelude.{◌≡◌, ℕ, List, None}
use Rattle.module_tree.specs.declared.source.Part.{Part}
use Rattle.module_tree.specs.LinkedFacts.{IsLinked}
use Rattle.hh_term.specs.IsProgram.{IsProgram}
use Rattle.kernel_expand.specs.Expansion.{expansion_of, kernel_of_expansion}
use Rattle.kernel_expand.specs.Refusals.{refusal_of}

-- where nothing refuses the expansion of a linked text, it keeps the rules of a program
abbrev pub AcceptedKeepRules : Type 0
AcceptedKeepRules = (parts : List (Part ℕ)) → IsLinked parts → refusal_of (expansion_of parts) ≡ None
    → IsProgram (kernel_of_expansion (expansion_of parts))
