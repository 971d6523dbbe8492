-- A resolved text keeps what linked texts keep, and no run of it lies on a cycle.
use Rattle.std.proofs.Common.{◌≡◌, ℕ, true, List, sym, subst}
use Rattle.module_tree.specs.declared.source.Part.{Part}
use Rattle.module_tree.specs.Source.{is_source}
use Rattle.module_tree.specs.DeclaredAt.{NamesGoByPosition}
use Rattle.module_tree.specs.LinkedFacts.{IsLinked}
use Rattle.module_tree.specs.Runs.{runs_of}
use Rattle.run_graph.specs.Reach.{InRange}
use Rattle.run_graph.specs.Components.{HasNoCycle}
use Rattle.link_faults.specs.Rows.{Program}
use Rattle.link_faults.specs.FirstFault.{IsFaultless}
use Rattle.module_link.specs.Resolved.{resolved_parts}
use Rattle.module_link.proofs.Faultless.{text_is_fine}
use Rattle.module_link.proofs.ResolvedLinked.{resolved_is_linked}
use Rattle.link_resolve.proofs.ResolvedRuns.{same_runs, no_cycle, in_range}

pub tree_in_range : (parts : Program) (tree : List (Part ℕ)) → is_source parts ≡ true → IsFaultless parts
    → tree ≡ resolved_parts parts → InRange (runs_of tree)
tree_in_range parts tree source faultless e =
    subst (λ (t : List (Part ℕ)). InRange (runs_of t)) (sym e)
    (subst InRange (sym (same_runs parts (text_is_fine parts source faultless))) (in_range parts))

pub tree_has_no_cycle : (parts : Program) (tree : List (Part ℕ)) → is_source parts ≡ true → IsFaultless parts
    → tree ≡ resolved_parts parts → HasNoCycle (runs_of tree)
tree_has_no_cycle parts tree source faultless e =
    subst (λ (t : List (Part ℕ)). HasNoCycle (runs_of t)) (sym e)
    (subst HasNoCycle (sym (same_runs parts (text_is_fine parts source faultless))) (no_cycle parts faultless))

pub tree_is_linked : (parts : Program) (tree : List (Part ℕ)) → is_source parts ≡ true
    → NamesGoByPosition parts → IsFaultless parts → tree ≡ resolved_parts parts → IsLinked tree
tree_is_linked parts tree source positions faultless e =
    subst IsLinked (sym e) (resolved_is_linked parts source positions faultless)
