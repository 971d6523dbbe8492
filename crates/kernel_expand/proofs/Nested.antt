-- Local signals nested, from the last inward.
use Rattle.std.proofs.Common.{◌≡◌, List, [], ◌∷◌, ◌++◌, refl, ap}
use Rattle.module_tree.specs.declared.source.SignalNode.{SignalNode}
use Rattle.kernel_expand.specs.Operations.{Operations}
use Rattle.kernel_expand.specs.Interpretation.{locals}

pub last_inmost : {X : Type 0} (k : Operations X) (ds : List SignalNode) (d : SignalNode) (p : X)
    → locals k (ds ++ d ∷ []) p ≡ locals k ds (k.local d p)
last_inmost k [] d p = refl
last_inmost k (e ∷ ds) d p = ap (k.local e) (last_inmost k ds d p)
