-- Sizes are the same where their numbers are.
use Rattle.std.proofs.Common.{◌≡◌}
use Rattle.kernel_expand.specs.declared.sizes.Sizes.{Sizes}

pub same_sizes : {a b : Sizes} → a.size ≡ b.size → a.copied ≡ b.copied → a.height ≡ b.height
    → a.traps ≡ b.traps → a.sites ≡ b.sites → a ≡ b
same_sizes p q r s t = λ i. record { size = p i; copied = q i; height = r i; traps = s i; sites = t i }
