-- The sizes of a block by those of the modules that it runs.
use Rattle.std.proofs.Common.{◌≡◌, ℕ, refl, ap}
use Rattle.host_expr.specs.Expression.{expression_of}
use Rattle.host_expr.specs.Measures.{size_of_expression}
use Rattle.kernel_expand.specs.declared.sizes.Sizes.{Sizes}
use Rattle.kernel_expand.specs.Measures.{counted, around, both, looped, trapped, blocks_of_first, sizes_given}
use Rattle.kernel_expand.specs.Measures.{measure}
use Rattle.kernel_expand.proofs.Alike.{Alike}
use Rattle.kernel_expand.proofs.AlikeTrees.{blocks_alike}
use Rattle.kernel_expand.proofs.Depths.{ByRuns}

same_operations : (f g : ℕ → Sizes) → Alike (λ (a b : Sizes). a ≡ b) (sizes_given f) (sizes_given g)
same_operations f g =
    record {
      nothing = refl;
      pause = refl;
      emit = λ s e. refl;
      choice = λ d p p' q q' r s i. both (counted (size_of_expression (expression_of d))) (r i) (s i);
      suspend = λ d p p' r. ap (around (counted (size_of_expression (expression_of d)))) r;
      seq = λ p p' q q' r s i. both 0 (r i) (s i);
      par = λ p p' q q' r s i. both 0 (r i) (s i);
      loop = λ p p' r. ap looped r;
      local = λ d p p' r. ap (around (blocks_of_first d.first)) r;
      async = λ a. refl;
      trap = λ p p' r. ap trapped r;
      exit = refl;
      named_trap = λ p p' r. ap trapped r;
      leave = λ t. refl;
      counter = λ p p' r. ap (around 0) r;
      suspend_counted = λ p p' r. ap (around 1) r;
      emit_counter = refl;
    }

pub sizes_by_runs : ByRuns measure
sizes_by_runs f g b scope before h =
    blocks_alike (λ (a b : Sizes). a ≡ b) (measure f) (measure g) (λ m. f m ≡ g m)
    (λ pos. same_operations f g) (λ pos m bindings e. e) b scope before h
