-- The counted sizes of a kernel program, each up to the greatest number of 64 bits. (This project's own.)
use Rattle.std.specs.Prelude.{length}
use Rattle.hh_term.specs.Kernel.{Kernel}
use Rattle.hh_term.specs.Sizes.{size_of, copied_size_of, height_of, traps_round}
use Rattle.kernel_expand.specs.declared.sizes.Sizes.{Sizes}
use Rattle.kernel_expand.specs.Measures.{counted}

abbrev pub sizes_of_kernel : Kernel → Sizes
sizes_of_kernel K =
    record {
      size = counted (size_of K K.statement);
      copied = counted (copied_size_of K K.statement);
      height = counted (height_of K.statement);
      traps = counted (traps_round K.statement);
      sites = counted (length K.sites);
    }
