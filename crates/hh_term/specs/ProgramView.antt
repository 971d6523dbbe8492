-- The kernel program that a `Program` of the code stands for, and the same with its positions.
use Rattle.hh_term.specs.declared.program.Program.{Program}
use Rattle.hh_term.specs.Kernel.{Kernel}
use Rattle.hh_term.specs.Views.{kernel_from}
use Rattle.hh_term.specs.Placed.{PlacedKernel, placed_from}

abbrev pub kernel_of : Program → Kernel
kernel_of p = kernel_from p.signals.items p.interface p.bodies.items p.sites.items p.term

abbrev pub placed_of : Program → PlacedKernel
placed_of p = placed_from p.signals.items p.interface p.bodies.items p.sites.items p.term
