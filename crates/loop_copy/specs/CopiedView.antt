-- The kernel program that a `Copied` of the code stands for.
use Rattle.hh_term.specs.Kernel.{Kernel}
use Rattle.hh_term.specs.Views.{kernel_from}
use Rattle.loop_copy.specs.declared.copied.Copied.{Copied}

abbrev pub copied_of : Copied → Kernel
copied_of c = kernel_from c.signals.items c.interface c.bodies.items c.sites.items c.term
