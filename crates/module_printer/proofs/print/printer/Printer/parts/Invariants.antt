use Rattle.std.proofs.Common.{◌≡◌, ◌++◌, take}
use Rattle.module_printer.specs.Printed.{printed}
use Rattle.module_printer.proofs.print.printer.Printer.parts.Given as goal

abbrev pub invariant-loop-part : goal.invariant-loop-part
invariant-loop-part l = l.self ≡ l.fn.self ++ printed (take l.part-index l.parts)
