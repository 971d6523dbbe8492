use Rattle.std.proofs.Common.{◌≡◌, ◌++◌, codes, map, take}
use Rattle.module_printer.specs.SourceTokens.{behind}
use Rattle.module_printer.specs.Printed.{spaced}
use Rattle.module_printer.proofs.print.printer.Printer.behind_commas.Given as goal

abbrev pub invariant-loop-item : goal.invariant-loop-item
invariant-loop-item g l = l.self ≡ l.fn.self ++ spaced (behind (codes ",")
    (map g.T.Printable.tokens (take l.item-index l.items)))
