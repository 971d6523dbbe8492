-- What a refusal of the program is to the definitions. This project's own.
use Rattle.std.specs.Prelude.{Option, Some}
use Rattle.grammar.specs.declared.fault.Fault.{Fault}
use Rattle.grammar.specs.declared.fault.Fault.TheVariants as f
use Rattle.grammar.specs.declared.fault.Refusal.{Refusal as ARefusal}
use Rattle.grammar.specs.Fault as g
use Rattle.grammar.specs.Fault.{Refusal}

abbrev pub fault_of : Fault → g.Fault
fault_of f.Unexpected = g.Unexpected
fault_of f.EndOfText = g.EndOfText
fault_of f.Deep = g.Deep
fault_of f.Large = g.Large

abbrev pub refusal_of : ARefusal → Refusal
refusal_of r = record { place = r.place; fault = fault_of r.fault }

-- each is a refusal: none stands for want of memory
abbrev pub as_refusal : ARefusal → Option Refusal
as_refusal r = Some (refusal_of r)
