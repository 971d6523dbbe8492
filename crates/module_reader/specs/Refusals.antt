-- What the errors of the reader's steps are as faults of a text. This project's own.
use Rattle.std.specs.Prelude.{ℕ}
use Rattle.module_reader.specs.declared.fault.GrammarFaultKind.{GrammarFaultKind}
use Rattle.module_reader.specs.declared.fault.GrammarFaultKind.TheVariants as k
use Rattle.module_reader.specs.declared.fault.ReadFault.{ReadFault}
use Rattle.module_reader.specs.declared.fault.ReadFault.TheVariants as fault
use Rattle.expression_reader.specs.declared.fault.StepError.{StepError}
use Rattle.expression_reader.specs.declared.fault.StepError.TheVariants as r
use Rattle.expression_reader.specs.Trees.{pos_at}

abbrev pub grammar_fault : ℕ → GrammarFaultKind → ReadFault
grammar_fault n kind = fault.Grammar (record { pos = pos_at n; kind = kind })

abbrev pub as_fault : StepError → ReadFault
as_fault (r.Unexpected n) = grammar_fault n k.Unexpected
as_fault (r.EndOfText n) = grammar_fault n k.EndOfText
as_fault (r.DeepNesting n) = grammar_fault n k.DeepNesting
as_fault (r.ExprLarge n) = grammar_fault n k.ExprLarge
as_fault (r.NumberLarge n) = grammar_fault n k.NumberLarge
as_fault (r.BadCount n) = grammar_fault n k.BadCount
as_fault r.NoMemory = fault.NoMemory

abbrev pub place_of : ReadFault → ℕ
place_of (fault.Token f) = f.pos.0
place_of (fault.Grammar f) = f.pos.0
place_of _ = 0
