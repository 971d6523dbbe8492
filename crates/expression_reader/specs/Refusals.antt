-- What the grammar's refusals are to the reader. This project's own.
use Rattle.std.specs.Prelude.{ℕ, Option, Some, None}
use Rattle.module_tree.specs.declared.limits.TheConstants.{COUNT_LIMIT}
use Rattle.grammar.specs.Fault.{Fault, Unexpected, EndOfText, Deep, Large, OutOfRange, Refusal}
use Rattle.expression_reader.specs.declared.fault.StepError.{StepError}
use Rattle.expression_reader.specs.declared.fault.StepError.TheVariants as r
use Rattle.expression_reader.specs.Rules.{largest}

abbrev refusal : ℕ → Fault → Option Refusal
refusal n f = Some (record { place = n; fault = f })

-- which refusal it is, None for want of memory
abbrev pub as_refusal : StepError → Option Refusal
as_refusal (r.Unexpected n) = refusal n Unexpected
as_refusal (r.EndOfText n) = refusal n EndOfText
as_refusal (r.DeepNesting n) = refusal n Deep
as_refusal (r.ExprLarge n) = refusal n Large
as_refusal (r.NumberLarge n) = refusal n (OutOfRange 0 largest)
as_refusal (r.BadCount n) = refusal n (OutOfRange 1 COUNT_LIMIT)
as_refusal r.NoMemory = None
