-- The word of each kind of fault in output. This project's own.
use Rattle.std.specs.Prelude.{ℕ, List, codes}
use Rattle.module_token.specs.FaultWord.{fault_word}
use Rattle.module_reader.specs.declared.fault.GrammarFaultKind.{GrammarFaultKind}
use Rattle.module_reader.specs.declared.fault.GrammarFaultKind.TheVariants as k
use Rattle.module_reader.specs.declared.fault.ReadFault.{ReadFault}
use Rattle.module_reader.specs.declared.fault.ReadFault.TheVariants as fault

abbrev pub grammar_fault_word : GrammarFaultKind → List ℕ
grammar_fault_word k.NumberLarge = codes "NumberLarge"
grammar_fault_word k.Unexpected = codes "Unexpected"
grammar_fault_word k.EndOfText = codes "EndOfText"
grammar_fault_word k.DeepNesting = codes "DeepNesting"
grammar_fault_word k.ExprLarge = codes "ExprLarge"
grammar_fault_word k.BadCount = codes "BadCount"

abbrev pub read_fault_word : ReadFault → List ℕ
read_fault_word (fault.Token f) = fault_word f.kind
read_fault_word (fault.Grammar f) = grammar_fault_word f.kind
read_fault_word fault.NoModule = codes "NoModule"
read_fault_word fault.NoMemory = codes "NoMemory"
