-- The word of each kind of token fault in output. This project's own.
use Rattle.std.specs.Prelude.{ℕ, List, codes}
use Rattle.module_token.specs.declared.fault.TokenFaultKind.{TokenFaultKind}
use Rattle.module_token.specs.declared.fault.TokenFaultKind.TheVariants as fault

abbrev pub fault_word : TokenFaultKind → List ℕ
fault_word fault.BadChar = codes "BadChar"
fault_word fault.NameLong = codes "NameLong"
fault_word fault.NumberLarge = codes "NumberLarge"
fault_word fault.TextOpen = codes "TextOpen"
fault_word fault.BadEscape = codes "BadEscape"
fault_word fault.TextLong = codes "TextLong"
fault_word fault.CommentOpen = codes "CommentOpen"
