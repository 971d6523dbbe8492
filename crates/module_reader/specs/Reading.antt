-- What is promised of reading a module text: its tree, or its first fault. This project's own.
use Rattle.std.specs.Prelude.{◌≡◌, ℕ, false, List, map, length, Err}
use Rattle.module_token.specs.Tokens as token
use Rattle.module_token.specs.Tokens.{HasTokens, FirstTokenFault}
use Rattle.module_tree.specs.declared.limits.TheConstants.{OPEN_LIMIT, COUNT_LIMIT}
use Rattle.module_tree.specs.declared.source.Part.{Part}
use Rattle.grammar.specs.Tokens.{Tok}
use Rattle.grammar.specs.Fault.{Fault, Unexpected, EndOfText, Deep, Large, OutOfRange, Refusal}
use Rattle.grammar.specs.Parser.{start, whole}
use Rattle.grammar.specs.Texts.{Within, FirstFault}
use Rattle.module_reader.specs.declared.fault.GrammarFault.{GrammarFault}
use Rattle.module_reader.specs.declared.fault.GrammarFaultKind.{GrammarFaultKind}
use Rattle.module_reader.specs.declared.fault.GrammarFaultKind.TheVariants as k
use Rattle.module_reader.specs.declared.fault.ReadFault.{ReadFault}
use Rattle.module_reader.specs.declared.fault.ReadFault.TheVariants as fault
use Rattle.expression_reader.specs.declared.terminal.Terminal.{Terminal}
use Rattle.expression_reader.specs.Cursor.{spelled, value_of}
use Rattle.expression_reader.specs.Terminals.{symbols, terminal}
use Rattle.expression_reader.specs.Trees.{Name}
use Rattle.module_reader.specs.Trees.{has_module}
use Rattle.module_reader.specs.Rules.{parts, program}
use Rattle.expression_reader.specs.Rules.{largest}
use Rattle.module_reader.specs.Reference as rule

-- what a token of a text is to the grammar
abbrev pub to_grammar : token.TextToken → Tok Terminal
to_grammar t = record {
  place = t.place;
  kind = terminal t.what t.text;
  text = spelled t.what t.text;
  value = value_of t.what;
}

-- the text has tokens that spell the tree, within the limits
pub record HasTree (text : List ℕ) (tree : List (Part Name)) : Type 0 where
  pub tokens : List token.TextToken
  pub has_tokens : HasTokens text tokens
  pub spells : Within symbols program tree (map to_grammar tokens)

-- ---- faults

-- what the grammar says of the tokens of a text, by the kind of a fault
abbrev pub fault_of : GrammarFaultKind → Fault
fault_of k.NumberLarge = OutOfRange 0 largest
fault_of k.Unexpected = Unexpected
fault_of k.EndOfText = EndOfText
fault_of k.DeepNesting = Deep
fault_of k.ExprLarge = Large
fault_of k.BadCount = OutOfRange 1 COUNT_LIMIT

abbrev pub refusal_of : GrammarFault → Refusal
refusal_of f = record { place = f.pos.0; fault = fault_of f.kind }

-- It is the first fault of the grammar in these tokens of a text of so many bytes. It is one also where no
-- module is asked for: so the text ends at an EndOfText inside a body, a host or a module.
pub record IsGrammarFault (size : ℕ) (ts : List (Tok Terminal)) (f : GrammarFault) : Type 0 where
  pub first : FirstFault symbols program size ts (refusal_of f)
  pub inside : FirstFault symbols parts size ts (refusal_of f)

-- the tokens are those of bodies and hosts alone
pub record HasNoModule (ts : List (Tok Terminal)) : Type 0 where
  pub tree : List (Part Name)
  pub spells : Within symbols parts tree ts
  pub none : has_module tree ≡ false

-- The first fault of a text: that of its tokens, or else that of the grammar, or that the whole text is read
-- and has no module. Want of memory says nothing of the text.
abbrev pub IsFirstFault : List ℕ → ReadFault → Type 0
IsFirstFault text (fault.Token f) = FirstTokenFault text f
IsFirstFault text (fault.Grammar f) = (tokens : List token.TextToken) × HasTokens text tokens
    × IsGrammarFault (length text) (map to_grammar tokens) f
IsFirstFault text fault.NoModule = (tokens : List token.TextToken) × HasTokens text tokens
    × HasNoModule (map to_grammar tokens)
IsFirstFault text fault.NoMemory = Unit {0}

-- The kind of a grammar's fault is the one that the reader of the rule has. Where a number is out of range,
-- no text goes on with it whether its own fault is named or Unexpected: a number in an expression and that of
-- `count` have faults of their own, and a first value has none.
abbrev pub IsByRule : List ℕ → ReadFault → Type 0
IsByRule text (fault.Grammar f) =
    (tokens : List token.TextToken) → HasTokens text tokens
    → whole (rule.parts OPEN_LIMIT) (start (map to_grammar tokens) (length text)) ≡ Err (refusal_of f)
IsByRule text _ = Unit {0}
