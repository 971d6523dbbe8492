-- What tokens of a real text keep: those that may be names are names, and quoted ones are text values. This
-- project's own.
use Rattle.std.specs.Prelude.{◌≡◌, true, false, List}
use Rattle.std.specs.List.{AllByRecursion}
use Rattle.std.specs.Str.{is_utf8}
use Rattle.hh_base.specs.Name.{IsName}
use Rattle.hh_base.specs.Text.{IsText}
use Rattle.hh_base.specs.Keyword.{is_keyword}
use Rattle.grammar.specs.Tokens.{Tok}
use Rattle.expression_reader.specs.declared.terminal.Terminal.{Terminal}
use Rattle.expression_reader.specs.Terminals.{is_name}
use Rattle.expression_reader.specs.Rules.{is_quoted}

-- The `text` of a quoted token is the value that it writes. Numbers keep nothing more: the grammar bounds
-- them.
pub record IsLawful (t : Tok Terminal) : Type 0 where
  pub name : is_name t.kind ≡ true → IsName t.text
  pub utf8 : is_name t.kind ≡ true → is_utf8 t.text ≡ true
  pub no_keyword : is_name t.kind ≡ true → is_keyword t.text ≡ false
  pub quoted : is_quoted t.kind ≡ true → IsText t.text

abbrev pub Lawful : List (Tok Terminal) → Type 0
Lawful = AllByRecursion IsLawful
