-- The words of `gen`, by clap's own meaning of a simple command: two options that have to be given, each with
-- a number in a range.
use Rattle.std.specs.Prelude.{◌≡◌, ℕ, Some, List, [], codes, pos, true}
use Rattle.std.specs.Str.Parse.{IsNumeral, digits_value, without_leading_plus}
use Rattle.clap.specs.Words.{App, Rule, Text, fault_of, matches_of, new_app, new_rule, one_of, with_rule}
use Rattle.clap.specs.declared.builder.action.ArgAction.TheVariants.{Set}
use Rattle.clap.specs.declared.builder.value_parser.ValueParser.TheVariants.{Signed}

-- an option that has to be given, with a number from the least to the most
abbrev pub numbered : Text → ℕ → ℕ → Rule
numbered name least most = record (new_rule name) {
  long = Some name;
  action = Some Set;
  parser = Some (Signed (pos least) (pos most));
  required = true;
}

-- the command, which passes over the first word as the program's name
abbrev pub command : App
command =
    with_rule (with_rule (new_app (codes "gen")) (numbered (codes "seed") 0 4294967295))
    (numbered (codes "size") 1 1000)

-- the words give the option of this name this number
pub record Gives (words : List Text) (name : Text) (number : ℕ) : Type 0 where
  pub text : Text
  pub given : one_of name (matches_of command words) ≡ Some text
  pub numeral : IsNumeral 10 (without_leading_plus text)
  pub number_is : number ≡ digits_value 10 (without_leading_plus text)

-- the command takes the words, and they give this seed and this size
pub record IsOrder (words : List Text) (seed size : ℕ) : Type 0 where
  pub taken : fault_of command words ≡ []
  pub seed_is : Gives words (codes "seed") seed
  pub size_is : Gives words (codes "size") size
