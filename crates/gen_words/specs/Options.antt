-- An option between the words and its number. (Bridges, and no part of a promise.)
use Rattle.std.specs.Prelude.{◌≡◌, ◌≤◌, ℕ, Some, None, List, [], codes, pos, true, false}
use Rattle.std.specs.Str.Parse.{IsNumeral, digits_value, without_leading_plus}
use Rattle.clap.specs.Facts.{least_values}
use Rattle.clap.specs.Words.{IsPlainArg, IsSignedIn, Text, fault_of, found_of, matches_of, one_text, rows_of}
use Rattle.clap.specs.Words.{without_minus}
use Rattle.clap.specs.declared.builder.arg.Arg.{Arg}
use Rattle.clap.specs.declared.builder.action.ArgAction.TheVariants.{Set}
use Rattle.clap.specs.declared.builder.value_parser.ValueParser.TheVariants.{Signed}
use Rattle.clap.specs.declared.parser.matches.ArgMatches.{ArgMatches}
use Rattle.clap.specs.declared.parser.matches.Found.{Found}
use Rattle.gen_words.specs.Words.{command}

-- an argument is such an option
pub record IsOption (name : Text) (least most : ℕ) (a : Arg) : Type 0 where
  pub id : a.id.now ≡ name
  pub plain : IsPlainArg a
  pub local : a.global ≡ false
  pub required : a.required ≡ true
  pub set : a.action ≡ Some Set
  pub delimiter : a.val_delim ≡ None
  pub values : 1 ≤ least_values a
  pub parser : a.value_parser ≡ Some (Signed (pos least) (pos most))

-- what was found for the option is a number in its range
pub record HasText (f : Found) (name : Text) (least most : ℕ) : Type 0 where
  pub text : Text
  pub given : one_text f name ≡ Some (without_minus text)
  pub within : IsSignedIn (pos least) (pos most) text

-- what was found for the option is this number
pub record HasNumber (f : Found) (name : Text) (number : ℕ) : Type 0 where
  pub text : Text
  pub given : one_text f name ≡ Some text
  pub numeral : IsNumeral 10 (without_leading_plus text)
  pub number_is : number ≡ digits_value 10 (without_leading_plus text)

-- the two options have what they take
pub record HasBoth (m : ArgMatches) : Type 0 where
  pub seed : HasText (found_of m) (codes "seed") 0 4294967295
  pub size : HasText (found_of m) (codes "size") 1 1000

-- the command took the words
pub record IsParse (words : List Text) (m : ArgMatches) : Type 0 where
  pub taken : fault_of command words ≡ []
  pub rows : rows_of (found_of m) ≡ matches_of command words
  pub both : HasBoth m
