-- What printing and reading say of each other. This project's own.
use Rattle.std.specs.Prelude.{◌≡◌, ℕ, true, List}
use Rattle.module_tree.specs.declared.source.Part.{Part}
use Rattle.module_tree.specs.Source.{is_source}
use Rattle.module_printer.specs.Printed.{printed}
use Rattle.module_reader.specs.Reading.{HasTree}
use Rattle.round_trip.specs.Places.{SameButPlaces}

-- the text has this tree, but for places
pub record HasTreeButPlaces (text : List ℕ) (tree : List (Part (List ℕ))) : Type 0 where
  pub read : List (Part (List ℕ))
  pub has_tree : HasTree text read
  pub same : SameButPlaces read tree

-- each tree that passes the tests is, but for places, that of its print
abbrev pub EachSourceTreeHasAText : Type 0
EachSourceTreeHasAText = (tree : List (Part (List ℕ))) → is_source tree ≡ true
    → HasTreeButPlaces (printed tree) tree

-- each tree of a text passes the tests
abbrev pub EachTreeOfATextIsSource : Type 0
EachTreeOfATextIsSource = (text : List ℕ) (tree : List (Part (List ℕ))) → HasTree text tree
    → is_source tree ≡ true
