-- The printed text of a source tree has that tree, but for places. And each tree of a text is a source tree.
use Rattle.std.proofs.Common.{◌≡◌, ℕ, true, List, map, Result, Ok, Err, sym, subst}
use Rattle.std.specs.Prelude.{IfOk, IfErr, MatchResult}
use Rattle.module_tree.specs.declared.source.Part.{Part}
use Rattle.module_tree.specs.Source.{is_source}
use Rattle.module_reader.specs.declared.fault.ReadFault.TheVariants as fault
use Rattle.module_printer.specs.Printed.{printed}
use Rattle.module_reader.specs.declared.fault.ReadFault.{ReadFault}
use Rattle.module_reader.specs.Reading.{to_grammar, HasTree}
use Rattle.module_reader.proofs.RealTokens.{all_lawful}
use Rattle.module_reader.proofs.written.Texts.{written}
use Rattle.round_trip.specs.Places.{SameButPlaces}
use Rattle.round_trip.specs.Trips.{EachSourceTreeHasAText, EachTreeOfATextIsSource}
use Rattle.round_trip.proofs.lifting.Texts.{printed_is_text}
use Rattle.round_trip.proofs.spelling.Printed.{printed_has_tokens}

pub has_text : EachSourceTreeHasAText
has_text m h =
    let words = printed_has_tokens m h in
    let text = printed_is_text m h words.0 words.2 in
    record {
      read = text.0;
      has_tree = record { tokens = words.0; has_tokens = words.1; spells = text.1 };
      same = text.2;
    }

pub is_source_tree : EachTreeOfATextIsSource
is_source_tree text m h = written m (map to_grammar h.tokens) (all_lawful h.has_tokens) h.spells

-- what is read where each tree of the text is read, unless memory runs out
module _ (m : List (Part (List ℕ))) (source : is_source m ≡ true) where
  by_tree : (tree : List (Part (List ℕ))) → SameButPlaces tree m
      → (result : Result (List (Part (List ℕ))) ReadFault) → MatchResult result (λ r. r ≡ tree)
      (λ e. e ≡ fault.NoMemory) → IfOk result (λ r. SameButPlaces r m)
      × IfErr result (λ e. e ≡ fault.NoMemory)
  by_tree tree same (Ok r) e = (subst (λ t. SameButPlaces t m) (sym e) same, tt)
  by_tree tree same (Err e) h = (tt, h)

  pub read_back : (result : Result (List (Part (List ℕ))) ReadFault)
      → ((tree : List (Part (List ℕ))) → HasTree (printed m) tree
      → MatchResult result (λ r. r ≡ tree) (λ e. e ≡ fault.NoMemory))
      → IfOk result (λ r. SameButPlaces r m) × IfErr result (λ e. e ≡ fault.NoMemory)
  read_back result only = let text = has_text m source in by_tree text.read text.same result
      (only text.read text.has_tree)
