-- A tree that some text has, of lawful tokens and within the limits, is a source tree.
use Rattle.std.proofs.Common.{◌≡◌, ℕ, ◌≤◌, true, List, [], ◌∷◌, refl, arith}
use Rattle.std.specs.List.{AllByRecursion, list_all}
use Rattle.std.proofs.lemmas.Bool.{le-leb}
use Rattle.module_tree.specs.declared.source.Part.{Part}
use Rattle.hh_base.specs.Value.{is_valued}
use Rattle.module_tree.specs.SourceForms.{fits_interface, fits_parameter, fits_part}
use Rattle.module_tree.specs.SourceNesting.{nesting_of_part}
use Rattle.module_tree.specs.Source.{is_shallow, is_source}
use Rattle.grammar.specs.Tokens.{Tok}
use Rattle.grammar.specs.Texts.{Within}
use Rattle.expression_reader.specs.declared.terminal.Terminal.{Terminal}
use Rattle.expression_reader.specs.Terminals.{symbols}
use Rattle.expression_reader.specs.Trees.{Name}
use Rattle.module_reader.specs.Rules as g
use Rattle.module_reader.specs.Rules.{program}
use Rattle.expression_reader.proofs.Lawful.{Lawful}
use Rattle.expression_reader.proofs.written.Keeping.{Keeps, keeps_then, keeps_after, keeps_pure, keeps_or}
use Rattle.expression_reader.proofs.written.Keeping.{keeps_many}
use Rattle.expression_reader.proofs.written.Nodes.{both}
use Rattle.module_reader.proofs.written.Declarations.{all_pass, keeps_listed_or_none, name, valued, type}
use Rattle.module_reader.proofs.written.Declarations.{interface, parameter}
use Rattle.expression_reader.proofs.written.Brackets.{Fits, keeps_curly, outermost}
use Rattle.module_reader.proofs.written.Statements.{block}

module _ (room : ℕ) (some_room : 1 ≤ room) where
  abbrev IsTop : Part Name → Type 0
  IsTop = Fits fits_part nesting_of_part room

  body : Keeps IsTop (g.body room)
  body =
      keeps_after (λ q. keeps_then name
      (λ n h. keeps_after (λ q. keeps_then (keeps_listed_or_none parameter)
      (λ ps hs. keeps_after (λ q. keeps_after (λ q. keeps_then valued
      (λ k e. keeps_then (keeps_curly outermost room)
      (λ a f. keeps_pure (record {
        passes = both (both (both h (all_pass fits_parameter ps hs)) e) f.passes;
        within = f.within;
      })))))))))

  host : Keeps IsTop g.host
  host =
      keeps_after (λ q. keeps_then name
      (λ n h. keeps_after (λ q. keeps_then (keeps_listed_or_none valued)
      (λ ks hs. keeps_after (λ q. keeps_after (λ q. keeps_then type
      (λ k (u : Unit {0}). keeps_after
      (λ q. keeps_pure (record { passes = both h (all_pass is_valued ks hs); within = some_room })))))))))

  module_of : Keeps IsTop (g.module_of room)
  module_of =
      keeps_after (λ q. keeps_then name
      (λ n h. keeps_after (λ q. keeps_then (keeps_listed_or_none interface)
      (λ ds hs. keeps_after (λ q. keeps_then (block room)
      (λ b f. keeps_pure (record {
        passes = both (both h (all_pass fits_interface ds hs)) f.passes;
        within = f.within;
      })))))))

  parts : Keeps (AllByRecursion IsTop) (g.parts room)
  parts = keeps_many (keeps_or body (keeps_or host module_of))

all_tops : (xs : List (Part Name)) → AllByRecursion (Fits fits_part nesting_of_part 128) xs
    → (list_all fits_part xs ≡ true) × (list_all is_shallow xs ≡ true)
all_tops [] h = (refl, refl)
all_tops (t ∷ xs) h = let more = all_tops xs h.1 in
    (both h.0.passes more.0, both (le-leb (nesting_of_part t) 128 h.0.within) more.1)

pub written : (tree : List (Part (List ℕ))) (ts : List (Tok Terminal)) → Lawful ts
    → Within symbols program tree ts → is_source tree ≡ true
written tree ts lawful h =
    let all = all_tops tree ((parts symbols.most_open (omega arith)).of tree ts h.0 lawful h.2 h.1.0) in
    both (both h.1.1 all.0) all.1
