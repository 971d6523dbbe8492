-- The bytes that are printed of a source tree have exactly the printed tokens.
use Rattle.std.proofs.Common.{◌≡◌, ℕ, true, List, [], ◌∷◌, map}
use Rattle.std.specs.List.{AllByRecursion, flat_map, list_all}
use Rattle.std.specs.Str.{IsUtf8}
use Rattle.module_tree.specs.declared.source.BodyNode.{BodyNode}
use Rattle.module_tree.specs.declared.source.HostNode.{HostNode}
use Rattle.module_tree.specs.declared.source.ModuleNode.{ModuleNode}
use Rattle.module_tree.specs.declared.source.Part.{Part}
use Rattle.module_tree.specs.declared.source.Part.TheVariants as top
use Rattle.module_tree.specs.Source.{is_source}
use Rattle.hh_base.specs.Value.{is_valued}
use Rattle.module_tree.specs.SourceForms.{fits_interface, fits_parameter, fits_part}
use Rattle.module_tree.specs.SourceWords.{is_written_name}
use Rattle.hh_base.specs.declared.keyword.Keyword.{Keyword}
use Rattle.hh_base.specs.declared.keyword.Keyword.TheVariants as k
use Rattle.module_token.specs.declared.punct.Punct.TheVariants as p
use Rattle.hh_base.specs.Keyword.{keyword_text}
use Rattle.module_token.specs.Tokens.{TextToken, HasTokens}
use Rattle.round_trip.proofs.Lexemes.{Spells}
use Rattle.module_printer.specs.Printed.{printed}
use Rattle.module_printer.specs.ExpressionTokens.{Lexemes as Words}
use Rattle.module_printer.specs.SourceTokens.{tokens_of_kind, tokens_of_interface, tokens_of_parameter, tokens_of_heading, tokens_of_body, tokens_of_host, tokens_of_module, tokens_of_part}
use Rattle.round_trip.proofs.spelling.Blanks.{and_true}
use Rattle.round_trip.proofs.spelling.Lines.{Reading, nothing, line}
use Rattle.round_trip.proofs.spelling.Words.{Spelt, name, keyword, mark, more, single, both, closed, enclosed, commas, all_passed}
use Rattle.round_trip.proofs.spelling.Declarations.{kind_word, interface, parameter, outermost}
use Rattle.round_trip.proofs.spelling.Statements.{block}

abbrev Name : Type 0
Name = List ℕ

-- the word of a declaration, its name and its list
heading : {A : Type 0} (word : Keyword) (n : Name) (words : A → Words) (items : List A)
    → is_written_name n ≡ true → AllByRecursion (λ a. Spelt (words a)) items
    → Spelt (tokens_of_heading (keyword_text word) n (map words items))
heading word n words items h g = more (keyword word) (more (name n h) (enclosed (commas words items g)))

body : (b : BodyNode Name) → fits_part (top.Body b) ≡ true → Spelt (tokens_of_body b)
body b h =
    let q = and_true _ _ h in
    let r = and_true _ _ q.0 in
    let s = and_true _ _ r.0 in
    let parameters = all_passed (λ x. Spelt (tokens_of_parameter x)) fits_parameter parameter b.parameters s.1
    in
    both (both (heading k.Body b.name tokens_of_parameter b.parameters s.0 parameters)
    (more (mark p.Colon) (single (kind_word b.answer))))
    (more (mark p.LeftBrace) (closed (outermost b.expr q.1) p.RightBrace))

host : (h : HostNode) → fits_part (top.Host h) ≡ true → Spelt (tokens_of_host h)
host x h =
    let q = and_true _ _ h in
    let parameters = all_passed (λ t. Spelt (tokens_of_kind t)) is_valued
    (λ t valued. single (kind_word t)) x.parameters q.1 in
    both (both (heading k.Host x.name tokens_of_kind x.parameters q.0 parameters)
    (more (mark p.Colon) (single (kind_word x.answer)))) (single (mark p.Semicolon))

module_words : (m : ModuleNode Name) → fits_part (top.Module m) ≡ true → Spelt (tokens_of_module m)
module_words m h =
    let q = and_true _ _ h in
    let r = and_true _ _ q.0 in
    let interface = all_passed (λ d. Spelt (tokens_of_interface d)) fits_interface interface m.interface r.1
    in
    both (heading k.Module m.name tokens_of_interface m.interface r.0 interface) (block m.block q.1)

pub declaration : (t : Part Name) → fits_part t ≡ true → Spelt (tokens_of_part t)
declaration (top.Body b) h = body b h
declaration (top.Host x) h = host x h
declaration (top.Module m) h = module_words m h

lines : (parts : List (Part Name)) → list_all fits_part parts ≡ true
    → Reading (printed parts) (flat_map tokens_of_part parts)
lines [] h = nothing
lines (t ∷ parts) h = let q = and_true _ _ h in line (printed parts) (flat_map tokens_of_part parts)
    (lines parts q.1) (tokens_of_part t) (declaration t q.0)

pub printed_has_tokens : (m : List (Part (List ℕ))) → is_source m ≡ true
    → (ts : List TextToken) × HasTokens (printed m) ts × Spells (flat_map tokens_of_part m) ts
printed_has_tokens m h = (lines m (and_true _ _ (and_true _ _ h).0).1).1 0

pub printed_is_utf8 : (m : List (Part (List ℕ))) → is_source m ≡ true → IsUtf8 (printed m)
printed_is_utf8 m h = (lines m (and_true _ _ (and_true _ _ h).0).1).0
