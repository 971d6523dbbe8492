-- The printed tokens of a source tree are a text of the grammar within the limits, with the same tree but for
-- places.
use Rattle.std.proofs.Common.{◌≡◌, ℕ, ◌≤◌, true, List, [], ◌∷◌, ◌++◌, map, codes, refl, sym, ap, ◌∙◌, append_assoc}
use Rattle.std.specs.Prelude.{◌&&◌}
use Rattle.std.specs.List.{AllByRecursion, list_all, list_any, flat_map}
use Rattle.std.proofs.lemmas.Bool.{leb-true}
use Rattle.hh_base.specs.declared.value.Kind.{Kind}
use Rattle.module_tree.specs.declared.source.ExprAt.{ExprAt}
use Rattle.module_tree.specs.declared.source.InterfaceNode.{InterfaceNode}
use Rattle.module_tree.specs.declared.source.ParameterNode.{ParameterNode}
use Rattle.module_tree.specs.declared.source.BodyNode.{BodyNode}
use Rattle.module_tree.specs.declared.source.HostNode.{HostNode}
use Rattle.module_tree.specs.declared.source.ModuleNode.{ModuleNode}
use Rattle.module_tree.specs.declared.source.BlockNode.{BlockNode}
use Rattle.module_tree.specs.declared.source.Part.{Part}
use Rattle.module_tree.specs.declared.source.Part.TheVariants as top
use Rattle.hh_base.specs.Value.{is_valued}
use Rattle.module_tree.specs.SourceForms.{fits_interface, fits_parameter, fits_part}
use Rattle.module_tree.specs.SourceExpressions.{nesting_of}
use Rattle.module_tree.specs.SourceNesting.{nesting_of_part}
use Rattle.module_tree.specs.Source as source
use Rattle.module_tree.specs.Source.{is_shallow, is_source}
use Rattle.grammar.specs.Texts.{Within}
use Rattle.grammar.proofs.KindSets.{both as parts}
use Rattle.module_token.specs.Tokens.{TextToken}
use Rattle.hh_base.specs.declared.keyword.Keyword.TheVariants as w
use Rattle.module_token.specs.declared.punct.Punct.TheVariants as punct
use Rattle.expression_reader.specs.Terminals.{symbols}
use Rattle.expression_reader.specs.Trees.{Name, pos_at}
use Rattle.module_reader.specs.Trees.{has_module}
use Rattle.round_trip.proofs.Lexemes.{Spells}
use Rattle.module_reader.specs.Reading.{to_grammar}
use Rattle.module_printer.specs.ExpressionTokens.{Lexemes, in_parentheses}
use Rattle.module_printer.specs.SourceTokens.{comma_separated, token_of_kind, tokens_of_kind, tokens_of_interface, tokens_of_parameter, tokens_of_outermost, tokens_of_block, tokens_of_body, tokens_of_host, tokens_of_module, tokens_of_part}
use Rattle.module_reader.specs.Rules as g
use Rattle.module_reader.specs.Rules.{program}
use Rattle.round_trip.specs.Places.{placeless_parameter, placeless_interface, placeless_part, without_places, SameButPlaces}
use Rattle.round_trip.proofs.lifting.Lifting.{Lifts, Same, lifts_then, lifts_made, lifts_left, lifts_right, lifts_words, lifts_many}
use Rattle.round_trip.proofs.lifting.OneToken.{lifts_punct, lifts_keyword, lifts_name}
use Rattle.round_trip.proofs.lifting.Delays.{lifts_curly, outermost_lifts}
use Rattle.round_trip.proofs.lifting.Declarations.{lifts_listed_or_none, each_of, valued_lifts, type_lifts, decl_lifts, param_lifts}
use Rattle.round_trip.proofs.lifting.Blocks.{is_printed_block}

-- the words of a declaration, its name and its list, before what follows
heading_words : (word name : List ℕ) (items rest : Lexemes) → (word ∷ name ∷ in_parentheses items) ++ rest
    ≡ word ∷ name ∷ codes "(" ∷ (items ++ codes ")" ∷ rest)
heading_words word name items rest = ap (λ (ts : Lexemes). word ∷ name ∷ codes "(" ∷ ts)
    (append_assoc items (codes ")" ∷ []) rest)

answer_words : (word name : List ℕ) (items answer rest : Lexemes)
    → ((word ∷ name ∷ in_parentheses items) ++ answer) ++ rest
    ≡ word ∷ name ∷ codes "(" ∷ (items ++ codes ")" ∷ (answer ++ rest))
answer_words word name items answer rest = append_assoc (word ∷ name ∷ in_parentheses items) answer rest
    ∙ heading_words word name items (answer ++ rest)

-- ---- bodies, hosts and modules

made_body : Name → List ParameterNode → Kind → ExprAt Name → BodyNode Name
made_body n ps k x = record { pos = pos_at 0; name = n; parameters = ps; answer = k; expr = x }

body_lifts : (room : ℕ) (b : BodyNode Name) → fits_part (top.Body b) ≡ true
    → nesting_of_part (top.Body b) ≤ room → Lifts (Same placeless_part (top.Body b)) (g.body room)
    (tokens_of_body b)
unfolding made_body
body_lifts room b fits le =
    let q3 = parts _ _ fits in
    let q2 = parts _ _ q3.0 in
    let q1 = parts _ _ q2.0 in
    lifts_words (sym (answer_words (codes "body") b.name (comma_separated
    (map tokens_of_parameter b.parameters)) (codes ":" ∷ token_of_kind b.answer ∷ [])
    (codes "{" ∷ (tokens_of_outermost b.expr ++ codes "}" ∷ []))))
    (lifts_then (lifts_keyword w.Body)
    (λ z u. lifts_then (lifts_name b.name q1.0)
    (λ n hn. lifts_then (lifts_punct punct.LeftParen)
    (λ y v. lifts_then (lifts_listed_or_none tokens_of_parameter b.parameters
    (each_of placeless_parameter tokens_of_parameter g.parameter fits_parameter param_lifts b.parameters
    q1.1))
    (λ ps hp. lifts_then (lifts_punct punct.RightParen)
    (λ m o. lifts_then (lifts_punct punct.Colon)
    (λ r s. lifts_then (valued_lifts b.answer q2.1)
    (λ k hk. lifts_made (lifts_curly (nesting_of b.expr.expr)
    (λ left more. outermost_lifts b.expr left q3.1 more) room le)
    (λ x hx. λ i. top.Body (made_body (hn i) (hp i) (hk i) (hx i)))))))))))

made_host : Name → List Kind → Kind → HostNode
made_host n ks k = record { pos = pos_at 0; token = pos_at 0; name = n; parameters = ks; answer = k }

same_kinds : (ks : List Kind) → map (λ (k : Kind). k) ks ≡ ks
same_kinds [] = refl
same_kinds (k ∷ ks) = ap (λ xs. k ∷ xs) (same_kinds ks)

host_lifts : (h : HostNode) → fits_part (top.Host h) ≡ true → Lifts (Same placeless_part (top.Host h)) g.host
    (tokens_of_host h)
unfolding made_host
host_lifts h fits =
    let q = parts _ _ fits in
    lifts_words (sym (answer_words (codes "host") h.name (comma_separated (map tokens_of_kind h.parameters))
    (codes ":" ∷ token_of_kind h.answer ∷ []) (codes ";" ∷ [])))
    (lifts_then (lifts_keyword w.Host)
    (λ z u. lifts_then (lifts_name h.name q.0)
    (λ n hn. lifts_then (lifts_punct punct.LeftParen)
    (λ y v. lifts_then (lifts_listed_or_none tokens_of_kind h.parameters
    (each_of (λ (k : Kind). k) tokens_of_kind g.valued is_valued valued_lifts h.parameters q.1))
    (λ ks hk. lifts_then (lifts_punct punct.RightParen)
    (λ m o. lifts_then (lifts_punct punct.Colon)
    (λ r s. lifts_then (type_lifts h.answer)
    (λ k ha. lifts_made (lifts_punct punct.Semicolon)
    (λ x t. λ i. top.Host (made_host (hn i) ((sym (same_kinds ks) ∙ hk ∙ same_kinds h.parameters) i)
    (ha i)))))))))))

made_module : Name → List InterfaceNode → BlockNode Name → ModuleNode Name
made_module n ds b = record { pos = pos_at 0; name = n; interface = ds; block = b }

module_lifts : (room : ℕ) (m : ModuleNode Name) → fits_part (top.Module m) ≡ true
    → nesting_of_part (top.Module m) ≤ room → Lifts (Same placeless_part (top.Module m)) (g.module_of room)
    (tokens_of_module m)
unfolding made_module
module_lifts room m fits le =
    let q2 = parts _ _ fits in
    let q1 = parts _ _ q2.0 in
    lifts_words (sym (heading_words (codes "module") m.name (comma_separated
    (map tokens_of_interface m.interface)) (tokens_of_block m.block)))
    (lifts_then (lifts_keyword w.Module)
    (λ z u. lifts_then (lifts_name m.name q1.0)
    (λ n hn. lifts_then (lifts_punct punct.LeftParen)
    (λ y v. lifts_then (lifts_listed_or_none tokens_of_interface m.interface
    (each_of placeless_interface tokens_of_interface g.interface fits_interface decl_lifts m.interface
    q1.1))
    (λ ds hd. lifts_then (lifts_punct punct.RightParen)
    (λ r o. lifts_made (is_printed_block m.block room q2.1 le)
    (λ b hb. λ i. top.Module (made_module (hn i) (hd i) (hb i)))))))))

top_lifts : (room : ℕ) (t : Part Name) → fits_part t ≡ true → nesting_of_part t ≤ room
    → Lifts (Same placeless_part t) (g.part room) (tokens_of_part t)
top_lifts room (top.Body b) fits le = lifts_left (body_lifts room b fits le)
top_lifts room (top.Host h) fits le = lifts_right (lifts_left (host_lifts h fits))
top_lifts room (top.Module m) fits le = lifts_right (lifts_right (module_lifts room m fits le))

-- ---- whole texts

each_top : (m : List (Part Name)) → list_all fits_part m ≡ true → list_all is_shallow m ≡ true
    → AllByRecursion (λ t. Lifts (Same placeless_part t) (g.part 128) (tokens_of_part t)) m
each_top [] fits shallow = tt
each_top (t ∷ m) fits shallow =
    let q = parts (fits_part t) (list_all fits_part m) fits in
    let r = parts (is_shallow t) (list_all is_shallow m) shallow in
    (top_lifts 128 t q.0 (leb-true (nesting_of_part t) 128 r.0), each_top m q.1 r.1)

tops_words : (m : List (Part Name)) → flat_map (λ (ts : Lexemes). ts) (map tokens_of_part m)
    ≡ flat_map tokens_of_part m
tops_words [] = refl
tops_words (t ∷ m) = ap (λ ts. tokens_of_part t ++ ts) (tops_words m)

-- places tell nothing of whether there is a module
placeless_module : (m : List (Part Name)) → has_module (without_places m) ≡ has_module m
placeless_module [] = refl
placeless_module (top.Body b ∷ m) = placeless_module m
placeless_module (top.Host h ∷ m) = placeless_module m
placeless_module (top.Module n ∷ m) = refl

some_module : (m : List (Part Name)) → list_any source.is_module m ≡ has_module m
some_module [] = refl
some_module (top.Body b ∷ m) = some_module m
some_module (top.Host h ∷ m) = some_module m
some_module (top.Module n ∷ m) = refl

pub printed_is_text : (m : List (Part (List ℕ))) → is_source m ≡ true → (ts : List TextToken)
    → Spells (flat_map tokens_of_part m) ts → (tree : List (Part (List ℕ)))
    × Within symbols program tree (map to_grammar ts) × SameButPlaces tree m
printed_is_text m h ts spells =
    let q = parts (list_any source.is_module m && list_all fits_part m) (list_all is_shallow m) h in
    let r = parts (list_any source.is_module m) (list_all fits_part m) q.0 in
    let all = lifts_words (tops_words m) (lifts_many tokens_of_part (λ ts. ts) m (each_top m r.1 q.1)) in
    let y = all.lift ts spells in
    let is : has_module y.tree ≡ true = sym (placeless_module y.tree) ∙ ap has_module y.told
    ∙ placeless_module m ∙ sym (some_module m) ∙ r.0 in
    (y.tree, (y.marks, (y.is_text, is), y.few), y.told)
