use Rattle.std.proofs.Common.{◌≡◌, map, sym, ap, subst, ◌∙◌}
use Rattle.module_reader.specs.declared.fault.ReadFault.TheVariants as fault
use Rattle.module_token.specs.Place as place
use Rattle.module_reader.specs.declared.fault.ReadFault.{ReadFault}
use Rattle.expression_reader.specs.Cursor as cursor
use Rattle.module_reader.specs.Reading.{to_grammar, HasTree, IsFirstFault, IsByRule}
use Rattle.module_reader.specs.Trees.{has_module}
use Rattle.module_reader.proofs.RealTokens.{same_tokens}
use Rattle.module_reader.proofs.ReadTexts as reading
use Rattle.module_reader.proofs.read.read.Goals as goal

pub returns-in-Err-clause-only : goal.returns-in-Err-clause-only
returns-in-Err-clause-only c = λ m h.
    let text = c.args.text.now in
    let same = ap (map to_grammar) (sym (c.in-Ok.ensures.only h.tokens h.has_tokens))
    ∙ (same_tokens text c.in-Ok.tokens.items ∙ ap (cursor.toks text) (sym c.as_slice.ensures.value)) in
    subst (λ (f : ReadFault). f ≡ fault.NoMemory) (sym c.as_fault.ensures)
    (reading.only_memory text h.tokens h.has_tokens (cursor.toks text c.as_slice.result.now) same
    c.in-Err.refused c.in-Err.ensures m h.spells)

pub returns-in-Err-clause-fault : goal.returns-in-Err-clause-fault
returns-in-Err-clause-fault c =
    let text = c.args.text.now in
    let same = same_tokens text c.in-Ok.tokens.items ∙ ap (cursor.toks text) (sym c.as_slice.ensures.value) in
    subst (IsFirstFault text) (sym c.as_fault.ensures)
    (reading.of_grammar text (place.toks text c.in-Ok.tokens.items) c.in-Ok.ensures.found
    (cursor.toks text c.as_slice.result.now) same c.in-Err.refused
    c.in-Err.ensures)

pub returns-in-Err-clause-by_rule : goal.returns-in-Err-clause-by_rule
returns-in-Err-clause-by_rule c =
    let text = c.args.text.now in
    let same = same_tokens text c.in-Ok.tokens.items ∙ ap (cursor.toks text) (sym c.as_slice.ensures.value) in
    subst (IsByRule text) (sym c.as_fault.ensures)
    (reading.by_rule text (cursor.toks text c.as_slice.result.now)
    (λ tokens has. ap (map to_grammar) (sym (c.in-Ok.ensures.only tokens has)) ∙ same)
    c.in-Err.refused c.in-Err.ensures)

pub new-requires-clause-source : goal.new-requires-clause-source
new-requires-clause-source c =
    let text = c.args.text.now in
    let same = same_tokens text c.in-Ok.tokens.items ∙ ap (cursor.toks text) (sym c.as_slice.ensures.value) in
    let has : has_module c.in-Ok-read_tokens.parts ≡ c.has_module.result =
    ap has_module (sym c.as_slice-in-Ok-read_tokens.ensures) ∙ sym c.has_module.ensures in
    reading.is_source_tree text (place.toks text c.in-Ok.tokens.items) c.in-Ok.ensures.found
    (cursor.toks text c.as_slice.result.now) same c.in-Ok-read_tokens.parts
    (has ∙ c.if-has_module.true) c.in-Ok-read_tokens.ensures

pub new-requires-clause-names : goal.new-requires-clause-names
new-requires-clause-names c =
    let text = c.args.text.now in
    let same = same_tokens text c.in-Ok.tokens.items ∙ ap (cursor.toks text) (sym c.as_slice.ensures.value) in
    let has : has_module c.in-Ok-read_tokens.parts ≡ c.has_module.result =
    ap has_module (sym c.as_slice-in-Ok-read_tokens.ensures) ∙ sym c.has_module.ensures in
    reading.names_by_position text (place.toks text c.in-Ok.tokens.items) c.in-Ok.ensures.found
    (cursor.toks text c.as_slice.result.now) same c.in-Ok-read_tokens.parts
    (has ∙ c.if-has_module.true) c.in-Ok-read_tokens.ensures

pub returns-then-has_module-clause-found : goal.returns-then-has_module-clause-found
returns-then-has_module-clause-found c =
    let text = c.args.text.now in
    let same = same_tokens text c.in-Ok.tokens.items ∙ ap (cursor.toks text) (sym c.as_slice.ensures.value) in
    let has : has_module c.in-Ok-read_tokens.parts ≡ c.has_module.result =
    ap has_module (sym c.as_slice-in-Ok-read_tokens.ensures) ∙ sym c.has_module.ensures in
    subst (HasTree text) (sym c.new.ensures)
    (reading.has_tree text (place.toks text c.in-Ok.tokens.items) c.in-Ok.ensures.found
    (cursor.toks text c.as_slice.result.now) same c.in-Ok-read_tokens.parts
    (has ∙ c.if-has_module.true) c.in-Ok-read_tokens.ensures)

pub returns-then-has_module-clause-only : goal.returns-then-has_module-clause-only
returns-then-has_module-clause-only c = λ m h.
    let text = c.args.text.now in
    let same = ap (map to_grammar) (sym (c.in-Ok.ensures.only h.tokens h.has_tokens))
    ∙ (same_tokens text c.in-Ok.tokens.items ∙ ap (cursor.toks text) (sym c.as_slice.ensures.value)) in
    c.new.ensures ∙ reading.only_tree text h.tokens h.has_tokens
    (cursor.toks text c.as_slice.result.now) same c.in-Ok-read_tokens.parts c.in-Ok-read_tokens.ensures m
    h.spells

pub returns-clause-only : goal.returns-clause-only
returns-clause-only c = λ m h.
    let text = c.args.text.now in
    let same = ap (map to_grammar) (sym (c.in-Ok.ensures.only h.tokens h.has_tokens))
    ∙ (same_tokens text c.in-Ok.tokens.items ∙ ap (cursor.toks text) (sym c.as_slice.ensures.value)) in
    let has : has_module c.in-Ok-read_tokens.parts ≡ c.has_module.result =
    ap has_module (sym c.as_slice-in-Ok-read_tokens.ensures) ∙ sym c.has_module.ensures in
    reading.only_module text h.tokens h.has_tokens (cursor.toks text c.as_slice.result.now) same
    c.in-Ok-read_tokens.parts (has ∙ c.if-has_module.false) c.in-Ok-read_tokens.ensures m h.spells

pub returns-clause-fault : goal.returns-clause-fault
returns-clause-fault c =
    let text = c.args.text.now in
    let same = same_tokens text c.in-Ok.tokens.items ∙ ap (cursor.toks text) (sym c.as_slice.ensures.value) in
    let has : has_module c.in-Ok-read_tokens.parts ≡ c.has_module.result =
    ap has_module (sym c.as_slice-in-Ok-read_tokens.ensures) ∙ sym c.has_module.ensures in
    reading.of_no_module text (place.toks text c.in-Ok.tokens.items) c.in-Ok.ensures.found
    (cursor.toks text c.as_slice.result.now) same c.in-Ok-read_tokens.parts
    (has ∙ c.if-has_module.false) c.in-Ok-read_tokens.ensures
