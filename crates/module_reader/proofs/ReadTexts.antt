-- What `read` promises, from what its parts do.
use Rattle.std.proofs.Common.{◌≡◌, ◌≢◌, ℕ, true, false, List, map, length, Some, None, Result, Ok, Err}
use Rattle.std.proofs.Common.{option_map, refl, sym, ap, subst, ◌∙◌, inl, inr}
use Rattle.module_reader.specs.declared.fault.GrammarFault.{GrammarFault}
use Rattle.module_reader.specs.declared.fault.GrammarFaultKind.{GrammarFaultKind}
use Rattle.module_reader.specs.declared.fault.GrammarFaultKind.TheVariants as k
use Rattle.module_reader.specs.declared.fault.ReadFault.TheVariants as fault
use Rattle.module_token.specs.Tokens as token
use Rattle.module_token.specs.Tokens.{HasTokens}
use Rattle.module_tree.specs.declared.source.Part.{Part}
use Rattle.module_tree.specs.Source.{is_source}
use Rattle.module_tree.specs.DeclaredAt.{NamesGoByPosition}
use Rattle.grammar.specs.Tokens.{Tok}
use Rattle.grammar.specs.Fault.{Fault, Refusal, Unexpected, EndOfText, Deep, Large, OutOfRange}
use Rattle.grammar.specs.Parser.{Exact, start, whole}
use Rattle.grammar.specs.Texts.{Within, FirstFault, ReadAs}
use Rattle.expression_reader.specs.declared.fault.StepError.{StepError}
use Rattle.expression_reader.specs.declared.fault.StepError.TheVariants as r
use Rattle.expression_reader.specs.declared.terminal.Terminal.{Terminal}
use Rattle.expression_reader.specs.Terminals.{symbols}
use Rattle.expression_reader.specs.Trees.{Name, pos_at}
use Rattle.module_reader.specs.Trees.{has_module}
use Rattle.module_reader.specs.Rules.{parts, program}
use Rattle.expression_reader.specs.Rules.{largest}
use Rattle.module_reader.specs.Reference as p
use Rattle.expression_reader.specs.Refusals.{as_refusal}
use Rattle.module_reader.specs.Refusals.{as_fault}
use Rattle.module_reader.specs.Reading.{to_grammar, refusal_of, HasTree, IsGrammarFault, IsFirstFault}
use Rattle.module_reader.specs.Reading.{IsByRule}
use Rattle.module_reader.proofs.Texts.{is_found, is_read_tops, is_first, is_first_tops, is_text}
use Rattle.module_reader.proofs.RealTokens.{all_lawful}
use Rattle.module_reader.proofs.written.Texts.{written}
use Rattle.module_reader.proofs.named.Texts.{names_go_by_position}

module _ (size : ℕ) (ts : List (Tok Terminal)) where
  -- what was read of the tokens
  pub tops_found : (tree : List (Part Name)) → Exact as_refusal (whole (p.parts 128) (start ts size))
      (Ok tree) → Within symbols parts tree ts
  tops_found tree x = is_found as_refusal size ts (Ok tree) x.0 x.1

  -- a tree that the tokens have is read
  pub tops_read : (result : Result (List (Part Name)) StepError)
      → Exact as_refusal (whole (p.parts 128) (start ts size)) result → (tree : List (Part Name))
      → Within symbols parts tree ts → ReadAs as_refusal tree result
  tops_read result x tree y = is_read_tops as_refusal size ts result x.0 x.1 tree y

  first_of : (e : StepError) → Exact as_refusal (whole (p.parts 128) (start ts size)) (Err e) → (f : Refusal)
      → as_refusal e ≡ Some f → FirstFault symbols program size ts f
  first_of e x = is_first as_refusal size ts (Err e) x.0 x.1

  inside_of : (e : StepError) → Exact as_refusal (whole (p.parts 128) (start ts size)) (Err e) → (f : Refusal)
      → as_refusal e ≡ Some f → FirstFault symbols parts size ts f
  inside_of e x = is_first_tops as_refusal size ts (Err e) x.0 x.1

  -- where the grammar refuses the tokens
  pub fault_found : (e : StepError) → Exact as_refusal (whole (p.parts 128) (start ts size)) (Err e)
      → (f : GrammarFault) → as_refusal e ≡ Some (refusal_of f) → IsGrammarFault size ts f
  fault_found e x f h = record {
    first = first_of e x (refusal_of f) h;
    inside = inside_of e x (refusal_of f) h;
  }

no_memory : (e : StepError) → as_refusal e ≡ None → as_fault e ≡ fault.NoMemory
no_memory r.NoMemory h = refl
no_memory (r.Unexpected n) h = absurd (let no : ⊥ = cc in no)
no_memory (r.EndOfText n) h = absurd (let no : ⊥ = cc in no)
no_memory (r.DeepNesting n) h = absurd (let no : ⊥ = cc in no)
no_memory (r.ExprLarge n) h = absurd (let no : ⊥ = cc in no)
no_memory (r.NumberLarge n) h = absurd (let no : ⊥ = cc in no)
no_memory (r.BadCount n) h = absurd (let no : ⊥ = cc in no)

abbrev fault_at : ℕ → GrammarFaultKind → GrammarFault
fault_at n kind = record { pos = pos_at n; kind = kind }

module _ (text : List ℕ) (tokens : List token.TextToken) (found : HasTokens text tokens)
    (ts : List (Tok Terminal)) (same : map to_grammar tokens ≡ ts) where
  spells_tree : (tree : List (Part Name)) → has_module tree ≡ true
      → Exact as_refusal (whole (p.parts 128) (start ts (length text))) (Ok tree)
      → Within symbols program tree (map to_grammar tokens)
  spells_tree tree m x = subst (Within symbols program tree) (sym same)
      (is_text ts tree m (tops_found (length text) ts tree x))

  -- the tree that was read is the text's
  pub has_tree : (tree : List (Part Name)) → has_module tree ≡ true
      → Exact as_refusal (whole (p.parts 128) (start ts (length text))) (Ok tree) → HasTree text tree
  has_tree tree m x = record { tokens = tokens; has_tokens = found; spells = spells_tree tree m x }

  pub is_source_tree : (tree : List (Part Name)) → has_module tree ≡ true
      → Exact as_refusal (whole (p.parts 128) (start ts (length text))) (Ok tree) → is_source tree ≡ true
  is_source_tree tree m x = written tree (map to_grammar tokens) (all_lawful found) (spells_tree tree m x)

  pub names_by_position : (tree : List (Part Name)) → has_module tree ≡ true
      → Exact as_refusal (whole (p.parts 128) (start ts (length text))) (Ok tree) → NamesGoByPosition tree
  names_by_position tree m x = names_go_by_position (has_tree tree m x)

  -- a fault of the grammar is the text's
  of_refusal : (e : StepError) → Exact as_refusal (whole (p.parts 128) (start ts (length text))) (Err e)
      → (f : GrammarFault) → as_refusal e ≡ Some (refusal_of f) → IsFirstFault text (fault.Grammar f)
  of_refusal e x f h = (
    tokens,
    found,
    subst (λ zs. IsGrammarFault (length text) zs f) (sym same)
        (fault_found (length text) ts e x f h),
  )

  pub of_grammar : (e : StepError) → Exact as_refusal (whole (p.parts 128) (start ts (length text))) (Err e)
      → IsFirstFault text (as_fault e)
  of_grammar (r.Unexpected n) x = of_refusal (r.Unexpected n) x (fault_at n k.Unexpected) refl
  of_grammar (r.EndOfText n) x = of_refusal (r.EndOfText n) x (fault_at n k.EndOfText) refl
  of_grammar (r.DeepNesting n) x = of_refusal (r.DeepNesting n) x (fault_at n k.DeepNesting) refl
  of_grammar (r.ExprLarge n) x = of_refusal (r.ExprLarge n) x (fault_at n k.ExprLarge) refl
  of_grammar (r.NumberLarge n) x = of_refusal (r.NumberLarge n) x (fault_at n k.NumberLarge) refl
  of_grammar (r.BadCount n) x = of_refusal (r.BadCount n) x (fault_at n k.BadCount) refl
  of_grammar r.NoMemory x = tt

  -- so is that there is no module
  pub of_no_module : (tree : List (Part Name)) → has_module tree ≡ false
      → Exact as_refusal (whole (p.parts 128) (start ts (length text))) (Ok tree)
      → IsFirstFault text fault.NoModule
  of_no_module tree m x = (
    tokens,
    found,
    record {
      tree = tree;
      spells = subst (Within symbols parts tree) (sym same) (tops_found (length text) ts tree x);
      none = m;
    },
  )

  -- a tree that the text has by these tokens
  tops_of : (tree : List (Part Name)) → Within symbols program tree (map to_grammar tokens)
      → Within symbols parts tree ts
  tops_of tree y = subst (Within symbols parts tree) same (y.0, y.1.0, y.2)

  module_of : (tree : List (Part Name)) → Within symbols program tree (map to_grammar tokens)
      → has_module tree ≡ true
  module_of tree y = y.1.1

  -- it is the one that was read
  pub only_tree : (read : List (Part Name)) → Exact as_refusal (whole (p.parts 128) (start ts (length text)))
      (Ok read) → (tree : List (Part Name)) → Within symbols program tree (map to_grammar tokens)
      → read ≡ tree
  only_tree read x tree y = tops_read (length text) ts (Ok read) x tree (tops_of tree y)

  pub only_memory : (e : StepError) → Exact as_refusal (whole (p.parts 128) (start ts (length text))) (Err e)
      → (tree : List (Part Name)) → Within symbols program tree (map to_grammar tokens)
      → as_fault e ≡ fault.NoMemory
  only_memory e x tree y = no_memory e (tops_read (length text) ts (Err e) x tree (tops_of tree y))

  pub only_module : {X : Type 0} (read : List (Part Name)) → has_module read ≡ false
      → Exact as_refusal (whole (p.parts 128) (start ts (length text))) (Ok read) → (tree : List (Part Name))
      → Within symbols program tree (map to_grammar tokens) → X
  only_module read m x tree y =
      let found : has_module read ≡ true = subst (λ a. has_module a ≡ true) (sym (only_tree read x tree y))
      (module_of tree y) in
      absurd (let no : ⊥ = cc in no)

-- the kind of a fault is that of the reader of its rule
module _ (text : List ℕ) (ts : List (Tok Terminal)) (same : (tokens : List token.TextToken)
    → HasTokens text tokens → map to_grammar tokens ≡ ts) where
  by_refusal : (e : StepError) → Exact as_refusal (whole (p.parts 128) (start ts (length text))) (Err e)
      → (f : GrammarFault) → as_refusal e ≡ Some (refusal_of f) → IsByRule text (fault.Grammar f)
  by_refusal e x f h = λ tokens has. subst (λ zs. whole (p.parts 128) (start zs (length text))
      ≡ Err (refusal_of f)) (sym (same tokens has)) (x.1 (refusal_of f) h).refused

  pub by_rule : (e : StepError) → Exact as_refusal (whole (p.parts 128) (start ts (length text))) (Err e)
      → IsByRule text (as_fault e)
  by_rule (r.Unexpected n) x = by_refusal (r.Unexpected n) x (fault_at n k.Unexpected) refl
  by_rule (r.EndOfText n) x = by_refusal (r.EndOfText n) x (fault_at n k.EndOfText) refl
  by_rule (r.DeepNesting n) x = by_refusal (r.DeepNesting n) x (fault_at n k.DeepNesting) refl
  by_rule (r.ExprLarge n) x = by_refusal (r.ExprLarge n) x (fault_at n k.ExprLarge) refl
  by_rule (r.NumberLarge n) x = by_refusal (r.NumberLarge n) x (fault_at n k.NumberLarge) refl
  by_rule (r.BadCount n) x = by_refusal (r.BadCount n) x (fault_at n k.BadCount) refl
  by_rule r.NoMemory x = tt
