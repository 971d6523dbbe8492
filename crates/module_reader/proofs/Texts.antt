-- What reading the tokens of a module text gives: its tree, or its first fault, or that it has no module.
use Rattle.std.proofs.Common.{◌≡◌, ℕ, suc, ◌+◌, true, false, List, [], ◌∷◌, ◌++◌, Option, Some, Result, Ok}
use Rattle.std.proofs.Common.{Err, refl, subst, ◌∙◌, arith, inr}
use Rattle.std.specs.Prelude.{IfOk, IfErr}
use Rattle.std.proofs.lemmas.List.Folds.{list_any-append}
use Rattle.module_tree.specs.declared.source.Part.{Part}
use Rattle.module_tree.specs.Source.{is_module}
use Rattle.grammar.specs.Tokens.{Tok}
use Rattle.grammar.specs.Fault.{Refusal}
use Rattle.grammar.specs.Parser.{Unread, Reads, start, whole}
use Rattle.grammar.specs.Texts.{Text, Within, FirstFault, ReadAs}
use Rattle.grammar.proofs.Bundle.{Sample}
use Rattle.grammar.proofs.KindSets.{or_right}
use Rattle.grammar.proofs.WholeTexts as all
use Rattle.grammar.proofs.Completions.{Completed, many-append, many_one, fault_complete, text_alone}
use Rattle.expression_reader.specs.declared.terminal.Terminal.{Terminal}
use Rattle.expression_reader.specs.Terminals.{symbols}
use Rattle.expression_reader.specs.Trees.{Name}
use Rattle.module_reader.specs.Trees.{has_module}
use Rattle.module_reader.specs.Rules.{parts, program, part, module_of}
use Rattle.module_reader.specs.Reference as p
use Rattle.module_reader.proofs.ProgramRules.{good_module_of, good_parts}

-- ---- any list of bodies, hosts and modules is completed by a module

module_is : (room : ℕ) (a : Part Name) (u : List (Tok Terminal)) (ks : List ℕ) → module_of room a u ks
    → is_module a ≡ true
module_is room a u ks y = rw y.8.8.8.8.8.8.0 refl

sample_module : (m : ℕ) → Sample (module_of (128 + m))
sample_module m =
    let enough : suc (suc (126 + m)) ≡ 128 + m = omega arith in
    subst (λ n. Sample (module_of n)) enough ((good_module_of 0 (suc (126 + m))).sample (omega arith))

with_module : (m : ℕ) (a : List (Part Name)) (u : List (Tok Terminal)) (ks : List ℕ) → parts (128 + m) a u ks
    → Completed (program (128 + m)) u ks
with_module m a u ks y =
    let w = sample_module m in
    let found : is_module w.0 ≡ true = module_is (128 + m) w.0 w.1 w.2 w.3 in (
      a ++ w.0 ∷ [],
      w.1,
      w.2,
      (
        many-append (part (128 + m)) a (w.0 ∷ []) u w.1 ks w.2 y
            (many_one (part (128 + m)) w.0 w.1 w.2 (inr (inr w.3))),
        list_any-append is_module a (w.0 ∷ [])
            ∙ or_right (has_module a) _ (rw found refl),
      ),
    )

-- ---- what is read

module _ {E : Type 0} (seen : E → Option Refusal) (size : ℕ) (ts : List (Tok Terminal))
    (result : Result (List (Part Name)) E) (new : Unread Terminal)
    (reads : Reads seen (whole (p.parts 128) (start ts size)) result new) where
  -- what is read is within the limits
  pub is_found : IfOk result (λ a. Within symbols parts a ts)
  is_found = all.is_found symbols parts (p.parts 128) (good_parts 127) seen size ts result new reads

  -- each text within the limits is read as its tree, unless memory runs out
  pub is_read_tops : (a : List (Part Name)) → Within symbols parts a ts → ReadAs seen a result
  is_read_tops a y = all.is_read symbols parts (p.parts 128)
      (good_parts 127) seen size ts result new reads a y

  pub is_read : (a : List (Part Name)) → Within symbols program a ts → ReadAs seen a result
  is_read a y = is_read_tops a (y.0, y.1.0, y.2)

  -- where it refuses, it is the first fault, of lists without a module too
  pub is_first_tops : IfErr result (λ e. (r : Refusal) → seen e ≡ Some r → FirstFault symbols parts size ts r)
  is_first_tops = all.is_first symbols parts (p.parts 128) (good_parts 127) seen size ts result new reads

  pub is_first : IfErr result (λ e. (r : Refusal) → seen e ≡ Some r → FirstFault symbols program size ts r)
  is_first = of_texts result is_first_tops
    where
      of_texts : (result : Result (List (Part Name)) E) → IfErr result (λ e. (r : Refusal) → seen e ≡ Some r
          → FirstFault symbols parts size ts r) → IfErr result (λ e. (r : Refusal) → seen e ≡ Some r
          → FirstFault symbols program size ts r)
      of_texts (Ok a) h = tt
      of_texts (Err e) h = λ r c. fault_complete symbols parts program
          (λ n a u ks y. y.0) with_module size ts r (h r c)

-- ---- whether it has a module

-- with a module, it is a text of the grammar
pub is_text : (ts : List (Tok Terminal)) (a : List (Part Name)) → has_module a ≡ true
    → Within symbols parts a ts → Within symbols program a ts
is_text ts a h y = (y.0, (y.1, h), y.2)

-- with none, it is no text of the grammar, whatever the limits
pub is_no_text : (ts : List (Tok Terminal)) (a : List (Part Name)) → has_module a ≡ false
    → Within symbols parts a ts → (b : List (Part Name)) → ¬ Text symbols program b ts
is_no_text ts a h y b z =
    let same : b ≡ a = text_alone symbols parts (p.parts 128) (good_parts 127) ts a b y
    (z.0, (z.1.0, z.1.1.0)) in
    let found : has_module a ≡ true = subst (λ c. has_module c ≡ true) same z.1.1.1 in
    let no : ⊥ = cc in no
