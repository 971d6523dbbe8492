-- The modules of a text, one declaration after the other.
use Rattle.std.proofs.Common.{◌≡◌, ◌+◌, ◌<◌, List, [], ◌∷◌, ◌++◌, length, map, take, get_or, Bor, Option}
use Rattle.std.proofs.Common.{Some, None, ℕ, zero, suc, ◌≤◌, refl, sym, ap, ◌∙◌, append-nil, arith}
use Rattle.std.proofs.lemmas.List.{take_more, map_push, length-map}
use Rattle.module_tree.specs.declared.source.ModuleNode.{ModuleNode}
use Rattle.module_tree.specs.declared.source.Part.{Part}
use Rattle.module_tree.specs.declared.source.Part.TheVariants as part
use Rattle.module_tree.specs.Callables.{modules_of}
use Rattle.std.specs.Prelude.{slice_get}
use Rattle.std.specs.Slice.{IsItemAt}

joined : (xs : List (Part ℕ)) (t : Part ℕ) → modules_of (xs ++ t ∷ []) ≡ modules_of xs ++ modules_of (t ∷ [])
joined [] t = refl
joined (part.Module m ∷ xs) t = ap (λ ms. m ∷ ms) (joined xs t)
joined (part.Body b ∷ xs) t = joined xs t
joined (part.Host h ∷ xs) t = joined xs t

pub one_more : (parts : List (Part ℕ)) (i : ℕ) (t : Part ℕ) → i < length parts → t ≡ get_or parts i t
    → modules_of (take (i + 1) parts) ≡ modules_of (take i parts) ++ modules_of (t ∷ [])
one_more parts i t lt is = ap modules_of (take_more parts i t lt ∙ ap (λ u. take i parts ++ u ∷ [])
    (sym is)) ∙ joined (take i parts) t

abbrev targets : List (Bor (ModuleNode ℕ)) → List (ModuleNode ℕ)
targets = map (λ (m : Bor (ModuleNode ℕ)). m.now)

pub a_module : (old new : List (Bor (ModuleNode ℕ))) (m : Bor (ModuleNode ℕ))
    (before : List (ModuleNode ℕ)) (t : Part ℕ) (after : List (ModuleNode ℕ)) → targets old ≡ before
    → after ≡ before ++ modules_of (t ∷ []) → t ≡ part.Module m.now
    → new ≡ old ++ m ∷ [] → targets new ≡ after
a_module old new m before t after e more is pushed =
    ap targets pushed ∙ map_push (λ (m : Bor (ModuleNode ℕ)). m.now) old m ∙ ap (λ ms. ms ++ m.now ∷ []) e
    ∙ ap (λ (u : Part ℕ). before ++ modules_of (u ∷ [])) (sym is) ∙ sym more

none_of : (t : Part ℕ) → ((m : ModuleNode ℕ) → t ≡ part.Module m → ⊥) → modules_of (t ∷ []) ≡ []
none_of (part.Module m) no_one = absurd (no_one m refl)
none_of (part.Body b) no_one = refl
none_of (part.Host h) no_one = refl

pub no_module : (old new : List (Bor (ModuleNode ℕ))) (before : List (ModuleNode ℕ)) (t : Part ℕ)
    (after : List (ModuleNode ℕ)) → targets old ≡ before → after ≡ before ++ modules_of (t ∷ [])
    → ((m : ModuleNode ℕ) → t ≡ part.Module m → ⊥)
    → new ≡ old → targets new ≡ after
no_module old new before t after e more no_one same = ap targets same ∙ e ∙ sym (append-nil before)
    ∙ ap (λ ms. before ++ ms) (sym (none_of t no_one)) ∙ sym more

-- what stands at a place of the list of modules
pub found : (xs : List (Bor (ModuleNode ℕ))) (ms : List (ModuleNode ℕ)) (i : ℕ) (x : Bor (ModuleNode ℕ))
    → targets xs ≡ ms → i < length xs → x ≡ get_or xs i x → slice_get ms i ≡ Some x.now
found xs ms i x e lt is = ap (λ z. slice_get z i) (sym e) ∙ there xs i lt is
  where
    there : (xs : List (Bor (ModuleNode ℕ))) (i : ℕ) → i < length xs → x ≡ get_or xs i x
        → slice_get (targets xs) i ≡ Some x.now
    there [] i lt is = let no : ⊥ = omega arith in absurd no
    there (y ∷ ys) zero lt is = ap (λ (z : Bor (ModuleNode ℕ)). Some z.now) (sym is)
    there (y ∷ ys) (suc i) lt is = there ys i (omega arith) is

pub not_found : (xs : List (Bor (ModuleNode ℕ))) (ms : List (ModuleNode ℕ)) (i : ℕ) → targets xs ≡ ms
    → length xs ≤ i → slice_get ms i ≡ None
not_found xs ms i e le = ap (λ z. slice_get z i) (sym e) ∙ there xs i le
  where
    there : (xs : List (Bor (ModuleNode ℕ))) (i : ℕ) → length xs ≤ i → slice_get (targets xs) i ≡ None
    there [] i le = refl
    there (y ∷ ys) zero le = let no : ⊥ = omega arith in absurd no
    there (y ∷ ys) (suc i) le = there ys i (omega arith)

pub as_many : (xs : List (Bor (ModuleNode ℕ))) (ms : List (ModuleNode ℕ)) → targets xs ≡ ms
    → length xs ≡ length ms
as_many xs ms e = sym (length-map xs (λ (m : Bor (ModuleNode ℕ)). m.now)) ∙ ap length e

pub past_end : (xs : List (Bor (ModuleNode ℕ))) (i : ℕ) (r : Option (Bor (Bor (ModuleNode ℕ))))
    → IsItemAt xs i r → ((x : Bor (Bor (ModuleNode ℕ))) → r ≡ Some x → ⊥) → length xs ≤ i
past_end xs i None h no_one = h.3
past_end xs i (Some x) h no_one = absurd (no_one x refl)
