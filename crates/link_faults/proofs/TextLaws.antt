-- The modules, bodies and hosts of a text that is one declaration longer.
use Rattle.std.proofs.Common.{◌≡◌, ℕ, ◌+◌, ◌<◌, List, [], ◌∷◌, ◌++◌, length, map, take, get_or, refl, sym, ◌∙◌, ap, subst}
use Rattle.std.proofs.lemmas.List.{take_more}
use Rattle.module_tree.specs.declared.source.Part.{Part}
use Rattle.module_tree.specs.declared.source.Part.TheVariants as top
use Rattle.module_tree.specs.Callables.{modules_of, signatures_of}
use Rattle.link_faults.specs.Named.{Name}
use Rattle.link_faults.specs.Rows.{Program}

pub modules_joined : (xs ys : Program) → modules_of (xs ++ ys) ≡ modules_of xs ++ modules_of ys
modules_joined [] ys = refl
modules_joined (top.Module m ∷ xs) ys = ap (λ ms. m ∷ ms) (modules_joined xs ys)
modules_joined (top.Body b ∷ xs) ys = modules_joined xs ys
modules_joined (top.Host h ∷ xs) ys = modules_joined xs ys

pub signatures_joined : (xs ys : Program) → signatures_of (xs ++ ys) ≡ signatures_of xs ++ signatures_of ys
signatures_joined [] ys = refl
signatures_joined (top.Module m ∷ xs) ys = signatures_joined xs ys
signatures_joined (top.Body b ∷ xs) ys = ap (λ ss. record {
  pos = b.pos;
  name = b.name;
  parameters = map (λ p. p.kind) b.parameters;
  answer = b.answer;
} ∷ ss) (signatures_joined xs ys)
signatures_joined (top.Host h ∷ xs) ys = ap (λ ss. record {
  pos = h.pos;
  name = h.name;
  parameters = h.parameters;
  answer = h.answer;
} ∷ ss) (signatures_joined xs ys)

pub modules_more : (parts : Program) (i : ℕ) (x : Part Name) → i < length parts → x ≡ get_or parts i x
    → modules_of (take (i + 1) parts) ≡ modules_of (take i parts) ++ modules_of (x ∷ [])
modules_more parts i x within at = ap modules_of (take_more parts i x within)
    ∙ modules_joined (take i parts) (get_or parts i x ∷ [])
    ∙ ap (λ y. modules_of (take i parts) ++ modules_of (y ∷ [])) (sym at)

-- one more of what a loop goes over
pub one_more : {A : Type 0} (P : List A → Type 0) (xs : List A) (i : ℕ) (x : A) → i < length xs
    → x ≡ get_or xs i x → P (take i xs ++ x ∷ []) → P (take (i + 1) xs)
one_more P xs i x within at h = subst P (sym (take_more xs i x within
    ∙ ap (λ y. take i xs ++ y ∷ []) (sym at))) h
