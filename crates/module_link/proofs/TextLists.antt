-- The modules and signatures of a text, one declaration more.
use Rattle.std.proofs.Common.{◌≡◌, ◌+◌, ◌<◌, List, [], ◌∷◌, ◌++◌, length, map, take, get_or, Bor, ℕ, refl, sym, ap}
use Rattle.std.proofs.Common.{◌∙◌, append-nil}
use Rattle.std.proofs.lemmas.List.{take_more, map_push}
use Rattle.module_tree.specs.declared.source.ModuleNode.{ModuleNode}
use Rattle.module_tree.specs.declared.source.Part.{Part}
use Rattle.module_tree.specs.declared.source.Part.TheVariants as part
use Rattle.module_tree.specs.Callables.{Signature, modules_of, signatures_of}
use Rattle.link_faults.specs.Named.{Name}

abbrev pub targets : {A : Type 0} → List (Bor A) → List A
targets {A} = map (λ (x : Bor A). x.now)

modules_joined : (xs : List (Part Name)) (t : Part Name)
    → modules_of (xs ++ t ∷ []) ≡ modules_of xs ++ modules_of (t ∷ [])
modules_joined [] t = refl
modules_joined (part.Module m ∷ xs) t = ap (λ ms. m ∷ ms) (modules_joined xs t)
modules_joined (part.Body b ∷ xs) t = modules_joined xs t
modules_joined (part.Host h ∷ xs) t = modules_joined xs t

abbrev pub names_of : List (Part Name) → List Name
names_of parts = map (λ (s : Signature). s.name) (signatures_of parts)

names_joined : (xs : List (Part Name)) (t : Part Name)
    → names_of (xs ++ t ∷ []) ≡ names_of xs ++ names_of (t ∷ [])
names_joined [] t = refl
names_joined (part.Module m ∷ xs) t = names_joined xs t
names_joined (part.Body b ∷ xs) t = ap (λ ns. b.name ∷ ns) (names_joined xs t)
names_joined (part.Host h ∷ xs) t = ap (λ ns. h.name ∷ ns) (names_joined xs t)

one_more : (parts : List (Part Name)) (i : ℕ) (t : Part Name) → i < length parts → t ≡ get_or parts i t
    → take (i + 1) parts ≡ take i parts ++ t ∷ []
one_more parts i t lt is = take_more parts i t lt ∙ ap (λ u. take i parts ++ u ∷ []) (sym is)

pub modules_more : (parts : List (Part Name)) (i : ℕ) (t : Part Name) → i < length parts
    → t ≡ get_or parts i t → modules_of (take (i + 1) parts) ≡ modules_of (take i parts) ++ modules_of (t ∷ [])
modules_more parts i t lt is = ap modules_of (one_more parts i t lt is) ∙ modules_joined (take i parts) t

pub names_more : (parts : List (Part Name)) (i : ℕ) (t : Part Name) → i < length parts
    → t ≡ get_or parts i t → names_of (take (i + 1) parts) ≡ names_of (take i parts) ++ names_of (t ∷ [])
names_more parts i t lt is = ap names_of (one_more parts i t lt is) ∙ names_joined (take i parts) t

-- what is pushed is what the declaration has
pub pushed : {A : Type 0} (old new : List (Bor A)) (x : Bor A) (before after own : List A)
    → targets old ≡ before → after ≡ before ++ own → own ≡ x.now ∷ [] → new ≡ old ++ x ∷ []
    → targets new ≡ after
pushed {A} old new x before after own e more is push =
    ap targets push ∙ map_push (λ (x : Bor A). x.now) old x ∙ ap (λ xs. xs ++ x.now ∷ []) e
    ∙ ap (λ xs. before ++ xs) (sym is) ∙ sym more

-- a declaration that has nothing of it
pub kept : {A : Type 0} (old new : List (Bor A)) (before after own : List A)
    → targets old ≡ before → after ≡ before ++ own → own ≡ [] → new ≡ old → targets new ≡ after
kept old new before after own e more none same =
    ap targets same ∙ e ∙ sym (append-nil before) ∙ ap (λ xs. before ++ xs) (sym none) ∙ sym more

pub no_module : (t : Part Name) → ((m : ModuleNode Name) → t ≡ part.Module m → ⊥) → modules_of (t ∷ []) ≡ []
no_module (part.Module m) no_one = absurd (no_one m refl)
no_module (part.Body b) no_one = refl
no_module (part.Host h) no_one = refl

map_targets : {A B : Type 0} (f : A → B) (refs : List (Bor A)) → map (λ (x : Bor A). f x.now) refs ≡ map f
    (targets refs)
map_targets f [] = refl
map_targets f (x ∷ xs) = ap (λ ys. f x.now ∷ ys) (map_targets f xs)

pub through : {A B : Type 0} (f : A → B) (refs : List (Bor A)) (xs : List A) → targets refs ≡ xs
    → map (λ (x : Bor A). f x.now) refs ≡ map f xs
through f refs xs e = map_targets f refs ∙ ap (map f) e
