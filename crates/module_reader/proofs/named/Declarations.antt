-- The signals of lists, and those of interfaces, have the names of their positions.
use Rattle.std.proofs.Common.{◌≡◌, ℕ, List, [], ◌∷◌, ◌++◌, map, Option}
use Rattle.std.specs.List.{AllByRecursion, flat_map}
use Rattle.hh_base.specs.declared.value.Pos.{Pos}
use Rattle.module_tree.specs.declared.source.InterfaceNode.{InterfaceNode}
use Rattle.module_tree.specs.DeclaredAt.{DeclaredAt, declared_signal}
use Rattle.module_reader.specs.Rules as g
use Rattle.module_reader.proofs.named.Naming.{Tells, tells_then, tells_past, tells_pure, name}

-- ---- lists

module _ {A : Type 0} (P : A → Type 0) where
  pub all_joined : (xs ys : List A) → AllByRecursion P xs → AllByRecursion P ys → AllByRecursion P (xs ++ ys)
  all_joined [] ys h e = e
  all_joined (x ∷ xs) ys h e = (h.0, all_joined xs ys h.1 e)

  module _ {B : Type 0} where
    pub all_mapped : (f : B → A) (bs : List B) → AllByRecursion (λ b. P (f b)) bs
        → AllByRecursion P (map f bs)
    all_mapped f [] h = tt
    all_mapped f (b ∷ bs) h = (h.0, all_mapped f bs h.1)

    pub all_flat : (f : B → List A) (bs : List B) → AllByRecursion (λ b. AllByRecursion P (f b)) bs
        → AllByRecursion P (flat_map (λ xs. xs) (map f bs))
    all_flat f [] h = tt
    all_flat f (b ∷ bs) h = all_joined (f b) (flat_map (λ xs. xs) (map f bs)) h.0 (all_flat f bs h.1)

-- ---- signals

module _ (name_at : Pos → Option (List ℕ)) where
  abbrev pub HasName : DeclaredAt → Type 0
  HasName d = d.name ≡ name_at d.pos

  pub signal : Tells name_at (λ s. HasName (declared_signal s)) g.signal
  signal = tells_then name (λ n h. tells_past (λ k. tells_past (λ v. tells_past (λ c. tells_pure h))))

  pub interface : Tells name_at (λ (d : InterfaceNode). HasName (declared_signal d.signal)) g.interface
  interface = tells_past (λ d. tells_then signal (λ s h. tells_pure h))
