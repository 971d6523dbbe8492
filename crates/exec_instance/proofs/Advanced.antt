-- What the code that advances the instances has, in the terms of the definitions.
use Rattle.std.proofs.Common.{◌≡◌, ℕ, ◌+◌, Bool, true, false, cond, Option, Some, None, List, [], ◌∷◌, ◌++◌, length, map, refl, sym, ◌∙◌, ap, subst}
use Rattle.std.specs.Prelude.{if◌then◌else◌}
use Rattle.std.specs.List.{filter_map, cons_option}
use Rattle.std.specs.List.Retain.{RetainsInTurn}
use Rattle.exec_instance.specs.declared.change.Change.{Change}
use Rattle.exec_instance.specs.declared.effect.Effect.{Effect}
use Rattle.exec_instance.specs.declared.instance.Instance.{Instance}
use Rattle.exec_instance.specs.declared.table.Row.{Row}
use Rattle.exec_instance.specs.declared.table.Row.TheVariants as row
use Rattle.exec_instance.specs.Changes.{change_of}
use Rattle.exec_instance.specs.Running.{Running, IsRising}
use Rattle.exec_instance.specs.Effects.{with_change, row_of, born, last_after, after_change, kept, advanced, started, old_effects, effects}
use Rattle.exec_instance.proofs.Advancing.{filter_map-agree, Rise-advanced}

-- what `retain_mut` leaves, where each call tells whether the instance stays and as what

if_kept : (b : Bool) (y : Instance) (zs : List Instance) → cons_option (if b then Some y else None) zs ≡ cond b (y ∷ zs) zs
if_kept true y zs = refl
if_kept false y zs = refl

pub retained : {S : Type 0} (R : S → Instance → Bool → S → Instance → Type 0) (h : Instance → Option Instance) (f : S) → ((x : Instance) (b : Bool) (t : S) (y : Instance) → R f x b t y → (h x ≡ (if b then Some y else None)) × (t ≡ f)) → (xs ys : List Instance) → RetainsInTurn R f xs ys → ys ≡ filter_map h xs
retained R h f each [] ys r = r
retained R h f each (x ∷ xs) ys r =
    let e = each x r.0 r.1 r.2 r.3 in
    let rest : r.4 ≡ filter_map h xs = retained R h f each xs r.4 (subst (λ s. RetainsInTurn R s xs r.4) e.1 r.5) in
    r.6 ∙ sym (if_kept r.0 r.2 r.4) ∙ ap (λ (o : Option Instance). cons_option o r.4) (sym e.0) ∙ ap (cons_option (h x)) rest

abbrev pub running_of : ℕ → List Instance → Running
running_of last instances = record { last = last; instances = instances }

module _ (f : ℕ → Option Change) (changes : List Change) (same : (id : ℕ) → f id ≡ change_of changes id) where
  same_row : (r : Row) (running : List Instance) → row_of r f running ≡ row_of r (change_of changes) running
  same_row r running = filter_map-agree (λ i. with_change r i (f i.id)) (λ i. with_change r i (change_of changes i.id)) (λ i. ap (with_change r i) (same i.id)) running

  same_kept : (running : List Instance) → kept f running ≡ kept (change_of changes) running
  same_kept running = filter_map-agree (λ i. after_change i (f i.id)) (λ i. after_change i (change_of changes i.id)) (λ i. ap (after_change i) (same i.id)) running

  five : (a a' b b' c c' d d' e e' : List Effect) → a ≡ a' → b ≡ b' → c ≡ c' → d ≡ d' → e ≡ e' → a ++ b ++ c ++ d ++ e ≡ a' ++ b' ++ c' ++ d' ++ e'
  five a a' b b' c c' d d' e e' p q r s t = cc

  same_effects : (running : List Instance) → old_effects f running ≡ old_effects (change_of changes) running
  same_effects running =
      five _ _ _ _ _ _ _ _ _ _ (same_row row.More running) (same_row row.Ended running) (same_row row.Killed running) (same_row row.Suspended running) (same_row row.Resumed running)

  module _ (now : Running) (last : ℕ) (items new : List Instance) (view : record { last = last; instances = items } ≡ now) (is_new : new ≡ born last changes) where
    pub advanced_rises : (seen after : List Instance) (n : ℕ) → IsRising items last → seen ≡ items → after ≡ kept f seen ++ new → n ≡ length new → IsRising after (last + n)
    advanced_rises seen after n rise is_seen is_after is_n =
        let e : after ≡ kept f items ++ born last changes = is_after ∙ ap (λ (is : List Instance). kept f is ++ new) is_seen ∙ ap (λ (is : List Instance). kept f items ++ is) is_new in
        let g : last + n ≡ last_after last changes = ap (λ (m : ℕ). last + m) (is_n ∙ ap length is_new) in
        subst (λ (is : List Instance). IsRising is (last + n)) (sym e) (subst (λ (m : ℕ). IsRising (kept f items ++ born last changes) m) (sym g) (Rise-advanced f last changes items rise))

    pub advanced_now : (seen after : List Instance) (n : ℕ) → seen ≡ items → after ≡ kept f seen ++ new → n ≡ length new → running_of (last + n) after ≡ running_of (last_after now.last changes) (advanced now.last changes now.instances)
    advanced_now seen after n is_seen is_after is_n =
        let e : after ≡ advanced last changes items =
        is_after ∙ ap (λ (is : List Instance). kept f is ++ new) is_seen ∙ ap (λ (is : List Instance). kept f items ++ is) is_new ∙ ap (λ (is : List Instance). is ++ born last changes) (same_kept items) in
        let g : last + n ≡ last_after last changes = ap (λ (m : ℕ). last + m) (is_n ∙ ap length is_new) in
        ap (running_of (last + n)) e ∙ ap (λ (m : ℕ). running_of m (advanced last changes items)) g
        ∙ ap (λ (w : Running). running_of (last_after w.last changes) (advanced w.last changes w.instances)) view

    pub advanced_told : (out out' told told' : List Effect) (running born_seen : List Instance) → out' ≡ out ++ told' → told' ≡ told ++ map started born_seen → told ≡ old_effects f running → running ≡ items → born_seen ≡ new → out' ≡ out ++ effects now.last changes now.instances
    advanced_told out out' told told' running born_seen a b c d e =
        let g : told ≡ old_effects (change_of changes) items = c ∙ ap (old_effects f) d ∙ same_effects items in
        let h : map started born_seen ≡ map started (born last changes) = ap (map started) (e ∙ is_new) in
        a ∙ ap (λ (t : List Effect). out ++ t) (b ∙ ap (λ (t : List Effect). t ++ map started born_seen) g ∙ ap (λ (t : List Effect). old_effects (change_of changes) items ++ t) h)
        ∙ ap (λ (w : Running). out ++ effects w.last changes w.instances) view
