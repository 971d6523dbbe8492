-- The place of an instance among those that rise in id.
use Rattle.std.proofs.Common.{inl, inr, ◌≡◌, ◌≢◌, ℕ, zero, suc, ◌+◌, ◌<◌, ◌≤◌, Bool, cond, Option, Some, None, List, [], ◌∷◌, refl, sym, ◌∙◌, ap, arith}
use Rattle.std.specs.Prelude.{slice_get}
use Rattle.std.proofs.lemmas.Bool.{cases_lt}
use Rattle.exec_instance.specs.declared.instance.Instance.{Instance}
use Rattle.exec_instance.specs.Running.{holder, RiseFrom, IsRising}
use Rattle.exec_instance.proofs.Holding.{eqb_differ, holder-at}
use Rattle.reaction_run.proofs.Holders.{held_within}

-- the instance at a place has an id above the place
pub above : (low last : ℕ) (running : List Instance) (k : ℕ) (i : Instance) → RiseFrom low running last → slice_get running k ≡ Some i → low + k < i.id
above low last [] k i rise is = cc
above low last (j ∷ js) zero i rise is = let e : j ≡ i = cc in let h : low < j.id = rise.0 in let f : j.id ≡ i.id = ap (λ (x : Instance). x.id) e in omega arith
above low last (j ∷ js) (suc k) i rise is = let h : j.id + k < i.id = above j.id last js k i rise.1 is in let g : low < j.id = rise.0 in omega arith

-- ids rise with places
pub later : (low last : ℕ) (running : List Instance) (k n : ℕ) (i j : Instance) → RiseFrom low running last → slice_get running k ≡ Some i → slice_get running n ≡ Some j → k < n → i.id < j.id
later low last [] k n i j rise is is' h = cc
later low last (x ∷ xs) zero zero i j rise is is' h = absurd (omega arith)
later low last (x ∷ xs) zero (suc n) i j rise is is' h = let e : x ≡ i = cc in let f : x.id ≡ i.id = ap (λ (y : Instance). y.id) e in let g : x.id + n < j.id = above x.id last xs n j rise.1 is' in omega arith
later low last (x ∷ xs) (suc k) zero i j rise is is' h = absurd (omega arith)
later low last (x ∷ xs) (suc k) (suc n) i j rise is is' h = later x.id last xs k n i j rise.1 is is' (omega arith)

-- nothing stands past a place where nothing stands
pub past : (running : List Instance) (k n : ℕ) (j : Instance) → slice_get running k ≡ None → k ≤ n → slice_get running n ≡ Some j → ⊥
past [] k n j e h is = cc
past (x ∷ xs) zero n j e h is = cc
past (x ∷ xs) (suc k) zero j e h is = absurd (omega arith)
past (x ∷ xs) (suc k) (suc n) j e h is = past xs k n j e (omega arith) is

-- an id is looked for from one place on and before another
pub record Between (running : List Instance) (id low high : ℕ) : Type 0 where
  pub below : (k : ℕ) (i : Instance) → slice_get running k ≡ Some i → k < low → i.id < id
  pub over : (k : ℕ) (i : Instance) → slice_get running k ≡ Some i → high ≤ k → id < i.id

pub at_first : (running : List Instance) (last id : ℕ) → IsRising running last → Between running id 0 id
at_first running last id rise = record { below = λ k i is h. absurd (omega arith); over = λ k i is h. let g : 0 + k < i.id = above 0 last running k i rise is in omega arith }

-- one step of the search

pub go_up : (running : List Instance) (last id low high middle : ℕ) (i : Instance) → IsRising running last → Between running id low high → slice_get running middle ≡ Some i → i.id < id → Between running id (middle + 1) high
go_up running last id low high middle i rise b is h =
    record {
      below = λ k j is' g. elim (cases_lt k middle) [
        | inl before ↦ let f : j.id < i.id = later 0 last running k middle j i rise is' is before in omega arith
        | inr at ↦ let e : k ≡ middle = omega arith in let f : Some j ≡ Some i = sym is' ∙ ap (slice_get running) e ∙ is in let same : j ≡ i = cc in let ids : j.id ≡ i.id = ap (λ (x : Instance). x.id) same in omega arith
      ];
      over = b.over;
    }

pub go_down : (running : List Instance) (last id low high middle : ℕ) (i : Instance) → IsRising running last → Between running id low high → slice_get running middle ≡ Some i → i.id ≢ id → id ≤ i.id → Between running id low middle
go_down running last id low high middle i rise b is apart h =
    record {
      below = b.below;
      over = λ k j is' g. elim (cases_lt middle k) [
        | inl behind ↦ let f : i.id < j.id = later 0 last running middle k i j rise is is' behind in omega arith
        | inr at ↦ let e : k ≡ middle = omega arith in let f : Some j ≡ Some i = sym is' ∙ ap (slice_get running) e ∙ is in let same : j ≡ i = cc in let ids : j.id ≡ i.id = ap (λ (x : Instance). x.id) same in omega arith
      ];
    }

pub go_past : (running : List Instance) (id low high middle : ℕ) → Between running id low high → slice_get running middle ≡ None → Between running id low middle
go_past running id low high middle b none = record { below = b.below; over = λ k j is g. absurd (past running middle k j none g is) }

-- what the search ends with

apart_none : (running : List Instance) (id : ℕ) → ((k : ℕ) (i : Instance) → slice_get running k ≡ Some i → i.id ≢ id) → holder running id ≡ None
apart_none [] id apart = refl
apart_none (j ∷ js) id apart = ap (λ (b : Bool). cond b (Some j) (holder js id)) (eqb_differ j.id id (apart zero j refl)) ∙ apart_none js id (λ k i is. apart (suc k) i is)

pub not_held : (running : List Instance) (id low high : ℕ) → Between running id low high → high ≤ low → holder running id ≡ None
not_held running id low high b h =
    apart_none running id (λ k i is. elim (cases_lt k low) [
      | inl before ↦ let g : i.id < id = b.below k i is before in omega arith
      | inr at ↦ let g : id < i.id = b.over k i is (omega arith) in omega arith
    ])

pub held_there : (running : List Instance) (last id middle : ℕ) (i : Instance) → IsRising running last → slice_get running middle ≡ Some i → i.id ≡ id → holder running id ≡ Some i
held_there running last id middle i rise is same = ap (holder running) (sym same) ∙ holder-at 0 running last middle i rise is

past_none : (running : List Instance) (last id : ℕ) (o : Option Instance) → IsRising running last → last < id → holder running id ≡ o → o ≡ None
past_none running last id (Some j) rise h is = let g : id ≤ last = held_within id 0 last running j rise is in absurd (omega arith)
past_none running last id None rise h is = refl

pub past_last : (running : List Instance) (last id : ℕ) → IsRising running last → last < id → holder running id ≡ None
past_last running last id rise h = past_none running last id (holder running id) rise h refl
