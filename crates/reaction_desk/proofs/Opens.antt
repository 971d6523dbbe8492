-- The instances that are not settled, one after another.
use Rattle.std.proofs.Common.{◌≡◌, ℕ, zero, suc, ◌+◌, ◌<◌, ◌≤◌, Bool, true, false, List, [], ◌∷◌, ◌++◌, take, slice_get, Some, None, is_some, true≢false, sym, refl, ap, ◌∙◌, append_assoc, append-nil, unwrap_or, subst, arith}
use Rattle.std.proofs.Common as std
use Rattle.std.specs.Prelude.{if◌then◌else◌, Result, Ok, Err, IfOk}
use Rattle.std.specs.Coded.{Coded-set, coded_list, coded_ℕ}
use Rattle.std.proofs.Math.Logic.{∥∥₁_elim}
use Rattle.reaction_run.specs.Machine.{State}
use Rattle.turn_cell.specs.Lists.{RisesTo}
use Rattle.exec_instance.specs.declared.instance.Instance.{Instance}
use Rattle.exec_instance.specs.Running.{RiseFrom}
use Rattle.reaction_desk.specs.Unsettled.{open_ids, unsettled_ids}

abbrev one : (ℕ → Bool) → Instance → List ℕ
one f x = if f x.id then [] else x.id ∷ []

cons_open : (f : ℕ → Bool) (x : Instance) (xs : List Instance) (b : Bool) → (if b then open_ids f xs else x.id ∷ open_ids f xs) ≡ (if b then [] else x.id ∷ []) ++ open_ids f xs
cons_open f x xs true = refl
cons_open f x xs false = refl

take_step : (f : ℕ → Bool) (xs : List Instance) (n : ℕ) (x : Instance) → slice_get xs n ≡ Some x → open_ids f (take (suc n) xs) ≡ open_ids f (take n xs) ++ one f x
take_step f [] n x e = absurd (true≢false (ap is_some (sym e)))
take_step f (y ∷ xs) zero x e = let h : y ≡ x = ap (λ o. unwrap_or o y) e in cons_open f y [] (f y.id) ∙ append-nil (one f y) ∙ ap (one f) h
take_step f (y ∷ xs) (suc n) x e =
    cons_open f y (take (suc n) xs) (f y.id) ∙ ap (λ (l : List ℕ). one f y ++ l) (take_step f xs n x e) ∙ sym (append_assoc (one f y) (open_ids f (take n xs)) (one f x))
    ∙ ap (λ (l : List ℕ). l ++ one f x) (sym (cons_open f y (take n xs) (f y.id)))

pub open_step : (f : ℕ → Bool) (xs : List Instance) (n : ℕ) (x : Instance) (b : Bool) → slice_get xs n ≡ Some x → f x.id ≡ b → open_ids f (take (n + 1) xs) ≡ open_ids f (take n xs) ++ (if b then [] else x.id ∷ [])
open_step f xs n x b e is = ap (λ k. open_ids f (take k xs)) (std.add-one n) ∙ take_step f xs n x e ∙ ap (λ (c : Bool). open_ids f (take n xs) ++ (if c then [] else x.id ∷ [])) is

pub open_all : (f : ℕ → Bool) (xs : List Instance) (n : ℕ) → slice_get xs n ≡ None → open_ids f (take n xs) ≡ open_ids f xs
open_all f [] zero e = refl
open_all f [] (suc n) e = refl
open_all f (y ∷ xs) zero e = absurd (true≢false (ap is_some e))
open_all f (y ∷ xs) (suc n) e =
    cons_open f y (take n xs) (f y.id) ∙ ap (λ (l : List ℕ). one f y ++ l) (open_all f xs n e) ∙ sym (cons_open f y xs (f y.id))

-- what was told of a state is told of one that is the same
pub ids_by : {Place V N : Type 0} (items : V → List ℕ) (S T : State Place) → ∥ T ≡ S ∥₁ → (out : Result V N) → IfOk out (λ v. items v ≡ unsettled_ids T) → IfOk out (λ v. items v ≡ unsettled_ids S)
ids_by items S T same (Ok v) told = ∥∥₁_elim same (Coded-set (coded_list coded_ℕ) (items v) (unsettled_ids S)) (λ is. told ∙ ap unsettled_ids is)
ids_by items S T same (Err x) told = tt

rises_lower : (low high : ℕ) (ps : List ℕ) (top : ℕ) → low ≤ high → RisesTo high ps top → RisesTo low ps top
rises_lower low high [] top h rises = omega arith
rises_lower low high (p ∷ ps) top h rises = let a = rises.0 in (omega arith, rises.1)

rises_both : (low id last : ℕ) (ids : List ℕ) (b : Bool) → low < id → RisesTo (suc id) ids (suc last) → RisesTo (suc low) (if b then ids else id ∷ ids) (suc last)
rises_both low id last ids true above rest = rises_lower (suc low) (suc id) ids (suc last) (omega arith) rest
rises_both low id last ids false above rest = (omega arith, rest)

-- ids of instances that rise
pub open_rise : (f : ℕ → Bool) (low last : ℕ) (is : List Instance) → RiseFrom low is last → RisesTo (suc low) (open_ids f is) (suc last)
open_rise f low last [] rise = omega arith
open_rise f low last (i ∷ is) rise = rises_both low i.id last (open_ids f is) (f i.id) rise.0 (open_rise f i.id last is rise.1)
