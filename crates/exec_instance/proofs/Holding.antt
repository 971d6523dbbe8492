-- Instances in rising id: where an id stands among them, and what an answer that enters changes.
use Rattle.std.proofs.Common.{inl, inr, ◌≡◌, ◌≢◌, ℕ, zero, suc, ◌<◌, ◌≤◌, Bool, true, false, cond, Option, Some, None, Result, Ok, Err, List, [], ◌∷◌, ◌++◌, length, map, get_or, refl, sym, ◌∙◌, ap, subst, arith}
use Rattle.std.specs.Prelude.{◌==◌, slice_get, slice_set, if◌then◌else◌, MatchOption}
use Rattle.std.specs.Result.{result_ok}
use Rattle.std.specs.Ordering.{nat_cmp, ordering_index}
use Rattle.std.specs.List.{AllWithin}
use Rattle.std.specs.List.Sorted.{IsBinarySearchResult, IsSearchInRange, IsPartitionPoint}
use Rattle.std.specs.declared.cmp.Ordering.TheVariants.{Less, Equal, Greater}
use Rattle.std.proofs.lemmas.Bool.{cases_lt}
use Rattle.std.proofs.lemmas.Bool.Decides.{nat_tests}
use Rattle.std.proofs.lemmas.Option.{slice_get_cases}
use Rattle.hh_base.specs.declared.item.Item.{Item}
use Rattle.exec_instance.specs.declared.answer.Answer.{Answer}
use Rattle.exec_instance.specs.declared.instance.Instance.{Instance}
use Rattle.exec_instance.specs.Running.{Running, holder, RiseFrom, IsRising}
use Rattle.exec_instance.specs.Entering.{item_of, with_item}
use Rattle.exec_instance.specs.Places.{IsHeldAt}

-- a test of two numbers that differ

pub eqb_differ : (a b : ℕ) → a ≢ b → (a == b) ≡ false
eqb_differ a b apart = grind (arith, nat_tests)

pub eqb_same : (a b : ℕ) → a ≡ b → (a == b) ≡ true
eqb_same a b e = grind (arith, nat_tests)

-- what rises from a number rises from a lower one

pub Rise-lower : (low lower : ℕ) (running : List Instance) (last : ℕ) → lower ≤ low → RiseFrom low running last → RiseFrom lower running last
Rise-lower low lower [] last h rise = omega arith
Rise-lower low lower (i ∷ is) last h rise = (omega arith, rise.1)

pub Rise-above : (low : ℕ) (running : List Instance) (last k : ℕ) (i : Instance) → RiseFrom low running last → slice_get running k ≡ Some i → low < i.id
Rise-above low [] last k i rise there = cc
Rise-above low (j ∷ js) last zero i rise there = let e : j ≡ i = cc in subst (λ (x : Instance). low < x.id) e rise.0
Rise-above low (j ∷ js) last (suc k) i rise there = let h : j.id < i.id = Rise-above j.id js last k i rise.1 there in let g : low < j.id = rise.0 in omega arith

pub Rise-below : (low : ℕ) (running : List Instance) (last : ℕ) → RiseFrom low running last → low ≤ last
Rise-below low [] last rise = rise
Rise-below low (i ∷ is) last rise = let h : i.id ≤ last = Rise-below i.id is last rise.1 in let g : low < i.id = rise.0 in omega arith

-- an answer that enters leaves all ids

with_item-if : (b : Bool) (i : Instance) (q : List Item) → (if b then record i { queue = q } else i).id ≡ i.id
with_item-if true i q = refl
with_item-if false i q = refl

pub with_item-id : (a : Answer) (i : Instance) → (with_item a i).id ≡ i.id
with_item-id a i = with_item-if (i.id == a.id) i (i.queue ++ item_of a ∷ [])

pub Rise-with_item : (a : Answer) (low : ℕ) (running : List Instance) (last : ℕ) → RiseFrom low running last → RiseFrom low (map (with_item a) running) last
Rise-with_item a low [] last rise = rise
Rise-with_item a low (i ∷ is) last rise =
    let e : i.id ≡ (with_item a i).id = sym (with_item-id a i) in
    (subst (λ (x : ℕ). low < x) e rise.0, subst (λ (x : ℕ). RiseFrom x (map (with_item a) is) last) e (Rise-with_item a i.id is last rise.1))

-- it changes nothing where no instance has its id, and one instance where one has it

pub with_item-other : (a : Answer) (i : Instance) → i.id ≢ a.id → with_item a i ≡ i
with_item-other a i apart = ap (λ (b : Bool). if b then record i { queue = i.queue ++ item_of a ∷ [] } else i) (eqb_differ i.id a.id apart)

pub with_item-same : (a : Answer) (i : Instance) → i.id ≡ a.id → with_item a i ≡ record i { queue = i.queue ++ item_of a ∷ [] }
with_item-same a i e = ap (λ (b : Bool). if b then record i { queue = i.queue ++ item_of a ∷ [] } else i) (eqb_same i.id a.id e)

both_cons : (i j : Instance) (is js : List Instance) → i ≡ j → is ≡ js → i ∷ is ≡ j ∷ js
both_cons i j is js e f = cc

pub map-with_item-above : (a : Answer) (low : ℕ) (running : List Instance) (last : ℕ) → RiseFrom low running last → a.id ≤ low → map (with_item a) running ≡ running
map-with_item-above a low [] last rise h = refl
map-with_item-above a low (i ∷ is) last rise h =
    let g : low < i.id = rise.0 in
    both_cons _ _ _ _ (with_item-other a i (omega arith)) (map-with_item-above a i.id is last rise.1 (omega arith))

pub map-with_item-at : (a : Answer) (low : ℕ) (running : List Instance) (last k : ℕ) (i : Instance) → RiseFrom low running last → slice_get running k ≡ Some i → i.id ≡ a.id → map (with_item a) running ≡ slice_set running k (record i { queue = i.queue ++ item_of a ∷ [] })
map-with_item-at a low [] last k i rise there same = cc
map-with_item-at a low (j ∷ js) last zero i rise there same =
    let e : j ≡ i = cc in
    let f : i.id ≡ a.id = same in
    let g : j.id ≡ a.id = ap (λ (x : Instance). x.id) e ∙ f in
    both_cons _ _ _ _ (with_item-same a j g ∙ ap (λ (x : Instance). record x { queue = x.queue ++ item_of a ∷ [] }) e) (map-with_item-above a j.id js last rise.1 (omega arith))
map-with_item-at a low (j ∷ js) last (suc k) i rise there same =
    let h : j.id < i.id = Rise-above j.id js last k i rise.1 there in
    both_cons _ _ _ _ (with_item-other a j (omega arith)) (map-with_item-at a j.id js last k i rise.1 there same)

-- the instance that has an id

pub holder-at : (low : ℕ) (running : List Instance) (last k : ℕ) (i : Instance) → RiseFrom low running last → slice_get running k ≡ Some i → holder running i.id ≡ Some i
holder-at low [] last k i rise there = cc
holder-at low (j ∷ js) last zero i rise there =
    let e : j ≡ i = cc in
    ap (λ (b : Bool). cond b (Some j) (holder js i.id)) (eqb_same j.id i.id (ap (λ (x : Instance). x.id) e)) ∙ ap (λ (x : Instance). Some x) e
holder-at low (j ∷ js) last (suc k) i rise there =
    let h : j.id < i.id = Rise-above j.id js last k i rise.1 there in
    ap (λ (b : Bool). cond b (Some j) (holder js i.id)) (eqb_differ j.id i.id (omega arith)) ∙ holder-at j.id js last k i rise.1 there

pub holder-none : (running : List Instance) (id : ℕ) → ((k : ℕ) (d : Instance) → k < length running → (get_or running k d).id ≢ id) → holder running id ≡ None
holder-none [] id apart = refl
holder-none (j ∷ js) id apart =
    ap (λ (b : Bool). cond b (Some j) (holder js id)) (eqb_differ j.id id (apart zero j (omega arith))) ∙ holder-none js id (λ k d h. apart (suc k) d (omega arith))

-- what a binary search by id finds

equal_ids : (a b : ℕ) → nat_cmp a b ≡ Equal → a ≡ b
equal_ids a b e = grind (arith, nat_tests)

cmp_rises : (a b q : ℕ) → a ≤ b → ordering_index (nat_cmp a q) ≤ ordering_index (nat_cmp b q)
cmp_rises a b q h = grind (arith, nat_tests)

less_apart : (a b : ℕ) → nat_cmp a b ≡ Less → a ≢ b
less_apart a b e = grind (arith, nat_tests)

greater_apart : (a b : ℕ) → nat_cmp a b ≡ Greater → a ≢ b
greater_apart a b e = grind (arith, nat_tests)

above_place : (low : ℕ) (running : List Instance) (last j : ℕ) (d : Instance) → RiseFrom low running last → j < length running → low < (get_or running j d).id
above_place low [] last j d rise h = absurd (omega arith)
above_place low (i ∷ is) last zero d rise h = rise.0
above_place low (i ∷ is) last (suc j) d rise h = let g : i.id < (get_or is j d).id = above_place i.id is last j d rise.1 (omega arith) in let f : low < i.id = rise.0 in omega arith

ids_rise : (low : ℕ) (running : List Instance) (last i j : ℕ) (d : Instance) → RiseFrom low running last → i ≤ j → j < length running → (get_or running i d).id ≤ (get_or running j d).id
ids_rise low [] last i j d rise h g = absurd (omega arith)
ids_rise low (x ∷ xs) last zero zero d rise h g = omega arith
ids_rise low (x ∷ xs) last zero (suc j) d rise h g = let f : x.id < (get_or xs j d).id = above_place x.id xs last j d rise.1 (omega arith) in omega arith
ids_rise low (x ∷ xs) last (suc i) zero d rise h g = absurd (omega arith)
ids_rise low (x ∷ xs) last (suc i) (suc j) d rise h g = ids_rise x.id xs last i j d rise.1 (omega arith) (omega arith)

held_at_equal : (running : List Instance) (id k : ℕ) → k < length running → ((d : Instance) → nat_cmp (get_or running k d).id id ≡ Equal) → IsHeldAt running id k
held_at_equal running id k h equal =
    elim (slice_get_cases running k).1 [
      | inl found ↦ record { held = found.0; there = found.2; same = sym (ap (λ (x : Instance). x.id) found.3) ∙ equal_ids _ _ (equal found.0) }
      | inr past ↦ absurd (let g : length running ≤ k = past.0 in omega arith)
    ]

apart_at : (running : List Instance) (id place : ℕ) → AllWithin (λ y. nat_cmp y.id id ≡ Less) running 0 place → AllWithin (λ y. nat_cmp y.id id ≡ Greater) running place (length running) → (k : ℕ) (d : Instance) → k < length running → (get_or running k d).id ≢ id
apart_at running id place less greater k d h =
    elim (cases_lt k place) [
      | inl below ↦ less_apart _ _ (less k d (omega arith) below)
      | inr above ↦ greater_apart _ _ (greater k d above h)
    ]

pub found_by_search : (running : List Instance) (last id : ℕ) (r : Result ℕ ℕ) → IsRising running last → IsSearchInRange r (length running) → IsBinarySearchResult (λ y. nat_cmp y.id id) running r → MatchOption (result_ok r) (holder running id ≡ None) (IsHeldAt running id)
found_by_search running last id (Ok k) rise bound found = held_at_equal running id k bound found
found_by_search running last id (Err k) rise bound found =
    let parted : IsPartitionPoint (λ y. nat_cmp y.id id ≡ Less) (λ y. nat_cmp y.id id ≡ Greater) running k =
    found (λ i j d h g. cmp_rises _ _ id (ids_rise 0 running last i j d rise h g)) in
    holder-none running id (apart_at running id k parted.0 parted.1)

pub found_place : (now : Running) (last id : ℕ) (items seen : List Instance) (r : Result ℕ ℕ) (found : Option ℕ) → record { last = last; instances = items } ≡ now → IsRising items last → seen ≡ items → found ≡ result_ok r → IsSearchInRange r (length seen) → IsBinarySearchResult (λ y. nat_cmp y.id id) seen r → MatchOption found (holder now.instances id ≡ None) (IsHeldAt now.instances id)
found_place now last id items seen r found view rise same is bound searched =
    let here : MatchOption (result_ok r) (holder items id ≡ None) (IsHeldAt items id) =
    found_by_search items last id r rise (subst (λ (xs : List Instance). IsSearchInRange r (length xs)) same bound) (subst (λ (xs : List Instance). IsBinarySearchResult (λ y. nat_cmp y.id id) xs r) same searched) in
    subst (λ (w : Running). MatchOption found (holder w.instances id ≡ None) (IsHeldAt w.instances id)) view
    (subst (λ (o : Option ℕ). MatchOption o (holder items id ≡ None) (IsHeldAt items id)) (sym is) here)
