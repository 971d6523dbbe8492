-- Each move keeps the rule of the inbox.
use Rattle.std.proofs.Common.{◌≡◌, ℕ, zero, suc, ◌+◌, ◌-◌, ◌<◌, ◌≤◌, ◌≢◌, Bool, true, false, List, [], ◌∷◌, ◌++◌, length, set}
use Rattle.std.proofs.Common.{sym, refl, ap, ◌∙◌, subst, ⊎_elim, arith, append_assoc, length-append, slice_get}
use Rattle.std.proofs.Common.{Some, is_some, true≢false, ltb, eqb}
use mathlib.Core.Option as m
use mathlib.Core.Logic.{dite}
use native.Mathlib.Decide.{ℕ_discrete, dec_lt}
use Rattle.std.proofs.lemmas.Bool.{eq-eqb, eqb-true}
use lib.ListN.{get_elem?}
use Rattle.atomic_table.proofs.Lists.{at_set}
use Rattle.crossbeam_queue.specs.Fifo.{Pushes, Pops, Learns, Forks, Merges}
use Rattle.turn_cell.specs.Lists.{total}
use Rattle.turn_cell.proofs.Places.{total_set, total_snoc, total_at, total_two, total_some, each_set, each_snoc, ltb_yes, ltb_no}
use Rattle.notify_inbox.specs.declared.view.PassView.{PassView}
use Rattle.notify_inbox.specs.Views.{poster, gathered_away, less_one_part, posted, taken, took_more, with_posts, gathering}
use Rattle.notify_inbox.specs.Rule.{one_if, below, StandTo, EachStands, count_at, takes_of, parts_of, posts_of, times_at}
use Rattle.notify_inbox.specs.Rule.{ViewFits, IsInboxState, Gathers, EndsPosts, FollowsTaken}

-- places below n and the place n are the places below n + 1
eqb_sure : (p n : ℕ) (b : Bool) → eqb p n ≡ b → p ≢ n → b ≡ false
eqb_sure p n true e d = absurd (d (eqb-true p n e))
eqb_sure p n false e d = refl

below_next : (p n : ℕ) → below p (n + 1) ≡ below p n + one_if (eqb p n)
below_next p n = dite (ℕ_discrete p n)
    (λ (e : p ≡ n).
    let a : below p n ≡ 0 = ap one_if (ltb_no p n (omega arith)) in
    let b : below p (n + 1) ≡ 1 = ap one_if (ltb_yes p (n + 1) (omega arith)) in
    let c : one_if (eqb p n) ≡ 1 = ap one_if (eq-eqb p n e) in omega arith)
    (λ (d : p ≢ n).
    let c : one_if (eqb p n) ≡ 0 = ap one_if (eqb_sure p n (eqb p n) refl d) in
    dite (dec_lt p n)
    (λ l. let a : below p n ≡ 1 = ap one_if (ltb_yes p n l) in
    let b : below p (n + 1) ≡ 1 = ap one_if (ltb_yes p (n + 1) (omega arith)) in omega arith)
    (λ l. let a : below p n ≡ 0 = ap one_if (ltb_no p n (omega arith)) in
    let b : below p (n + 1) ≡ 0 = ap one_if (ltb_no p (n + 1) (omega arith)) in omega arith))

pub empty : {B : Type 0} (xs : List B) → length xs ≡ 0 → xs ≡ []
empty [] e = refl
empty (x ∷ xs) e = absurd (omega arith)

below_one : (b : Bool) → one_if b ≤ 1
below_one true = omega arith
below_one false = omega arith

module _ {A : Type 0} where
  get_longer : (xs ys : List A) (p : ℕ) (x : A) → slice_get xs p ≡ Some x → slice_get (xs ++ ys) p ≡ Some x
  get_longer [] ys p x e = absurd (true≢false (ap is_some (sym e)))
  get_longer (y ∷ xs) ys zero x e = e
  get_longer (y ∷ xs) ys (suc p) x e = get_longer xs ys p x e

  get_last : (xs : List A) (x : A) → slice_get (xs ++ x ∷ []) (length xs) ≡ Some x
  get_last [] x = refl
  get_last (y ∷ xs) x = get_last xs x

  stand_longer : (all : List A) (x : A) (low : ℕ) (qs : List (ℕ × A)) → StandTo all low qs → StandTo (all ++ x ∷ []) low qs
  stand_longer all x low [] h = let n : length (all ++ x ∷ []) ≡ length all + 1 = length-append all (x ∷ []) in omega arith
  stand_longer all x low (q ∷ qs) h = (h.0, get_longer all (x ∷ []) q.0 q.1 h.1, stand_longer all x (suc q.0) qs h.2)

  stand_snoc : (all : List A) (x : A) (low : ℕ) (qs : List (ℕ × A)) → StandTo all low qs
      → StandTo (all ++ x ∷ []) low (qs ++ (length all, x) ∷ [])
  stand_snoc all x low [] h =
      let n : length (all ++ x ∷ []) ≡ length all + 1 = length-append all (x ∷ []) in (h, get_last all x, omega arith)
  stand_snoc all x low (q ∷ qs) h = (h.0, get_longer all (x ∷ []) q.0 q.1 h.1, stand_snoc all x (suc q.0) qs h.2)

  each_longer : (all : List A) (x : A) (ls : List (List (ℕ × A))) → EachStands all ls → EachStands (all ++ x ∷ []) ls
  each_longer all x [] h = tt
  each_longer all x (l ∷ ls) h = (stand_longer all x 0 l h.0, each_longer all x ls h.1)

  count_snoc : (p : ℕ) (qs : List (ℕ × A)) (q : ℕ × A) → count_at p (qs ++ q ∷ []) ≡ count_at p qs + one_if (eqb p q.0)
  count_snoc p [] q = omega arith
  count_snoc p (r ∷ qs) q = let h = count_snoc p qs q in omega arith

  total_nothing : (f g : PassView A → ℕ) (vs : List (PassView A))
      → ((j : ℕ) (u : PassView A) → get_elem? vs j ≡ m.some u → g u ≡ 0 → f u ≡ 0) → total g vs ≡ 0 → total f vs ≡ 0
  total_nothing f g [] each none = refl
  total_nothing f g (x ∷ xs) each none =
      let a = each zero x refl (omega arith) in let b = total_nothing f g xs (λ j u e. each (suc j) u e) (omega arith) in omega arith

  -- where one view has all parts, the others add nothing
  total_only : (f g : PassView A → ℕ) (vs : List (PassView A)) (id : ℕ) (v : PassView A)
      → ((j : ℕ) (u : PassView A) → get_elem? vs j ≡ m.some u → g u ≡ 0 → f u ≡ 0) → get_elem? vs id ≡ m.some v → total g vs ≡ g v
      → total f vs ≡ f v
  total_only f g [] id v each at whole = absurd (m.some-ne-none v (sym at))
  total_only f g (x ∷ xs) zero v each at whole =
      let a : f x ≡ f v = ap f (m.some-injective x v at) in let b : g x ≡ g v = ap g (m.some-injective x v at) in
      let rest = total_nothing f g xs (λ j u e. each (suc j) u e) (omega arith) in omega arith
  total_only f g (x ∷ xs) (suc id) v each at whole =
      let b = total_at g xs id v at in let a = each zero x refl (omega arith) in
      let rest = total_only f g xs id v (λ j u e. each (suc j) u e) at (omega arith) in omega arith

  no_times : (p : ℕ) (u : PassView A) → (u.posts ≡ []) × (u.gathered ≡ []) → times_at p u ≡ 0
  no_times p u h =
      let a : count_at p u.posts ≡ 0 = ap (count_at p) h.0 in let b : total (count_at p) u.gathered ≡ 0 = ap (total (count_at p)) h.1 in
      omega arith

  no_posts : (u : PassView A) → (u.posts ≡ []) × (u.gathered ≡ []) → posts_of u ≡ 0
  no_posts u h = let a : length u.posts ≡ 0 = ap length h.0 in let b : total length u.gathered ≡ 0 = ap (total length) h.1 in omega arith

  pub posts : (n id : ℕ) (v : PassView A) (x : A) → n ≤ 4096 → 0 < v.parts
      → Pushes IsInboxState n id v x (λ w. (p : ℕ) × (w ≡ posted v p x))
  posts n id v x cap may items views room r at =
      let all : List A = r.all in let p : ℕ = length all in let w : PassView A = posted v p x in let f = r.each id v at in
      let t1 = total_set takes_of views id v w at in let t2 = total_set parts_of views id v w at in
      let t3 = total_set posts_of views id v w at in
      let r1 = r.taker in let r2 = r.long in let r3 = r.whole in let r4 = r.few in
      let n1 : length (all ++ x ∷ []) ≡ length all + 1 = length-append all (x ∷ []) in
      let n2 : length (v.posts ++ (p, x) ∷ []) ≡ length v.posts + 1 = length-append v.posts ((p, x) ∷ []) in
      let n3 : length (items ++ x ∷ []) ≡ length items + 1 = length-append items (x ∷ []) in (
        w,
        record {
          all = all ++ x ∷ [];
          took = λ i u e k. ⊎_elim
              (λ (h : (i ≡ id) × (w ≡ u)). ap (λ (l : List A). l ++ x ∷ []) (r.took id v at (subst
              (λ (z : PassView A). 0 < z.takes) (sym h.1) k)) ∙ (append_assoc v.took items (x ∷ []) ∙ ap
              (λ (z : PassView A). z.took ++ (items ++ x ∷ [])) h.1))
              (λ (h : (i ≢ id) × (get_elem? views i ≡ m.some u)). ap (λ (l : List A). l ++ x ∷ []) (r.took i u h.1 k)
              ∙ append_assoc u.took items (x ∷ []))
              (at_set views id i w u e);
          taker = omega arith;
          each = each_set (ViewFits (all ++ x ∷ [])) views id w
              record {
                stand = stand_snoc all x 0 v.posts f.stand;
                gathered = each_longer all x v.gathered f.gathered;
                none = λ z. absurd (omega arith);
              }
              (λ j u _ e. record {
                stand = stand_longer all x 0 u.posts (r.each j u e).stand;
                gathered = each_longer all x u.gathered (r.each j u e).gathered;
                none = (r.each j u e).none;
              });
          once = λ q.
              let s = total_set (times_at q) views id v w at in let b = r.once q in let c = count_snoc q v.posts (p, x) in
              let d : below q (length (all ++ x ∷ [])) ≡ below q p + one_if (eqb q p) = ap (below q) n1 ∙ below_next q p in
              omega arith;
          long = omega arith;
          whole = omega arith;
          few = omega arith;
        },
        (p, refl),
      )

  pub takes : (id : ℕ) (v : PassView A) → 0 < v.takes → Pops IsInboxState id v (λ x w. w ≡ taken v x)
  takes id v may x items views r at =
      let all : List A = r.all in let w : PassView A = taken v x in let f = r.each id v at in
      let t1 = total_set takes_of views id v w at in let t2 = total_set parts_of views id v w at in
      let t3 = total_set posts_of views id v w at in
      let r1 = r.taker in let r2 = r.long in let r3 = r.whole in let r4 = r.few in (
        w,
        record {
          all = all;
          took = λ i u e k. ⊎_elim
              (λ (h : (i ≡ id) × (w ≡ u)). r.took id v at may ∙ (sym (append_assoc v.took (x ∷ []) items) ∙ ap
              (λ (z : PassView A). z.took ++ items) h.1))
              (λ (h : (i ≢ id) × (get_elem? views i ≡ m.some u)).
              let two = total_two takes_of views i id u v h.0 h.1 at in absurd (omega arith))
              (at_set views id i w u e);
          taker = omega arith;
          each = each_set (ViewFits all) views id w record { stand = f.stand; gathered = f.gathered; none = f.none }
              (λ j u _ e. r.each j u e);
          once = λ q. let s = total_set (times_at q) views id v w at in let b = r.once q in omega arith;
          long = omega arith;
          whole = omega arith;
          few = omega arith;
        },
        refl,
      )

  pub learns : (id : ℕ) (v : PassView A) → 0 < v.takes → Learns IsInboxState id v (FollowsTaken v)
  learns id v may items views r at =
      let w = r.whole in let l = r.long in
      let g : Gathers r.all v = record {
        fits = r.each id v at;
        once = λ q. let s = total_at (times_at q) views id v at in let b = r.once q in let c = below_one (ltb q (length r.all)) in
            omega arith;
        every =
            λ k q. let s = total_only (times_at q) parts_of views id v (λ j u e z. no_times q u ((r.each j u e).none z)) at (omega arith) in
            sym s ∙ r.once q;
        long = λ k. let s = total_only posts_of parts_of views id v (λ j u e z. no_posts u ((r.each j u e).none z)) at (omega arith) in
            omega arith;
      } in
      record { gathers = subst (λ (l : List A). Gathers l v) (r.took id v at may) g; few = r.few }

  -- a pass that does not take knows that its posts stand in a list that ends with what the queue holds
  pub learns_post : (id : ℕ) (v : PassView A) → Learns IsInboxState id v (EndsPosts v)
  learns_post id v items views r at =
      let one = r.taker in let t = total_some takes_of views (omega arith) in
      record { before = t.1.took; fits = subst (λ (l : List A). ViewFits l v) (r.took t.0 t.1 t.2 t.3) (r.each id v at) }

  pub gives : (id : ℕ) (v : PassView A) → 0 < v.parts → 0 < v.parts - 1 → Forks IsInboxState id v (less_one_part v) poster
  gives id v may more items views r at =
      let w : PassView A = less_one_part v in let g : PassView A = poster in let vs : List (PassView A) = set views id w in
      let f = r.each id v at in
      let t1 = total_set takes_of views id v w at in let t2 = total_set parts_of views id v w at in
      let t3 = total_set posts_of views id v w at in
      let u1 = total_snoc takes_of vs g in let u2 = total_snoc parts_of vs g in let u3 = total_snoc posts_of vs g in
      let r1 = r.taker in let r2 = r.long in let r3 = r.whole in
      let Right : PassView A → Type 0 = λ u. 0 < u.takes → r.all ≡ u.took ++ items in
      record {
        all = r.all;
        took = each_snoc Right vs g (λ k. absurd (omega arith)) (each_set Right views id w (r.took id v at) (λ j u _ e. r.took j u e));
        taker = omega arith;
        each = each_snoc (ViewFits r.all) vs g record { stand = omega arith; gathered = tt; none = λ _. (refl, refl) }
            (each_set (ViewFits r.all) views id w record { stand = f.stand; gathered = f.gathered; none = λ z. absurd (omega arith) }
            (λ j u _ e. r.each j u e));
        once = λ q. let s = total_set (times_at q) views id v w at in let t = total_snoc (times_at q) vs g in let b = r.once q in
            omega arith;
        long = omega arith;
        whole = omega arith;
        few = r.few;
      }

  pub merges : (id : ℕ) (v : PassView A) (other : ℕ) (w : PassView A) → 0 < v.takes → 0 < w.parts → length w.gathered ≡ 0
      → Merges IsInboxState id v other w (with_posts v w) gathered_away
  merges id v other w may part alone items views r at away there =
      let b : PassView A = with_posts v w in let g : PassView A = gathered_away in let vs : List (PassView A) = set views id b in
      let h : get_elem? views other ≡ m.some w =
      ⊎_elim (λ (z : (other ≡ id) × (b ≡ w)). absurd (away z.0))
      (λ (z : (other ≢ id) × (get_elem? views other ≡ m.some w)). z.1) (at_set views id other b w there) in
      let none : w.gathered ≡ [] = empty w.gathered alone in
      let f = r.each id v at in let f2 = r.each other w h in
      let t1 = total_set takes_of views id v b at in let t2 = total_set parts_of views id v b at in
      let t3 = total_set posts_of views id v b at in
      let u1 = total_set takes_of vs other w g there in let u2 = total_set parts_of vs other w g there in
      let u3 = total_set posts_of vs other w g there in
      let r1 = r.taker in let r2 = r.long in let r3 = r.whole in
      let z1 : total length w.gathered ≡ 0 = ap (total length) none in
      let Right : PassView A → Type 0 = λ u. 0 < u.takes → r.all ≡ u.took ++ items in
      record {
        all = r.all;
        took = each_set Right vs other g (λ k. absurd (omega arith)) (λ j u _ e. each_set Right views id b (λ _. r.took id v at may)
            (λ i z _ d. r.took i z d) j u e);
        taker = omega arith;
        each = each_set (ViewFits r.all) vs other g record { stand = omega arith; gathered = tt; none = λ _. (refl, refl) }
            (λ j u _ e. each_set (ViewFits r.all) views id b record {
              stand = f.stand;
              gathered = (f2.stand, f.gathered);
              none = λ z. absurd (omega arith);
            } (λ i z _ d. r.each i z d) j u e);
        once = λ q. let s = total_set (times_at q) views id v b at in let t = total_set (times_at q) vs other w g there in
            let z2 : total (count_at q) w.gathered ≡ 0 = ap (total (count_at q)) none in let o = r.once q in omega arith;
        long = omega arith;
        whole = omega arith;
        few = r.few;
      }

  abbrev made : ℕ → List A → List (ℕ × A) → List (List (ℕ × A)) → ℕ → PassView A
  made takes took posts gathered parts = record { takes = takes; took = took; posts = posts; gathered = gathered; parts = parts }

  pub gathered_step : (v w : PassView A) (ls : List (List (ℕ × A))) → w.takes ≡ 0 → w.parts ≡ 1
      → gathering (with_posts v w) ls ≡ gathering v (ls ++ w.posts ∷ [])
  gathered_step v w ls none one =
      let n : length (ls ++ w.posts ∷ []) ≡ length ls + 1 = length-append ls (w.posts ∷ []) in
      let t : v.takes + w.takes ≡ v.takes = omega arith in
      let c : v.parts + w.parts + length ls ≡ v.parts + length (ls ++ w.posts ∷ []) = omega arith in
      ap (λ (z : ℕ). made z v.took v.posts (ls ++ (w.posts ∷ v.gathered)) (v.parts + w.parts + length ls)) t
      ∙ (ap (λ (z : List (List (ℕ × A))). made v.takes v.took v.posts z (v.parts + w.parts + length ls)) (sym
      (append_assoc ls (w.posts ∷ []) v.gathered))
      ∙ ap (λ (z : ℕ). made v.takes v.took v.posts ((ls ++ w.posts ∷ []) ++ v.gathered) z) c)

  -- where no one else may post, the queue held no more than was taken
  pub ran_out : (v w : PassView A) (items more left : List A) → w ≡ took_more v more → FollowsTaken v items → FollowsTaken w left
      → length more ≡ 4096 → v.parts ≡ 16 → left ≡ []
  ran_out v w items more left is before after n all =
      let a = before.gathers.long all in let b = after.gathers.long (ap (λ (z : PassView A). z.parts) is ∙ all) in
      let c : posts_of w ≡ posts_of v = ap (λ (z : PassView A). posts_of z) is in
      let d : length (w.took) ≡ length v.took + length more = ap (λ (z : PassView A). length z.took) is ∙ length-append v.took more in
      let e = length-append v.took items in let f = length-append w.took left in let g = before.few in
      empty left (omega arith)
