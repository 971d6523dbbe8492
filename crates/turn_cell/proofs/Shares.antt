-- The first table meets the rule, and so does a seat cut in two, and two seats made one. What a seat with all turns knows at the end.
use Rattle.std.proofs.Common.{◌≡◌, ℕ, zero, suc, ◌+◌, ◌^◌, ◌≤◌, ◌≢◌, ◌⊎◌, List, [], ◌∷◌, ◌++◌, length, set, sym, refl, ap, ◌∙◌, subst}
use Rattle.std.proofs.Common.{inl, inr, ⊎_elim, arith, Option, Some, None, div-le_self}
use mathlib.Core.Option as m
use lib.ListN.{get_elem?}
use Rattle.atomic_table.specs.Table.{State, Me, Splits, Joins, opening, Final, Seen}
use Rattle.atomic_table.proofs.Lists.{at_set, set_else}
use Rattle.turn_cell.specs.declared.view.SeatView.{SeatView}
use Rattle.turn_cell.specs.declared.view.Stage.{Stage}
use Rattle.turn_cell.specs.declared.view.Stage.TheVariants.{Outside, Waiting, InTurn}
use Rattle.turn_cell.specs.Lists.{Begins, total, merge, longer}
use Rattle.turn_cell.specs.Views.{first_view, joined_away, kept_half, given_half, noted_both}
use Rattle.turn_cell.specs.Rule.{tickets_at, turns_at, tickets_of, turns_of, places_of, spent_of, allowance_of}
use Rattle.turn_cell.specs.Rule.{ViewFits, Differ, TicketOf, PlaceOf, IsHome, IsOut, Lies, IsTurnState}
use Rattle.turn_cell.specs.Steps.{startless, unrest, IsAtRest}
use Rattle.turn_cell.specs.Calls.{EndsWith}
use Rattle.turn_cell.proofs.Places.{begins_length, total_set, total_snoc, total_at, each_set, each_snoc, rises_wide}
use Rattle.turn_cell.proofs.Merged.{length_merge, among_merge, merge_rises, longer_long, longer_begins, rises_all}
use Rattle.turn_cell.proofs.Keeps.{differ_set, differ_snoc}

total_below : {A : Type 0} (f g : A → ℕ) (vs : List A) → ((v : A) → f v ≤ g v) → total f vs ≤ total g vs
total_below f g [] h = omega arith
total_below f g (x ∷ xs) h = let a = h x in let b = total_below f g xs h in omega arith

total_each : {A : Type 0} (f g : A → ℕ) (vs : List A) → ((j : ℕ) (u : A) → get_elem? vs j ≡ m.some u → f u ≤ g u) → total f vs ≤ total g vs
total_each f g [] h = omega arith
total_each f g (x ∷ xs) h = let a = h 0 x refl in let b = total_each f g xs (λ j u e. h (suc j) u e) in omega arith

total_rest : {A : Type 0} (f g : A → ℕ) (vs : List A) (i : ℕ) (v : A) → get_elem? vs i ≡ m.some v
    → ((j : ℕ) (u : A) → get_elem? vs j ≡ m.some u → f u ≤ g u) → total f vs + g v ≤ total g vs + f v
total_rest f g [] i v e h = absurd (m.some-ne-none v (sym e))
total_rest f g (x ∷ xs) zero v e h =
    let a : f x ≡ f v = ap f (m.some-injective x v e) in let b : g x ≡ g v = ap g (m.some-injective x v e) in
    let c = total_each f g xs (λ j u k. h (suc j) u k) in omega arith
total_rest f g (x ∷ xs) (suc i) v e h = let a = h 0 x refl in let b = total_rest f g xs i v e (λ j u k. h (suc j) u k) in omega arith

turns_tickets : {E : Type 0} (st : Stage E) → turns_at st ≤ tickets_at st
turns_tickets Outside = omega arith
turns_tickets (Waiting t) = omega arith
turns_tickets (InTurn t l) = omega arith

starts_there : {B : Type 0} (o : Option B) (start first : B) → (o ≡ Some start) ⊎ (o ≡ None) → startless o ≡ 0
    → start ≡ first → o ≡ Some first
starts_there o start first h some same =
    ⊎_elim (λ e. e ∙ ap (λ b. Some b) same) (λ e. let z : startless o ≡ 1 = ap startless e in absurd (omega arith)) h

module _ {E B : Type 0} where
  -- what two seats have, one of them has after they were made one
  owner : (Has : SeatView E B → ℕ → Type 0) (vs : List (SeatView E B)) (id other : ℕ) (v w b g : SeatView E B)
      → ((t : ℕ) → Has b t → Has v t ⊎ Has w t) → ((t : ℕ) → ¬ (Has g t))
      → (k : ℕ) (u : SeatView E B) (t : ℕ) → get_elem? (set (set vs id b) other g) k ≡ m.some u → Has u t
      → ((k ≡ id) × (Has v t ⊎ Has w t)) ⊎ ((k ≢ id) × (k ≢ other) × (get_elem? vs k ≡ m.some u))
  owner Has vs id other v w b g both none k u t e h = ⊎_elim
      (λ (p : (k ≡ other) × (g ≡ u)). absurd (none t (subst (λ z. Has z t) (sym p.1) h)))
      (λ (p : (k ≢ other) × (get_elem? (set vs id b) k ≡ m.some u)). ⊎_elim
      (λ (q : (k ≡ id) × (b ≡ u)). inl (q.0, both t (subst (λ z. Has z t) (sym q.1) h)))
      (λ (q : (k ≢ id) × (get_elem? vs k ≡ m.some u)). inr (q.0, p.0, q.1))
      (at_set vs id k b u p.1))
      (at_set (set vs id b) other k g u e)

  differ_join : (Has : SeatView E B → ℕ → Type 0) (vs : List (SeatView E B)) (id other : ℕ) (v w b g : SeatView E B)
      → get_elem? vs id ≡ m.some v → get_elem? vs other ≡ m.some w → Differ Has vs
      → ((t : ℕ) → Has b t → Has v t ⊎ Has w t) → ((t : ℕ) → ¬ (Has g t)) → Differ Has (set (set vs id b) other g)
  differ_join Has vs id other v w b g at there apart both none i j x y t ei ej hx hy =
      let far : (k : ℕ) (u : SeatView E B) → (Has v t ⊎ Has w t) → k ≢ id → k ≢ other → get_elem? vs k ≡ m.some u → Has u t → id ≡ k
      = λ k u o n p e h. ⊎_elim (λ hv. apart id k v u t at e hv h) (λ hw. absurd (p (apart k other u w t e there h hw))) o in
      ⊎_elim
      (λ (p : (i ≡ id) × (Has v t ⊎ Has w t)). ⊎_elim
      (λ (q : (j ≡ id) × (Has v t ⊎ Has w t)). p.0 ∙ sym q.0)
      (λ (q : (j ≢ id) × (j ≢ other) × (get_elem? vs j ≡ m.some y)). p.0 ∙ far j y p.1 q.0 q.1 q.2 hy)
      (owner Has vs id other v w b g both none j y t ej hy))
      (λ (p : (i ≢ id) × (i ≢ other) × (get_elem? vs i ≡ m.some x)). ⊎_elim
      (λ (q : (j ≡ id) × (Has v t ⊎ Has w t)). sym (far i x q.1 p.0 p.1 p.2 hx) ∙ sym q.0)
      (λ (q : (j ≢ id) × (j ≢ other) × (get_elem? vs j ≡ m.some y)). apart i j x y t p.2 q.2 hx hy)
      (owner Has vs id other v w b g both none j y t ej hy))
      (owner Has vs id other v w b g both none i x t ei hx)

  only : (v : SeatView E B) (k : ℕ) (u : SeatView E B) → get_elem? (v ∷ []) k ≡ m.some u → (k ≡ 0) × (v ≡ u)
  only v zero u e = (refl, m.some-injective v u e)
  only v (suc k) u e = absurd (m.some-ne-none u (sym e))

  module _ {T : Type 0} (story : T → List E) (begins : T → B) where
    pub opens : (x : T) → story x ≡ [] → IsTurnState story begins (begins x) (opening (0 ∷ 0 ∷ []) (Some x ∷ []) (first_view (begins x)))
    opens x e = let n : SeatView E B = first_view (begins x) in record {
      serving = 0;
      ticket = 0;
      current = [];
      words = refl;
      home = inl record { value = x; lies = refl; stands = e; starts = refl; none = refl };
      each = λ i v at. subst (ViewFits (begins x) 0 0 []) (only n i v at).1
          record { starts = inl refl; seen = ([], refl); mine = omega arith; fewer = omega arith; stands = tt; note = tt };
      tickets = λ i j v w t ei ej hv hw. (only n i v ei).0 ∙ sym (only n j w ej).0;
      places = λ i j v w t ei ej hv hw. (only n i v ei).0 ∙ sym (only n j w ej).0;
      drawn = refl;
      long = refl;
      served = refl;
      whole = refl;
    }

    module _ (start : B) where
      abbrev Rule : State (Option T) (SeatView E B) → Type 0
      Rule = IsTurnState story begins start

      pub splits : (id : ℕ) (v : SeatView E B) → Splits Rule id v (kept_half v) (given_half v)
      splits id v s r at =
          let l : SeatView E B = kept_half v in let g : SeatView E B = given_half v in let vs : List (SeatView E B) = set s.views id l in
          let f = r.each id v at in
          let half = div-le_self v.allowance 2 in
          let o1 = total_set tickets_of s.views id v l at in let o2 = total_snoc tickets_of vs g in
          let i1 = total_set turns_of s.views id v l at in let i2 = total_snoc turns_of vs g in
          let p1 = total_set places_of s.views id v l at in let p2 = total_snoc places_of vs g in
          let s1 = total_set spent_of s.views id v l at in let s2 = total_snoc spent_of vs g in
          let a1 = total_set allowance_of s.views id v l at in let a2 = total_snoc allowance_of vs g in
          let r1 = r.drawn in let r2 = r.long in let r3 = r.served in let r4 = r.whole in
          let same : total turns_of (vs ++ g ∷ []) ≡ total turns_of s.views = omega arith in
          record {
            serving = r.serving;
            ticket = r.ticket;
            current = r.current;
            words = r.words;
            home = subst (Lies story begins start r.current s.homes) (sym same) r.home;
            each = each_snoc (ViewFits start r.serving r.ticket r.current) vs g
                record { starts = f.starts; seen = f.seen; mine = omega arith; fewer = omega arith; stands = tt; note = tt }
                (each_set (ViewFits start r.serving r.ticket r.current) s.views id l
                record { starts = f.starts; seen = f.seen; mine = f.mine; fewer = f.fewer; stands = f.stands; note = f.note }
                (λ j u n e. r.each j u e));
            tickets = differ_snoc TicketOf vs g (differ_set TicketOf s.views id v l at r.tickets (λ t k. inl k)) (λ t k. k);
            places = differ_snoc PlaceOf vs g (differ_set PlaceOf s.views id v l at r.places (λ t k. inl k)) (λ t k. k);
            drawn = omega arith;
            long = omega arith;
            served = omega arith;
            whole = omega arith;
          }

      pub joins : (id : ℕ) (v : SeatView E B) (other : ℕ) (w : SeatView E B) → w.stage ≡ Outside
          → Joins Rule id v other w (noted_both v w) joined_away
      joins id v other w out s r at away there0 =
          let b : SeatView E B = noted_both v w in let g : SeatView E B = joined_away in let vs : List (SeatView E B) = set s.views id b in
          let there : get_elem? s.views other ≡ m.some w = sym (set_else s.views id other b away) ∙ there0 in
          let f = r.each id v at in let h = r.each other w there in
          let fm = f.fewer in let hm = h.fewer in
          let lens = length_merge v.mine w.mine in let long = longer_long v.seen w.seen in let lv = long.0 in let lw = long.1 in
          let few : length (merge v.mine w.mine) ≤ v.spent + w.spent = omega arith in
          let none : tickets_of w ≡ 0 = ap tickets_at out in let none2 : turns_of w ≡ 0 = ap turns_at out in
          let o1 = total_set tickets_of s.views id v b at in let o2 = total_set tickets_of vs other w g there0 in
          let i1 = total_set turns_of s.views id v b at in let i2 = total_set turns_of vs other w g there0 in
          let p1 = total_set places_of s.views id v b at in let p2 = total_set places_of vs other w g there0 in
          let s1 = total_set spent_of s.views id v b at in let s2 = total_set spent_of vs other w g there0 in
          let a1 = total_set allowance_of s.views id v b at in let a2 = total_set allowance_of vs other w g there0 in
          let r1 = r.drawn in let r2 = r.long in let r3 = r.served in let r4 = r.whole in
          let same : total turns_of (set vs other g) ≡ total turns_of s.views = omega arith in
          let placed : total places_of (set vs other g) ≡ length r.current = omega arith in
          record {
            serving = r.serving;
            ticket = r.ticket;
            current = r.current;
            words = r.words;
            home = subst (Lies story begins start r.current s.homes) (sym same) r.home;
            each = each_set (ViewFits start r.serving r.ticket r.current) vs other g
                record { starts = inr refl; seen = (r.current, refl); mine = omega arith; fewer = omega arith; stands = tt; note = tt }
                (λ j u _ e. each_set (ViewFits start r.serving r.ticket r.current) s.views id b
                record {
                  starts = f.starts;
                  seen = longer_begins v.seen w.seen r.current f.seen h.seen;
                  mine = merge_rises 0 v.mine w.mine (length (longer v.seen w.seen))
                      (rises_wide 0 v.mine (length v.seen) (length (longer v.seen w.seen)) f.mine lv)
                      (rises_wide 0 w.mine (length w.seen) (length (longer v.seen w.seen)) h.mine lw)
                      (λ p x y. away (sym (r.places id other v w p at there x y)));
                  fewer = few;
                  stands = f.stands;
                  note = (f.seen, lv, (h.seen, lw, tt));
                }
                (λ k z _ q. r.each k z q) j u e);
            tickets = differ_join TicketOf s.views id other v w b g at there r.tickets (λ t k. inl k) (λ t k. k);
            places = differ_join PlaceOf s.views id other v w b g at there r.places (λ t k. among_merge t v.mine w.mine k) (λ t k. k);
            drawn = omega arith;
            long = placed;
            served = omega arith;
            whole = omega arith;
          }

      -- a seat with all turns, at the end
      closes : (id : ℕ) (v : SeatView E B) (s : State (Option T) (SeatView E B)) → Rule s → get_elem? s.views id ≡ m.some v
          → v.allowance + v.spent ≡ 2 ^ 63 → startless v.start ≡ 0
          → (x : T) × (s.homes ≡ m.some (Some x) ∷ []) × EndsWith v (begins x) (story x)
      closes id v s r at all has =
          let f = r.each id v at in
          let r1 = r.drawn in let r2 = r.long in let r3 = r.served in let r4 = r.whole in
          let a1 = total_at allowance_of s.views id v at in let a2 = total_at spent_of s.views id v at in
          let still = total_below turns_of tickets_of s.views (λ u. turns_tickets u.stage) in
          let rest = total_rest places_of spent_of s.views id v at (λ j u e. (r.each j u e).fewer) in
          let p1 = total_at places_of s.views id v at in
          let fewer = f.fewer in
          ⊎_elim
          (λ (h : IsHome story begins start r.current s.homes (total turns_of s.views)).
          let long : length (story h.value) ≡ length r.current = ap length h.stands in
          let seen = begins_length v.seen r.current f.seen in
          let rises = rises_wide 0 v.mine (length v.seen) (length (story h.value)) f.mine (omega arith) in
          let full : length v.mine + 0 ≡ length (story h.value) = omega arith in (
            h.value,
            h.lies,
            record {
              all = all;
              start = starts_there v.start start (begins h.value) f.starts has (sym h.starts);
              seen = subst (Begins v.seen) (sym h.stands) f.seen;
              mine = rises;
              every = λ p l. rises_all 0 v.mine (length (story h.value)) rises full p (omega arith) l;
              turns = omega arith;
            },
          ))
          (λ (h : IsOut s.homes (total turns_of s.views)). let one = h.one in absurd (omega arith))
          r.home

      -- what `close` finds
      pub at_close : (id : ℕ) (v : SeatView E B) (ws : List ℕ) (xs : List (Option T)) (slot : Option T)
          → Final (Seen Rule id v) ws xs → v.allowance + v.spent ≡ 2 ^ 63 → startless v.start ≡ 0 → get_elem? xs 0 ≡ m.some slot
          → (x : T) × (slot ≡ Some x) × EndsWith v (begins x) (story x)
      at_close id v ws xs slot final all has is =
          let s = final.0 in let h = closes id v s final.1.0 final.1.1 all has in
          let found : get_elem? xs 0 ≡ m.some (Some h.0) =
          final.4 0 (Some h.0) (ap (λ (l : List (m.Option (Option T))). get_elem? l 0) h.1) in
          (h.0, m.some-injective slot (Some h.0) (sym is ∙ found), h.2)

stage_out : {E : Type 0} (st : Stage E) → tickets_at st ≡ 0 → st ≡ Outside
stage_out Outside e = refl
stage_out (Waiting t) e = absurd (omega arith)
stage_out (InTurn t l) e = absurd (omega arith)

nothing : {A : Type 0} (xs : List A) → length xs ≡ 0 → xs ≡ []
nothing [] e = refl
nothing (x ∷ xs) e = absurd (omega arith)

started : {B : Type 0} (o : Option B) → startless o ≡ 0 → (b : B) × (o ≡ Some b)
started (Some b) e = (b, refl)
started None e = absurd (omega arith)

module _ {E B T : Type 0} where
  pub at_rest : (me : Me (Option T) (SeatView E B)) → unrest me ≡ 0 → IsAtRest me
  at_rest me e =
      let s = started me.0.start (omega arith) in
      record {
        held = nothing me.1 (omega arith);
        stage = stage_out me.0.stage (omega arith);
        note = nothing me.0.note (omega arith);
        first = s.0;
        start = s.1;
      }

  pub no_unrest : (me : Me (Option T) (SeatView E B)) → IsAtRest me → unrest me ≡ 0
  no_unrest me r =
      let a : length me.1 ≡ 0 = ap length r.held in
      let b : tickets_at me.0.stage ≡ 0 = ap tickets_at r.stage in
      let c : length me.0.note ≡ 0 = ap length r.note in
      let d : startless me.0.start ≡ 0 = ap startless r.start in
      omega arith
