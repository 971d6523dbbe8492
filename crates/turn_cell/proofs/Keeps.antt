-- Each step keeps the rule of the turns.
use Rattle.std.proofs.Common.{◌≡◌, ℕ, ◌+◌, ◌%◌, ◌^◌, ◌<◌, ◌≤◌, ◌≢◌, ◌⊎◌, List, [], ◌∷◌, ◌++◌, length, get_or, set, sym, refl, ap, ◌∙◌}
use Rattle.std.proofs.Common.{subst, inl, inr, ⊎_elim, arith, append-nil, length-append, Option, Some, None, mod-eq_of_lt, unwrap_or}
use Rattle.std.proofs.Common.{is_some, true≢false}
use mathlib.Core.Option as m
use mathlib.Core.Logic.{dite}
use native.Mathlib.Decide.{ℕ_discrete}
use lib.ListN.{get_elem?}
use lib.Seq.{set-get_or}
use Rattle.atomic_table.specs.Table.{State, Me, step, keeps, takes, gives, Allows}
use Rattle.atomic_table.proofs.Lists.{at_set, at_snoc, set_again}
use Rattle.turn_cell.specs.declared.view.SeatView.{SeatView}
use Rattle.turn_cell.specs.declared.view.Stage.{Stage}
use Rattle.turn_cell.specs.declared.view.Stage.TheVariants.{Outside, Waiting, InTurn}
use Rattle.turn_cell.specs.Lists.{Begins, GrowsByOneAtMost, RisesTo, Among, total}
use Rattle.turn_cell.specs.Views.{gained, with_ticket, in_turn, after_turn, without_note}
use Rattle.turn_cell.specs.Rule.{tickets_at, turns_at, HasTicket, StageFits, NoteFits, IsHome, IsOut}
use Rattle.turn_cell.specs.Rule.{tickets_of, turns_of, places_of, spent_of, allowance_of}
use Rattle.turn_cell.specs.Rule.{ViewFits, Differ, TicketOf, PlaceOf, Lies, IsTurnState}
use Rattle.turn_cell.specs.Steps.{DrawsTicket, LooksForTurn, MayLeave, LeavesTurn, ClearsNote}
use Rattle.turn_cell.proofs.Places.{begins_itself, begins_trans, begins_length, total_set, total_at, each_set, rises_wide, rises_snoc}
use Rattle.turn_cell.proofs.Places.{rises_below, among_snoc, total_some, gained_none, gained_one, gained_most, common}

module _ {E : Type 0} where
  later : (sv tk : ℕ) (c : List E) (st : Stage E) → StageFits sv tk c st → StageFits sv (tk + 1) c st
  later sv tk c Outside h = tt
  later sv tk c (Waiting t) h = let a = h.1 in (h.0, omega arith)
  later sv tk c (InTurn t l) h = let a = h.1 in (h.0, omega arith, h.2)

  ticket_below : (sv tk : ℕ) (c : List E) (st : Stage E) (t : ℕ) → StageFits sv tk c st → HasTicket st t → t < tk
  ticket_below sv tk c Outside t h k = absurd k
  ticket_below sv tk c (Waiting a) t h k = let b = h.1 in omega arith
  ticket_below sv tk c (InTurn a l) t h k = let b = h.1 in omega arith

  noted_on : (c d : List E) (n k : ℕ) (ls : List (List E)) → Begins c d → n ≤ k → NoteFits c n ls → NoteFits d k ls
  noted_on c d n k [] b l h = tt
  noted_on c d n k (x ∷ xs) b l h = let a = h.1 in (begins_trans x c d h.0 b, omega arith, noted_on c d n k xs b l h.2)

  later_served : (sv tk : ℕ) (c d : List E) (st : Stage E) → ¬ (HasTicket st sv) → StageFits sv tk c st → StageFits (sv + 1) tk d st
  later_served sv tk c d Outside away h = tt
  later_served sv tk c d (Waiting t) away h = let a = h.0 in dite (ℕ_discrete t sv) (λ e. absurd (away e)) (λ n. (omega arith, h.1))
  later_served sv tk c d (InTurn t l) away h = absurd (away h.0)

  inside_ticket : (sv tk : ℕ) (c : List E) (st : Stage E) → StageFits sv tk c st → 0 < turns_at st → HasTicket st sv
  inside_ticket sv tk c Outside h l = absurd (omega arith)
  inside_ticket sv tk c (Waiting t) h l = absurd (omega arith)
  inside_ticket sv tk c (InTurn t k) h l = h.0

  begins_grown : (l d : List E) → GrowsByOneAtMost l d → Begins l d
  begins_grown l d g = ⊎_elim (λ e. ([], e ∙ sym (append-nil l))) (λ (t : (e : E) × (d ≡ l ++ e ∷ [])). (t.0 ∷ [], t.1)) g

  -- what the turn gives: the places of the seat after it
  rises_gained : (ps : List ℕ) (l d : List E) → GrowsByOneAtMost l d → RisesTo 0 ps (length l) → RisesTo 0 (ps ++ gained l d) (length d)
  rises_gained ps l d g r = ⊎_elim
      (λ e. subst (λ (z : List E). RisesTo 0 (ps ++ gained l z) (length z)) (sym e)
      (subst (λ (q : List ℕ). RisesTo 0 q (length l)) (sym (append-nil ps) ∙ ap (λ (q : List ℕ). ps ++ q) (sym (gained_none l))) r))
      (λ (t : (e : E) × (d ≡ l ++ e ∷ [])). subst (λ (z : List E). RisesTo 0 (ps ++ gained l z) (length z)) (sym t.1)
      (subst (λ (q : List ℕ). RisesTo 0 (ps ++ q) (length (l ++ t.0 ∷ []))) (sym (gained_one l t.0))
      (subst (λ (n : ℕ). RisesTo 0 (ps ++ length l ∷ []) n) (sym (length-append l (t.0 ∷ []))) (rises_snoc 0 ps (length l) r))))
      g

  length_gained : (l d : List E) → GrowsByOneAtMost l d → length d ≡ length l + length (gained l d)
  length_gained l d g = ⊎_elim
      (λ e. let a : length d ≡ length l = ap length e in
      let b : length (gained l d) ≡ 0 = ap (λ (z : List E). length (gained l z)) e ∙ ap length (gained_none l) in omega arith)
      (λ (t : (e : E) × (d ≡ l ++ e ∷ [])). let a : length d ≡ length l + 1 = ap length t.1 ∙ length-append l (t.0 ∷ []) in
      let b : length (gained l d) ≡ 1 = ap (λ (z : List E). length (gained l z)) t.1 ∙ ap length (gained_one l t.0) in omega arith)
      g

  among_gained : (ps : List ℕ) (l d : List E) (p : ℕ) → GrowsByOneAtMost l d → Among p (ps ++ gained l d) → Among p ps ⊎ (p ≡ length l)
  among_gained ps l d p g a = ⊎_elim
      (λ e. inl
      (subst (Among p) ((ap (λ (z : List E). ps ++ gained l z) e ∙ ap (λ (q : List ℕ). ps ++ q) (gained_none l)) ∙ append-nil ps) a))
      (λ (t : (e : E) × (d ≡ l ++ e ∷ [])). among_snoc ps (length l) p
      (subst (Among p) (ap (λ (z : List E). ps ++ gained l z) t.1 ∙ ap (λ (q : List ℕ). ps ++ q) (gained_one l t.0)) a))
      g

  noted_shorter : (xs c : List E) (n : ℕ) (ls : List (List E)) → Begins xs c → n ≤ length xs → NoteFits c n ls → NoteFits xs n ls
  noted_shorter xs c n [] b l h = tt
  noted_shorter xs c n (y ∷ ys) b l h =
      let a = h.1 in (common y xs h.0.0 b.0 (sym h.0.1 ∙ b.1) (omega arith), h.1, noted_shorter xs c n ys b l h.2)

  abbrev wait_of : Stage E → ℕ
  wait_of Outside = 0
  wait_of (Waiting t) = t
  wait_of (InTurn t l) = t

  abbrev list_of : Stage E → List E
  list_of Outside = []
  list_of (Waiting t) = []
  list_of (InTurn t l) = l

pub same_start : {B : Type 0} (o : Option B) (start c : B) → (o ≡ Some start) ⊎ (o ≡ None) → o ≡ Some c → start ≡ c
same_start o start c h e = ⊎_elim (λ a. ap (λ p. unwrap_or p c) (sym a ∙ e)) (λ a. absurd (true≢false (ap is_some (sym e ∙ a)))) h

abbrev slot_of : {T : Type 0} → T → List (ℕ × Option T) → T
slot_of d [] = d
slot_of d (x ∷ xs) = unwrap_or x.1 d

module _ {E B : Type 0} where
  pub differ_set : (Has : SeatView E B → ℕ → Type 0) (vs : List (SeatView E B)) (id : ℕ) (v w : SeatView E B)
      → get_elem? vs id ≡ m.some v → Differ Has vs
      → ((t : ℕ) → Has w t → Has v t ⊎ ((j : ℕ) (u : SeatView E B) → j ≢ id → get_elem? vs j ≡ m.some u → ¬ (Has u t)))
      → Differ Has (set vs id w)
  differ_set Has vs id v w at apart new i j a b t ei ej ha hb =
      let other : (k : ℕ) (u : SeatView E B) → k ≢ id → get_elem? vs k ≡ m.some u → Has u t → Has w t → id ≡ k
      = λ k u n e hu hw. ⊎_elim (λ hv. apart id k v u t at e hv hu) (λ no. absurd (no k u n e hu)) (new t hw) in
      ⊎_elim
      (λ (p : (i ≡ id) × (w ≡ a)). ⊎_elim
      (λ (q : (j ≡ id) × (w ≡ b)). p.0 ∙ sym q.0)
      (λ (q : (j ≢ id) × (get_elem? vs j ≡ m.some b)). p.0 ∙ other j b q.0 q.1 hb (subst (λ (z : SeatView E B). Has z t) (sym p.1) ha))
      (at_set vs id j w b ej))
      (λ (p : (i ≢ id) × (get_elem? vs i ≡ m.some a)). ⊎_elim
      (λ (q : (j ≡ id) × (w ≡ b)). sym (q.0 ∙ other i a p.0 p.1 ha (subst (λ (z : SeatView E B). Has z t) (sym q.1) hb)))
      (λ (q : (j ≢ id) × (get_elem? vs j ≡ m.some b)). apart i j a b t p.1 q.1 ha hb)
      (at_set vs id j w b ej))
      (at_set vs id i w a ei)

  pub differ_snoc : (Has : SeatView E B → ℕ → Type 0) (vs : List (SeatView E B)) (w : SeatView E B) → Differ Has vs
      → ((t : ℕ) → ¬ (Has w t)) → Differ Has (vs ++ w ∷ [])
  differ_snoc Has vs w apart none i j a b t ei ej ha hb =
      ⊎_elim
      (λ (p : get_elem? vs i ≡ m.some a). ⊎_elim
      (λ (q : get_elem? vs j ≡ m.some b). apart i j a b t p q ha hb)
      (λ (q : w ≡ b). absurd (none t (subst (λ (z : SeatView E B). Has z t) (sym q) hb)))
      (at_snoc vs w b j ej))
      (λ (p : w ≡ a). absurd (none t (subst (λ (z : SeatView E B). Has z t) (sym p) ha)))
      (at_snoc vs w a i ei)

  fits_on : (start : B) (sv tk sv' tk' : ℕ) (c d : List E) (u : SeatView E B) → Begins c d
      → (StageFits sv tk c u.stage → StageFits sv' tk' d u.stage) → ViewFits start sv tk c u → ViewFits start sv' tk' d u
  fits_on start sv tk sv' tk' c d u b go f = record {
    starts = f.starts;
    seen = begins_trans u.seen c d f.seen b;
    mine = f.mine;
    fewer = f.fewer;
    stands = go f.stands;
    note = noted_on c d (length u.seen) (length u.seen) u.note b (omega arith) f.note;
  }

  module _ {T : Type 0} (story : T → List E) (begins : T → B) (start : B) where
    abbrev Rule : State (Option T) (SeatView E B) → Type 0
    Rule = IsTurnState story begins start

    abbrev Standing : Type 0
    Standing = Me (Option T) (SeatView E B)

    -- one view changes
    moved : (s : State (Option T) (SeatView E B)) (r : Rule s) (id : ℕ) (v w : SeatView E B) → get_elem? s.views id ≡ m.some v
        → (sv tk : ℕ) (d : List E) (ws : List ℕ) (hs : List (m.Option (Option T)))
        → ws ≡ sv ∷ tk ∷ []
        → Lies story begins start d hs (total turns_of (set s.views id w))
        → ViewFits start sv tk d w
        → ((j : ℕ) (u : SeatView E B) → j ≢ id → get_elem? s.views j ≡ m.some u → ViewFits start sv tk d u)
        → ((t : ℕ) → TicketOf w t → TicketOf v t
        ⊎ ((j : ℕ) (u : SeatView E B) → j ≢ id → get_elem? s.views j ≡ m.some u → ¬ (TicketOf u t)))
        → ((t : ℕ) → PlaceOf w t → PlaceOf v t ⊎ ((j : ℕ) (u : SeatView E B) → j ≢ id → get_elem? s.views j ≡ m.some u → ¬ (PlaceOf u t)))
        → sv + tickets_of w + r.ticket ≡ tk + r.serving + tickets_of v
        → length d + places_of v ≡ length r.current + places_of w
        → sv + spent_of v ≡ r.serving + spent_of w
        → tk + allowance_of w ≡ r.ticket + allowance_of v
        → Rule record { words = ws; homes = hs; views = set s.views id w }
    moved s r id v w at sv tk d ws hs words lies mine others tickets places outs lens serves alls =
        let a = total_set tickets_of s.views id v w at in
        let b = total_set places_of s.views id v w at in
        let c = total_set spent_of s.views id v w at in
        let e = total_set allowance_of s.views id v w at in
        let r1 = r.drawn in let r2 = r.long in let r3 = r.served in let r4 = r.whole in
        record {
          serving = sv;
          ticket = tk;
          current = d;
          words = words;
          home = lies;
          each = each_set (ViewFits start sv tk d) s.views id w mine others;
          tickets = differ_set TicketOf s.views id v w at r.tickets tickets;
          places = differ_set PlaceOf s.views id v w at r.places places;
          drawn = omega arith;
          long = omega arith;
          served = omega arith;
          whole = omega arith;
        }

    as_it_was : (s : State (Option T) (SeatView E B)) (id : ℕ) (v : SeatView E B) (i : ℕ) → Rule s → get_elem? s.views id ≡ m.some v
        → Rule record { words = set s.words i (get_or s.words i 0); homes = s.homes; views = set s.views id v }
    as_it_was s id v i r at =
        let a : s.words ≡ set s.words i (get_or s.words i 0) = sym (set-get_or s.words i 0) in
        let b : s.views ≡ set s.views id v = sym (set_again s.views id v at) in
        subst Rule (λ k. record { words = a k; homes = s.homes; views = b k }) r

    pub draws : (slots id : ℕ) (me : Standing) → me.0.stage ≡ Outside → 0 < me.0.allowance
        → Allows Rule slots id me 1 (λ n. (n + 1) % 2 ^ 64) (DrawsTicket (step slots 1 1 0 m.none) me)
    draws slots id me out some s r wide at small =
        let v : SeatView E B = me.0 in let x : ℕ = get_or s.words 1 0 in let w : SeatView E B = with_ticket v x in
        let is : x ≡ r.ticket = ap (λ (l : List ℕ). get_or l 1 0) r.words in
        let f = r.each id v at in
        let free : tickets_of v ≡ 0 = ap tickets_at out in
        let room = total_at allowance_of s.views id v at in
        let whole = r.whole in let drew = r.drawn in
        let fits : x + 1 < 2 ^ 64 = omega arith in
        let up : (x + 1) % 2 ^ 64 ≡ r.ticket + 1 = mod-eq_of_lt fits ∙ ap (λ (n : ℕ). n + 1) is in
        let ins = total_set turns_of s.views id v w at in
        let same : total turns_of (set s.views id w) ≡ total turns_of s.views = (let z : turns_of v ≡ 0 = ap turns_at out in omega arith) in (
          w,
          keeps,
          tt,
          moved s r id v w at r.serving (r.ticket + 1) r.current (set s.words 1 ((x + 1) % 2 ^ 64)) s.homes
              (ap (λ (l : List ℕ). set l 1 ((x + 1) % 2 ^ 64)) r.words ∙ ap (λ (n : ℕ). r.serving ∷ n ∷ []) up)
              (subst (Lies story begins start r.current s.homes) (sym same) r.home)
              record {
                starts = f.starts;
                seen = f.seen;
                mine = f.mine;
                fewer = f.fewer;
                stands = (omega arith, omega arith);
                note = f.note;
              }
              (λ j u n e. fits_on start r.serving r.ticket r.serving (r.ticket + 1) r.current r.current u
              (begins_itself r.current) (later r.serving r.ticket r.current u.stage) (r.each j u e))
              (λ t h. inr (λ j u n e k.
              let below : t < r.ticket = ticket_below r.serving r.ticket r.current u.stage t (r.each j u e).stands k in omega arith))
              (λ t h. inl h)
              (omega arith)
              refl
              refl
              (omega arith),
          refl,
        )

    pub looks : (slots id : ℕ) (me : Standing) (t : ℕ) → me.0.stage ≡ Waiting t
        → Allows Rule slots id me 0 (λ n. n) (LooksForTurn story begins (step slots 0 0 0 m.none) me)
    looks slots id me t waits s r wide at small =
        let v : SeatView E B = me.0 in let x : ℕ = get_or s.words 0 0 in
        let is : x ≡ r.serving = ap (λ (l : List ℕ). get_or l 0 0) r.words in
        let f = r.each id v at in
        let same_ticket : (a : ℕ) → v.stage ≡ Waiting a → a ≡ t = λ a e. ap wait_of (sym e ∙ waits) in
        dite (ℕ_discrete x t)
        (λ hit.
        let mine : TicketOf v r.serving = subst (λ (st : Stage E). HasTicket st r.serving) (sym waits) (sym hit ∙ is) in
        let still : turns_of v ≡ 0 = ap turns_at waits in
        let empty : total turns_of s.views ≡ 0 = dite (ℕ_discrete (total turns_of s.views) 0) (λ z. z)
        (λ n. let u = total_some turns_of s.views (omega arith) in
        let same : u.0 ≡ id =
        r.tickets u.0 id u.1 v r.serving u.2 at
        (inside_ticket r.serving r.ticket r.current u.1.stage (r.each u.0 u.1 u.2).stands u.3) mine in
        let one : u.1 ≡ v = m.some-injective u.1 v (sym u.2 ∙ (ap (get_elem? s.views) same ∙ at)) in
        let none : turns_of u.1 ≡ 0 = ap turns_of one ∙ still in let some = u.3 in absurd (omega arith)) in
        ⊎_elim
        (λ (h : IsHome story begins start r.current s.homes (total turns_of s.views)).
        let w : SeatView E B = in_turn v t (story h.value) in let none = h.none in
        let stands : StageFits r.serving r.ticket r.current (Waiting t) = subst (StageFits r.serving r.ticket r.current) waits f.stands in
        let ins = total_set turns_of s.views id v w at in
        let outs : tickets_of v ≡ 1 = ap tickets_at waits in (
          w,
          takes 0 (Some h.value),
          ap (λ (l : List (m.Option (Option T))). get_elem? l 0) h.lies,
          moved s r id v w at r.serving r.ticket r.current (set s.words 0 x) (set s.homes 0 m.none)
              (ap (λ (l : List ℕ). set l 0 x) r.words ∙ ap (λ (n : ℕ). n ∷ r.ticket ∷ []) is)
              (inr record { away = ap (λ (l : List (m.Option (Option T))). set l 0 m.none) h.lies; one = omega arith })
              record {
                starts = f.starts;
                seen = f.seen;
                mine = f.mine;
                fewer = f.fewer;
                stands = (sym hit ∙ is, stands.1, h.stands);
                note = f.note;
              }
              (λ j u n e. r.each j u e)
              (λ a k. inl (subst (λ (st : Stage E). HasTicket st a) (sym waits) k))
              (λ a k. inl k)
              (omega arith)
              refl
              refl
              refl,
          λ a e. (
            λ found. record {
              value = h.value;
              took = ap (λ (n : ℕ). (in_turn v n (story h.value), (0, Some h.value) ∷ me.1)) (sym (same_ticket a e));
              seen = subst (Begins v.seen) (sym h.stands) f.seen;
              start = λ c k. h.starts ∙ same_start v.start start c f.starts k;
            },
            λ miss. absurd (miss (hit ∙ sym (same_ticket a e))),
          ),
        ))
        (λ (h : IsOut s.homes (total turns_of s.views)). let one = h.one in absurd (omega arith))
        r.home)
        (λ miss. (
          v,
          keeps,
          tt,
          as_it_was s id v 0 r at,
          λ a e. (λ found. absurd (miss (found ∙ same_ticket a e)), λ _. refl),
        ))

    leaves_at : (slots id : ℕ) (v : SeatView E B) (t : ℕ) (l : List E) (y : T) (c : B) → v.stage ≡ InTurn t l
        → GrowsByOneAtMost l (story y) → v.start ≡ Some c → begins y ≡ c
        → Allows Rule slots id (v, (0, Some y) ∷ []) 0 (λ n. (n + 1) % 2 ^ 64)
        (LeavesTurn story (step slots 0 1 0 m.none) (v, (0, Some y) ∷ []))
    leaves_at slots id v t l y c inside grows starts same s r wide at small =
        let x : ℕ = get_or s.words 0 0 in let d : List E = story y in let w : SeatView E B = after_turn v l d in
        let is : x ≡ r.serving = ap (λ (k : List ℕ). get_or k 0 0) r.words in
        let f = r.each id v at in
        let stands : StageFits r.serving r.ticket r.current (InTurn t l) = subst (StageFits r.serving r.ticket r.current) inside f.stands in
        let now : l ≡ r.current = stands.2 in
        let whole = r.whole in let drew = r.drawn in let below = stands.1 in let mine = stands.0 in
        let fits : x + 1 < 2 ^ 64 = omega arith in
        let up : (x + 1) % 2 ^ 64 ≡ r.serving + 1 = mod-eq_of_lt fits ∙ ap (λ (n : ℕ). n + 1) is in
        let outs : tickets_of v ≡ 1 = ap tickets_at inside in
        let ins : turns_of v ≡ 1 = ap turns_at inside in
        let sum = total_set turns_of s.views id v w at in
        let least = total_at turns_of s.views id v at in
        let ticket : TicketOf v r.serving = subst (λ (st : Stage E). HasTicket st r.serving) (sym inside) mine in
        let longer : Begins r.current d = subst (λ (z : List E). Begins z d) now (begins_grown l d grows) in
        let seen_long = begins_length v.seen r.current f.seen in
        let now_long : length l ≡ length r.current = ap length now in
        let fewer = f.fewer in let gains = length_gained l d grows in let places = length-append v.mine (gained l d) in
        let seen_most = begins_length r.current d longer in let most = gained_most l d in
        let few : length (v.mine ++ gained l d) ≤ v.spent + 1 = omega arith in
        let lens : length d + length v.mine ≡ length r.current + length (v.mine ++ gained l d) = omega arith in
        ⊎_elim
        (λ (h : IsHome story begins start r.current s.homes (total turns_of s.views)). let none = h.none in absurd (omega arith))
        (λ (h : IsOut s.homes (total turns_of s.views)). let one = h.one in (
          w,
          gives,
          tt,
          moved s r id v w at (r.serving + 1) r.ticket d (set s.words 0 ((x + 1) % 2 ^ 64)) (set s.homes 0 (m.some (Some y)))
              (ap (λ (k : List ℕ). set k 0 ((x + 1) % 2 ^ 64)) r.words ∙ ap (λ (n : ℕ). n ∷ r.ticket ∷ []) up)
              (inl record {
                value = y;
                lies = ap (λ (k : List (m.Option (Option T))). set k 0 (m.some (Some y))) h.away;
                stands = refl;
                starts = same ∙ sym (same_start v.start start c f.starts starts);
                none = omega arith;
              })
              record {
                starts = f.starts;
                seen = begins_itself d;
                mine = rises_gained v.mine l d grows (rises_wide 0 v.mine (length v.seen) (length l) f.mine (omega arith));
                fewer = few;
                stands = tt;
                note = noted_on r.current d (length v.seen) (length d) v.note longer (omega arith) f.note;
              }
              (λ j u n e. fits_on start r.serving r.ticket (r.serving + 1) r.ticket r.current d u longer
              (later_served r.serving r.ticket r.current d u.stage (λ k. n (r.tickets j id u v r.serving e at k ticket))) (r.each j u e))
              (λ a k. absurd k)
              (λ p k. ⊎_elim inl (λ (q : p ≡ length l).
              inr (λ j u n e a. let g = r.each j u e in let b = rises_below 0 u.mine (length u.seen) p g.mine a in
              let o = begins_length u.seen r.current g.seen in absurd (omega arith)))
              (among_gained v.mine l d p grows k))
              (omega arith)
              lens
              (omega arith)
              refl,
          λ t' l' y' e k. let a : l ≡ l' = ap list_of (sym inside ∙ e) in let b : y ≡ y' = ap (slot_of y) k in
              (λ i. (after_turn v (a i) (story (b i)), [])),
        ))
        r.home

    pub leaves : (slots id : ℕ) (me : Standing) → MayLeave story begins me
        → Allows Rule slots id me 0 (λ n. (n + 1) % 2 ^ 64) (LeavesTurn story (step slots 0 1 0 m.none) me)
    leaves slots id me may =
        subst (λ (k : List (ℕ × Option T)). Allows Rule slots id (me.0, k) 0 (λ n. (n + 1) % 2 ^ 64)
        (LeavesTurn story (step slots 0 1 0 m.none) (me.0, k)))
        (sym may.held)
        (leaves_at slots id me.0 may.ticket may.before may.value may.first may.stage may.grows may.start may.begun)

    pub clears : (slots id : ℕ) (me : Standing) → Allows Rule slots id me 0 (λ n. n) (ClearsNote (step slots 0 0 0 m.none) me)
    clears slots id me s r wide at small =
        let v : SeatView E B = me.0 in let x : ℕ = get_or s.words 0 0 in let w : SeatView E B = without_note v in
        let is : x ≡ r.serving = ap (λ (l : List ℕ). get_or l 0 0) r.words in
        let f = r.each id v at in
        let sum = total_set turns_of s.views id v w at in
        let same : total turns_of (set s.views id w) ≡ total turns_of s.views = omega arith in
        let a1 = total_at allowance_of s.views id v at in let a2 = total_at spent_of s.views id v at in let r1 = r.drawn in
        let r2 = r.served in let r3 = r.whole in (
          w,
          keeps,
          tt,
          moved s r id v w at r.serving r.ticket r.current (set s.words 0 x) s.homes
              (ap (λ (l : List ℕ). set l 0 x) r.words ∙ ap (λ (n : ℕ). n ∷ r.ticket ∷ []) is)
              (subst (Lies story begins start r.current s.homes) (sym same) r.home)
              record { starts = f.starts; seen = f.seen; mine = f.mine; fewer = f.fewer; stands = f.stands; note = tt }
              (λ j u n e. r.each j u e)
              (λ t k. inl k)
              (λ t k. inl k)
              (omega arith)
              refl
              refl
              refl,
          record {
            cleared = refl;
            note = noted_shorter v.seen r.current (length v.seen) v.note f.seen (omega arith) f.note;
            mine = f.mine;
            few = omega arith;
          },
        )
