-- Each combinator of Must and Can does the same of what does the same.
use Rattle.std.proofs.Common.{◌≡◌, ℕ, ◌<◌, Bool, true, false, cond, eqb, List, [], ◌∷◌, ◌++◌}
use Rattle.std.proofs.Common.{refl, sym, ap, subst, ◌∙◌, arith, eqb-true, eq-eqb}
use Rattle.std.specs.Prelude.{◌==◌, ◌||◌, nat_lt, IsTrue}
use Rattle.std.specs.List.{list_any}
use Rattle.host_expr.specs.declared.cell.Cell.{Cell}
use Rattle.host_expr.specs.declared.cell.Cell.TheVariants as cell
use Rattle.host_expr.specs.declared.cell.SigCell.{SigCell}
use Rattle.host_expr.specs.Environment.{Env, put}
use Rattle.host_expr.specs.Evaluation.{truth}
use Rattle.hh_term.specs.Kernel.{Kernel}
use Rattle.hh_term.specs.Scopes.{IsInScope}
use Rattle.hh_term.specs.Codes.{CodeSet, either, in_turn, greater_of, lowered}
use Rattle.hh_term.specs.MustCan.{Table, Bag, Index, Executed, Possible, MustCan, gives, one_of, is_end, go_on, sequence, greater}
use Rattle.hh_term.specs.MustCan.{parallel, lower_code, trapped, chosen, held, cells_of, without, hide, status_by, value_by}
use Rattle.hh_term.specs.MustCan.{raised, round, solve, scoped}
use Rattle.loop_copy.specs.Copies.{with_number}
use Rattle.copy_laws.specs.Agreeing.{SeesTheSame, EmitsTheSame, DoesTheSame}

module _ (K : Kernel) (f : ℕ → ℕ) (ls : List ℕ) where
  abbrev Emits : Bag → Bag → Type 0
  Emits = EmitsTheSame K f ls

  abbrev Does : MustCan → MustCan → Type 0
  Does = DoesTheSame K f ls

  pub emits_both : (a b c d : Bag) → Emits a c → Emits b d → Emits (a ++ b) (c ++ d)
  emits_both [] b [] d h k = k
  emits_both (x ∷ a) b (y ∷ c) d h k = (h.0, emits_both a b c d h.1 k)
  emits_both [] b (y ∷ c) d h k = absurd h
  emits_both (x ∷ a) b [] d h k = absurd h

  pub does_gives : (a c : Bag) (k : ℕ) (i : Index) → Emits a c → Does (gives a k i) (gives c k i)
  does_gives a c k Executed h = record { must = h; code = refl; can = h; codes = refl }
  does_gives a c k Possible h = record { must = tt; code = refl; can = h; codes = refl }

  does_one_of : (a b c d : MustCan) → Does a c → Does b d → Does (one_of a b) (one_of c d)
  does_one_of a b c d x y =
      record {
        must = tt;
        code = refl;
        can = emits_both a.can b.can c.can d.can x.can y.can;
        codes = λ i. either (x.codes i) (y.codes i);
      }

  does_cond : (t : Bool) (a b c d : MustCan) → Does a c → Does b d → Does (cond t a b) (cond t c d)
  does_cond true a b c d x y = x
  does_cond false a b c d x y = y

  pub does_chosen : (x y : Cell) (i : Index) (p q r s : Index → MustCan) → y ≡ x → ((j : Index) → Does (p j) (r j))
      → ((j : Index) → Does (q j) (s j)) → Does (chosen x i p q) (chosen y i r s)
  does_chosen x y i p q r s e h k = subst (λ z. Does (chosen x i p q) (chosen z i r s)) (sym e) (by_cell x)
    where
      by_cell : (z : Cell) → Does (chosen z i p q) (chosen z i r s)
      by_cell cell.Unknown = does_one_of (p Possible) (q Possible) (r Possible) (s Possible) (h Possible) (k Possible)
      by_cell (cell.Known v) = does_cond (truth v) (p i) (q i) (r i) (s i) (h i) (k i)
      by_cell (cell.Faulted o l) = k i

  pub does_held : (x y : Cell) (i : Index) (p r : Index → MustCan) → y ≡ x → ((j : Index) → Does (p j) (r j))
      → Does (held x i p) (held y i r)
  does_held x y i p r e h = subst (λ z. Does (held x i p) (held z i r)) (sym e) (by_cell x)
    where
      by_cell : (z : Cell) → Does (held z i p) (held z i r)
      by_cell cell.Unknown =
          does_one_of (p Possible) (gives [] 1 Possible) (r Possible) (gives [] 1 Possible) (h Possible)
          (does_gives [] [] 1 Possible tt)
      by_cell (cell.Known v) = does_cond (truth v) (gives [] 1 i) (p i) (gives [] 1 i) (r i) (does_gives [] [] 1 i tt) (h i)
      by_cell (cell.Faulted o l) = h i

  emits_if : (t u : Bool) (a c : Bag) → u ≡ t → Emits a c → Emits (cond t a []) (cond u c [])
  emits_if t u a c e h = subst (λ z. Emits (cond t a []) (cond z c [])) (sym e) (by_test t)
    where
      by_test : (t : Bool) → Emits (cond t a []) (cond t c [])
      by_test true = h
      by_test false = tt

  pub does_sequence : (a c : MustCan) (g h : Index → MustCan) → Does a c → ((j : Index) → Does (g j) (h j))
      → Does (sequence a g) (sequence c h)
  does_sequence a c g h x y =
      let b = g (is_end a.code) in
      let d = h (is_end c.code) in
      let z : Does b d = subst (λ k. Does b (h (is_end k))) (sym x.code) (y (is_end a.code)) in
      record {
        must = emits_both a.must b.must c.must d.must x.must z.must;
        code = λ i. go_on (x.code i) (z.code i);
        can = emits_both a.can (cond (a.codes 0) b.can []) c.can (cond (c.codes 0) d.can []) x.can
            (emits_if (a.codes 0) (c.codes 0) b.can d.can (ap (λ (C : CodeSet). C 0) x.codes) z.can);
        codes = λ i. in_turn (x.codes i) (z.codes i);
      }

  pub does_parallel : (a b c d : MustCan) → Does a c → Does b d → Does (parallel a b) (parallel c d)
  does_parallel a b c d x y =
      record {
        must = emits_both a.must b.must c.must d.must x.must y.must;
        code = λ i. greater (x.code i) (y.code i);
        can = emits_both a.can b.can c.can d.can x.can y.can;
        codes = λ i. greater_of (x.codes i) (y.codes i);
      }

  pub does_trapped : (a c : MustCan) → Does a c → Does (trapped a) (trapped c)
  does_trapped a c x = record { must = x.must; code = ap lower_code x.code; can = x.can; codes = ap lowered x.codes }

scope_off : (a b c : Bool) → b ≡ false → IsTrue (a || (b || c)) → IsTrue (a || c)
scope_off true b c e h = refl
scope_off false false c e h = h
scope_off false true c e h = absurd (let no : ⊥ = cc in no)

-- ---- the scope of a local signal, whose number in the copy is above those of all signals in scope

module _ (K : Kernel) (f : ℕ → ℕ) (ls : List ℕ) (s n : ℕ) (low : (t : ℕ) → IsInScope K ls t → f t < n) where
  abbrev g : ℕ → ℕ
  g = with_number s n f

  differs : (t : ℕ) → eqb t s ≡ false → (s == t) ≡ false
  differs t x = by_test (s == t) refl
    where
      by_test : (b : Bool) → (s == t) ≡ b → b ≡ false
      by_test false y = refl
      by_test true y = absurd (let yes : eqb t s ≡ true = eq-eqb t s (sym (eqb-true s t y)) in let no : ⊥ = cc in no)

  -- another signal in the scope is in scope outside
  pub outside : (t : ℕ) → eqb t s ≡ false → IsInScope K (s ∷ ls) t → IsInScope K ls t
  outside t x h = scope_off (nat_lt t K.interface) (s == t) (list_any (λ u. u == t) ls) (differs t x) h

  other_number : (t : ℕ) → eqb t s ≡ false → IsInScope K (s ∷ ls) t → eqb (f t) n ≡ false
  other_number t x h = by_test (eqb (f t) n) refl
    where
      by_test : (b : Bool) → eqb (f t) n ≡ b → b ≡ false
      by_test false y = refl
      by_test true y = absurd (let e = eqb-true (f t) n y in let l = low t (outside t x h) in let no : ⊥ = omega (arith, e, l) in no)

  -- what is emitted is of the local in both, or of another signal in both
  by_signal : (Z : (b d : Bool) → Type 0) (t : ℕ) → IsInScope K (s ∷ ls) t → (eqb t s ≡ true → Z true true)
      → (eqb t s ≡ false → Z false false) → Z (eqb t s) (eqb (g t) n)
  by_signal Z t h local other = at (eqb t s) refl
    where
      at : (b : Bool) → eqb t s ≡ b → Z b (eqb (cond b n (f t)) n)
      at true x = subst (λ z. Z true z) (sym (eq-eqb n n refl)) (local x)
      at false x = subst (λ z. Z false z) (sym (other_number t x h)) (other x)

  pub same_cells : (a c : Bag) → EmitsTheSame K g (s ∷ ls) a c → cells_of n c ≡ cells_of s a
  same_cells [] [] h = refl
  same_cells (e ∷ a) (d ∷ c) h =
      ap (λ z. cond (z == n) (d.1 ∷ cells_of n c) (cells_of n c)) h.0.1
      ∙ by_signal (λ x y. cond y (d.1 ∷ cells_of n c) (cells_of n c) ≡ cond x (e.1 ∷ cells_of s a) (cells_of s a)) e.0 h.0.0
      (λ x. λ i. h.0.2 i ∷ same_cells a c h.1 i) (λ x. same_cells a c h.1)
  same_cells [] (d ∷ c) h = absurd h
  same_cells (e ∷ a) [] h = absurd h

  pub emits_without : (a c : Bag) → EmitsTheSame K g (s ∷ ls) a c → EmitsTheSame K f ls (without s a) (without n c)
  emits_without [] [] h = tt
  emits_without (e ∷ a) (d ∷ c) h =
      subst (λ z. EmitsTheSame K f ls (without s (e ∷ a)) (cond (z == n) (without n c) (d ∷ without n c))) (sym h.0.1)
      (by_signal (λ x y. EmitsTheSame K f ls (cond x (without s a) (e ∷ without s a)) (cond y (without n c) (d ∷ without n c)))
      e.0 h.0.0 (λ x. emits_without a c h.1)
      (λ x. ((outside e.0 x h.0.0, h.0.1 ∙ ap (λ b. cond b n (f e.0)) x, h.0.2), emits_without a c h.1)))
  emits_without [] (d ∷ c) h = absurd h
  emits_without (e ∷ a) [] h = absurd h

  pub does_hide : (a c : MustCan) → DoesTheSame K g (s ∷ ls) a c → DoesTheSame K f ls (hide s a) (hide n c)
  does_hide a c x =
      record { must = emits_without a.must c.must x.must; code = x.code; can = emits_without a.can c.can x.can; codes = x.codes }

  pub sees_inside : (E F : Env) (c : SigCell) → SeesTheSame K f ls E F → SeesTheSame K g (s ∷ ls) (put E s c) (put F n c)
  sees_inside E F c h t i =
      by_signal (λ x y. cond y c (F (cond x n (f t))) ≡ cond x c (E t)) t i (λ x. refl) (λ x. h t (outside t x i))

  module _ (T U : Table) (kind : U.kind n ≡ T.kind s) (word : U.word n ≡ T.word s) where
    pub same_raised : (c : SigCell) (a d : MustCan) → DoesTheSame K g (s ∷ ls) a d → raised U n c d ≡ raised T s c a
    same_raised c a d x =
        λ i. record {
          status = status_by (same_cells a.must d.must x.must i) (same_cells a.can d.can x.can i);
          value = value_by (kind i) (word i) c.preval (same_cells a.must d.must x.must i) (same_cells a.can d.can x.can i);
          pre = c.pre;
          preval = c.preval;
        }

    module _ (p q : Env → MustCan)
        (same : (E F : Env) → SeesTheSame K g (s ∷ ls) E F → DoesTheSame K g (s ∷ ls) (p E) (q F))
        (E F : Env) (sees : SeesTheSame K f ls E F) where
      same_round : (c : SigCell) → round U n q F c ≡ round T s p E c
      same_round c = same_raised c (p (put E s c)) (q (put F n c)) (same (put E s c) (put F n c) (sees_inside E F c sees))

      pub same_solve : (c : SigCell) → solve U n q F c ≡ solve T s p E c
      same_solve c = ap (round U n q F) (same_round c) ∙ same_round (round T s p E c)

      pub does_scoped : (c : SigCell) → DoesTheSame K f ls (scoped T s p E c) (scoped U n q F c)
      does_scoped c =
          let d = solve T s p E c in
          subst (λ z. DoesTheSame K f ls (scoped T s p E c) (hide n (q (put F n z)))) (sym (same_solve c))
          (does_hide (p (put E s d)) (q (put F n d)) (same (put E s d) (put F n d) (sees_inside E F d sees)))
