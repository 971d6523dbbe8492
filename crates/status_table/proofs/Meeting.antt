-- What a walk meets in the parts of a statement makes what it meets in the whole.
use Rattle.std.proofs.Common.{◌≡◌, ◌≢◌, refl, sym, ap, ◌∙◌, subst, ℕ, zero, suc, ◌<◌, Bool, true, false, cond}
use Rattle.std.proofs.Common.{◌==◌, ◌&&◌, ◌||◌, Option, Some, None, List, [], ◌∷◌, ◌++◌, ◌⊎◌, inl, inr}
use Rattle.std.proofs.Common.{⊎_elim, length, set, slice_get, eqb-true, eq-eqb, append-nil, append_assoc}
use Rattle.std.proofs.lemmas.Bool.{eqb-false}
use Rattle.std.proofs.Math.ListN.{length-set}
use Rattle.hh_base.specs.declared.value.Tri.{Tri}
use Rattle.hh_base.specs.declared.value.Kind.{Kind}
use Rattle.hh_base.specs.declared.value.CombineWord.{CombineWord}
use Rattle.host_expr.specs.declared.cell.Cell.{Cell}
use Rattle.host_expr.specs.declared.cell.Cell.TheVariants as cell
use Rattle.host_expr.specs.declared.cell.SigCell.{SigCell}
use Rattle.host_expr.specs.Evaluation.{truth}
use Rattle.hh_term.specs.Codes.{CodeSet, only, either, without_end, in_turn, greater_of, lowered}
use Rattle.hh_term.specs.Flags.{Agrees, codes_in}
use Rattle.hh_term.specs.MustCan.{Table, MustCan, Bag, Index, Executed, Possible, gives, one_of, sequence}
use Rattle.hh_term.specs.MustCan.{is_end, go_on, parallel, greater, trapped, lower_code, chosen, held, hide}
use Rattle.hh_term.specs.MustCan.{cells_of, without, raised, status_by, value_by}
use Rattle.hh_term.specs.Knows.{MustWithinCan, NothingSure}
use Rattle.hh_term.proofs.WithinCan.{end_known}
use Rattle.hh_term.proofs.FlagSets.{greater_cong}
use Rattle.status_table.specs.declared.tally.Tally.{Tally}
use Rattle.status_table.specs.declared.state.Raise.{Raise}
use Rattle.status_table.specs.declared.state.Pass.{Pass}
use Rattle.status_table.specs.declared.state.Outer.{Outer}
use Rattle.status_table.specs.declared.walk.Verdict.TheVariants as verdict
use Rattle.status_table.specs.Flat.{Cells}
use Rattle.status_table.specs.Tallies.{Adds, tally_of}
use Rattle.status_table.specs.Standing.{Pick, ChosenAt, HeldAt}
use Rattle.status_table.specs.Putting.{PutsChosen, PutsHeld}
use Rattle.status_table.specs.Walking.{index_of, code_of, tested, AllPut, Tallied, Counted, Raised, Met}
use Rattle.status_table.specs.Walking.{Entered, Left}
use Rattle.status_table.proofs.Adding.{adds_same, nothing_adds}
use Rattle.status_table.proofs.Reading.{set_here, set_other, set_back}

abbrev PutAt : Type 1
PutAt = ℕ → ℕ → Tri × Cell → Type 0

-- ---- the cells of a signal in bags

pub cells-append : (s : ℕ) (a b : Bag) → cells_of s (a ++ b) ≡ cells_of s a ++ cells_of s b
cells-append s [] b = refl
cells-append s (e ∷ a) b = at_test (e.0 == s) (cells-append s a b)
  where
    at_test : (v : Bool) → cells_of s (a ++ b) ≡ cells_of s a ++ cells_of s b → cond v
        (e.1 ∷ cells_of s (a ++ b)) (cells_of s (a ++ b)) ≡ cond v (e.1 ∷ cells_of s a) (cells_of s a) ++
        cells_of s b
    at_test true h = ap (λ c. e.1 ∷ c) h
    at_test false h = h

pub cells-without-same : (s : ℕ) (b : Bag) → cells_of s (without s b) ≡ []
cells-without-same s [] = refl
cells-without-same s (e ∷ b) = at_test (cells-without-same s b) (e.0 == s) refl
  where
    at_test : cells_of s (without s b) ≡ [] → (v : Bool) → (e.0 == s) ≡ v → cells_of s
        (cond (e.0 == s) (without s b) (e ∷ without s b)) ≡ []
    at_test h true q = ap (λ v. cells_of s (cond v (without s b) (e ∷ without s b))) q ∙ h
    at_test h false q = ap (λ v. cells_of s (cond v (without s b) (e ∷ without s b))) q ∙ ap
        (λ v. cond v (e.1 ∷ cells_of s (without s b)) (cells_of s (without s b))) q ∙ h

pub cells-without-other : (r s : ℕ) (b : Bag) → (r == s) ≡ false → cells_of r (without s b) ≡ cells_of r b
cells-without-other r s [] h = refl
cells-without-other r s (e ∷ b) h = at_test (cells-without-other r s b h) (e.0 == s) refl
  where
    not_here : (e.0 == s) ≡ true → (e.0 == r) ≡ false
    not_here q = at_r (e.0 == r) refl
      where
        at_r : (v : Bool) → (e.0 == r) ≡ v → (e.0 == r) ≡ false
        at_r false z = z
        at_r true z =
            let x : r ≡ s = sym (eqb-true e.0 r z) ∙ eqb-true e.0 s q in
            let y : (r == s) ≡ true = eq-eqb r s x in
            let w : true ≡ false = sym y ∙ h in
            cc

    at_test : cells_of r (without s b) ≡ cells_of r b → (v : Bool) → (e.0 == s) ≡ v → cells_of r
        (cond (e.0 == s) (without s b) (e ∷ without s b)) ≡ cond (e.0 == r) (e.1 ∷ cells_of r b)
        (cells_of r b)
    at_test k true q =
        ap (λ v. cells_of r (cond v (without s b) (e ∷ without s b))) q ∙ k ∙ sym
        (ap (λ v. cond v (e.1 ∷ cells_of r b) (cells_of r b)) (not_here q))
    at_test k false q =
        ap (λ v. cells_of r (cond v (without s b) (e ∷ without s b))) q ∙ ap
        (λ l. cond (e.0 == r) (e.1 ∷ l) l) k

-- ---- tallies

adds_both : (k : Kind) (w : Option CombineWord) (t u v : Tally) (m m' c c' : List Cell) → Adds k w t u m c →
    Adds k w u v m' c' → Adds k w t v (m ++ m') (c ++ c')
adds_both k w t u v m m' c c' h g = record {
  adds = λ x y e. g.adds (x ++ m) (y ++ c) (h.adds x y e) ∙ ap (λ z. tally_of k w z ((y ++ c) ++ c'))
      (append_assoc x m m') ∙ ap (tally_of k w (x ++ (m ++ m'))) (append_assoc y c c');
}

pub tallied_both : (T : Table) (a b m : MustCan) (t0 t1 t2 : List Tally) → Tallied T a t0 t1 → Tallied T b t1
    t2 → ((s : ℕ) → cells_of s a.must ++ cells_of s b.must ≡ cells_of s m.must) →
    ((s : ℕ) → cells_of s a.can ++ cells_of s b.can ≡ cells_of s m.can) → Tallied T m t0 t2
tallied_both T a b m t0 t1 t2 h g em ec = record {
  count = g.count ∙ h.count;
  adds = λ s t e.
      let x = h.adds s t e in
      let y = g.adds s x.0 x.1 in (
        y.0,
        y.1,
        adds_same (T.kind s) (T.word s) t y.0 (cells_of s a.must ++ cells_of s b.must) (cells_of s m.must)
            (cells_of s a.can ++ cells_of s b.can) (cells_of s m.can) (em s) (ec s)
            (adds_both (T.kind s) (T.word s) t x.0 y.0 (cells_of s a.must) (cells_of s b.must)
            (cells_of s a.can) (cells_of s b.can) x.2 y.2),
      );
}

pub tallied_same : (T : Table) (a m : MustCan) (t0 t1 : List Tally) → Tallied T a t0 t1 →
    ((s : ℕ) → cells_of s a.must ≡ cells_of s m.must) → ((s : ℕ) → cells_of s a.can ≡ cells_of s m.can) →
    Tallied T m t0 t1
tallied_same T a m t0 t1 h em ec = record {
  count = h.count;
  adds = λ s t e. let x = h.adds s t e in (
    x.0,
    x.1,
    adds_same (T.kind s) (T.word s) t x.0 (cells_of s a.must) (cells_of s m.must)
        (cells_of s a.can) (cells_of s m.can) (em s) (ec s) x.2,
  );
}

-- ---- raises

all_both : (Q : PutAt) (xs ys : List Raise) → AllPut Q xs → AllPut Q ys → AllPut Q (xs ++ ys)
all_both Q [] ys h g = g
all_both Q (x ∷ xs) ys h g = (h.0, all_both Q xs ys h.1 g)

all_weaker : (P Q : PutAt) → ((s n : ℕ) (v : Tri × Cell) → P s n v → Q s n v) → (xs : List Raise) → AllPut P
    xs → AllPut Q xs
all_weaker P Q f [] h = tt
all_weaker P Q f (x ∷ xs) h =
    (f x.signal x.level (x.known.status, x.known.value) h.0, all_weaker P Q f xs h.1)

left_none : {A : Type 0} (xs ys : List A) → xs ++ ys ≡ [] → xs ≡ []
left_none [] ys h = refl
left_none (x ∷ xs) ys h = cc

right_none : {A : Type 0} (xs ys : List A) → xs ++ ys ≡ [] → ys ≡ []
right_none [] ys h = h
right_none (x ∷ xs) ys h = cc

pub raised_none : (τ : Cells) (S : Type 0) (P : PutAt) (b : List Raise) → S → Raised τ S P b b
raised_none τ S P b h = record { news = []; is = sym (append-nil b); put = tt; changes = tt; still = λ e. h }

pub raised_weaker : (τ : Cells) (S S' : Type 0) (P Q : PutAt) (b0 b1 : List Raise) → (S → S') →
    ((s n : ℕ) (v : Tri × Cell) → P s n v → Q s n v) → Raised τ S P b0 b1 → Raised τ S' Q b0 b1
raised_weaker τ S S' P Q b0 b1 f g h = record {
  news = h.news;
  is = h.is;
  put = all_weaker P Q g h.news h.put;
  changes = h.changes;
  still = λ e. f
      (h.still e);
}

pub raised_both : (τ : Cells) (S S' : Type 0) (P Q R : PutAt) (b0 b1 b2 : List Raise) →
    ((s n : ℕ) (v : Tri × Cell) → P s n v → R s n v) → ((s n : ℕ) (v : Tri × Cell) → Q s n v → R s n v) →
    Raised τ S P b0 b1 → Raised τ S' Q b1 b2 → Raised τ (S × S') R b0 b2
raised_both τ S S' P Q R b0 b1 b2 f g h k = record {
  news = h.news ++ k.news;
  is = k.is ∙ ap (λ z. z ++ k.news) h.is ∙ append_assoc b0 h.news k.news;
  put = all_both R h.news k.news (all_weaker P R f h.news h.put) (all_weaker Q R g k.news k.put);
  changes = all_both (λ s n v. v ≢ τ s n) h.news k.news h.changes k.changes;
  still = λ e. (h.still (left_none h.news k.news e), k.still (right_none h.news k.news e));
}

pub met_weaker : (T : Table) (τ : Cells) (a : MustCan) (S S' : Type 0) (P Q : PutAt) (end : Option ℕ)
    (K : List Bool)
    (b0 b1 : Pass) → (S → S') → ((s n : ℕ) (v : Tri × Cell) → P s n v → Q s n v) → Met T τ a S P end K b0 b1 →
    Met T τ a S' Q end K b0 b1
met_weaker T τ a S S' P Q end K b0 b1 f g h =
    record {
      code = h.code;
      codes = h.codes;
      signals = h.signals;
      args = h.args;
      tallies = h.tallies;
      raised =
          raised_weaker τ S S' P Q b0.raised.items b1.raised.items f g h.raised;
    }

-- ---- statements without parts

pub met_leaf : (T : Table) (τ : Cells) (bag : Bag) (k : ℕ) (P : PutAt) (sure : Bool) (end : Option ℕ)
    (K : List Bool)
    (b0 b1 : Pass) → Counted T (gives bag k (index_of sure)) b0 b1 → end ≡ code_of k sure → Agrees K (only k)
    → Met T τ (gives bag k (index_of sure)) (Unit {0}) P end K b0 b1
met_leaf T τ bag k P true end K b0 b1 h e g = record {
  code = e;
  codes = g;
  signals = h.signals;
  args = h.args;
  tallies = h.tallies;
  raised = subst
      (λ z. Raised τ (Unit {0}) P b0.raised.items z) (sym h.raised) (raised_none τ (Unit {0}) P
      b0.raised.items tt);
}
met_leaf T τ bag k P false end K b0 b1 h e g = record {
  code = e;
  codes = g;
  signals = h.signals;
  args = h.args;
  tallies = h.tallies;
  raised = subst
      (λ z. Raised τ (Unit {0}) P b0.raised.items z) (sym h.raised) (raised_none τ (Unit {0}) P
      b0.raised.items tt);
}

pub counted_none : (T : Table) (k : ℕ) (i : Index) (b : Pass) → Counted T (gives [] k i) b b
counted_none T k Executed b = record {
  signals = refl;
  args = refl;
  raised = refl;
  tallies = record
      { count = refl; adds = λ s t e. (t, e, nothing_adds (T.kind s) (T.word s) t) };
}
counted_none T k Possible b = record {
  signals = refl;
  args = refl;
  raised = refl;
  tallies = record
      { count = refl; adds = λ s t e. (t, e, nothing_adds (T.kind s) (T.word s) t) };
}

-- ---- sequences

or_cong : (a b c d : Bool) → a ≡ b → c ≡ d → (a || c) ≡ (b || d)
or_cong a b c d h g = ap (λ x. x || c) h ∙ ap (λ x. b || x) g

and_cong : (a b c d : Bool) → a ≡ b → c ≡ d → (a && c) ≡ (b && d)
and_cong a b c d h g = ap (λ x. x && c) h ∙ ap (λ x. b && x) g

without_cong : (K L : CodeSet) → ((c : ℕ) → K c ≡ L c) → (c : ℕ) → without_end K c ≡ without_end L c
without_cong K L h zero = refl
without_cong K L h (suc c) = h (suc c)

turn_cong : (K K' L L' : CodeSet) → ((c : ℕ) → K c ≡ K' c) → ((c : ℕ) → L c ≡ L' c) → (c : ℕ) → in_turn K L c
    ≡ in_turn K' L' c
turn_cong K K' L L' h g c = or_cong (without_end K c) (without_end K' c) (K 0 && L c) (K' 0 && L' c)
    (without_cong K K' h c) (and_cong (K 0) (K' 0) (L c) (L' c) (h 0) (g c))

pub met_sequence : (T : Table) (τ : Cells) (a : MustCan) (f : Index → MustCan) (SA : Type 0) (SB : Index →
    Type 0)
    (PA : PutAt) (PB : Index → PutAt) (c1 c2 : Option ℕ) (K1 K2 K : List Bool) (b0 b1 b2 : Pass) →
    Met T τ a SA PA c1 K1 b0 b1 → codes_in K1 0 ≡ true → Met T τ (f (is_end c1)) (SB (is_end c1))
    (PB (is_end c1))
    c2 K2 b1 b2 → Agrees K (in_turn (codes_in K1) (codes_in K2)) →
    Met T τ (sequence a f) (SA × Pick (a.codes 0) (SB (is_end a.code)) (Unit {0}))
    (λ s n v. PA s n v ⊎ Pick (a.codes 0) (PB (is_end a.code) s n v) ⊥) (go_on c1 c2) K b0 b2
met_sequence T τ a f SA SB PA PB c1 c2 K1 K2 K b0 b1 b2 h e g0 hK =
    let ends : a.codes 0 ≡ true = sym (h.codes 0) ∙ e in
    let g : Met T τ (f (is_end a.code)) (SB (is_end a.code)) (PB (is_end a.code)) c2 K2 b1 b2 = subst
    (λ z. Met T τ (f (is_end z)) (SB (is_end z)) (PB (is_end z)) c2 K2 b1 b2) h.code g0 in
    let b = f (is_end a.code) in
    let pick : (P : Type 0) (Q : Type 0) → P → Pick (a.codes 0) P Q = λ P Q x. subst (λ z. Pick z P Q)
    (sym ends) x in
    record {
      code = ap (λ z. go_on z c2) h.code ∙ ap (go_on a.code) g.code;
      codes = λ k. hK k ∙ turn_cong (codes_in K1) a.codes (codes_in K2) b.codes h.codes g.codes k;
      signals = g.signals ∙ h.signals;
      args = g.args ∙ h.args;
      tallies = tallied_both T a b (sequence a f) b0.tallies.items b1.tallies.items b2.tallies.items h.tallies
          g.tallies
          (λ s. sym (cells-append s a.must b.must))
          (λ s. sym (ap (λ z. cells_of s (a.can ++ cond z b.can [])) ends ∙ cells-append s a.can b.can));
      raised = raised_weaker τ (SA × SB (is_end a.code)) (SA × Pick (a.codes 0) (SB (is_end a.code))
          (Unit {0}))
          (λ s n v. PA s n v ⊎ Pick (a.codes 0) (PB (is_end a.code) s n v) ⊥)
          (λ s n v. PA s n v ⊎ Pick (a.codes 0) (PB (is_end a.code) s n v) ⊥) b0.raised.items b2.raised.items
          (λ x. (x.0, pick (SB (is_end a.code)) (Unit {0}) x.1)) (λ s n v x. x)
          (raised_both τ SA (SB (is_end a.code)) PA (PB (is_end a.code))
          (λ s n v. PA s n v ⊎ Pick (a.codes 0) (PB (is_end a.code) s n v) ⊥) b0.raised.items
          b1.raised.items b2.raised.items (λ s n v x. inl x)
          (λ s n v x. inr (pick (PB (is_end a.code) s n v) ⊥ x)) h.raised g.raised);
    }

-- the second part cannot run
pub met_stop : (T : Table) (τ : Cells) (a : MustCan) (f : Index → MustCan) (SA : Type 0) (SB : Index → Type 0)
    (PA : PutAt) (PB : Index → PutAt) (c1 : Option ℕ) (K1 : List Bool) (b0 b1 : Pass) →
    MustWithinCan a → NothingSure (f Possible) → Met T τ a SA PA c1 K1 b0 b1 → codes_in K1 0 ≡ false →
    Met T τ (sequence a f) (SA × Pick (a.codes 0) (SB (is_end a.code)) (Unit {0}))
    (λ s n v. PA s n v ⊎ Pick (a.codes 0) (PB (is_end a.code) s n v) ⊥) c1 K1 b0 b1
met_stop T τ a f SA SB PA PB c1 K1 b0 b1 w q h e =
    let no : a.codes 0 ≡ false = sym (h.codes 0) ∙ e in
    let b = f (is_end a.code) in
    let none : b.must ≡ [] = ap (λ i. (f i).must) (end_known a.code a.codes w.code no) ∙ q.must in
    record {
      code = h.code ∙ sym (stays a.code b.code w.code no);
      codes = λ k. h.codes k ∙ sym (same_codes k no);
      signals = h.signals;
      args = h.args;
      tallies = tallied_same T a (sequence a f) b0.tallies.items b1.tallies.items h.tallies
          (λ s. sym (cells-append s a.must b.must ∙ ap (λ z. cells_of s a.must ++ cells_of s z) none ∙
          append-nil (cells_of s a.must)))
          (λ s. sym (cells-append s a.can (cond (a.codes 0) b.can []) ∙ ap
          (λ z. cells_of s a.can ++ cells_of s (cond z b.can [])) no ∙ append-nil (cells_of s a.can)));
      raised = raised_weaker τ SA (SA × Pick (a.codes 0) (SB (is_end a.code)) (Unit {0})) PA
          (λ s n v. PA s n v ⊎ Pick (a.codes 0) (PB (is_end a.code) s n v) ⊥) b0.raised.items b1.raised.items
          (λ x. (x, subst (λ z. Pick z (SB (is_end a.code)) (Unit {0})) (sym no) tt)) (λ s n v x. inl x)
          h.raised;
    }
  where
    stays : (x y : Option ℕ) → ((k : ℕ) → x ≡ Some k → a.codes k ≡ true) → a.codes 0 ≡ false → go_on x y ≡ x
    stays None y g z = refl
    stays (Some zero) y g z = let t : a.codes 0 ≡ true = g 0 refl in let u : true ≡ false = sym t ∙ z in cc
    stays (Some (suc k)) y g z = refl

    or_end : (x : Bool) → (x || false) ≡ x
    or_end true = refl
    or_end false = refl

    same_codes : (k : ℕ) → a.codes 0 ≡ false → in_turn a.codes (f (is_end a.code)).codes k ≡ a.codes k
    same_codes zero z = ap (λ x. x && (f (is_end a.code)).codes 0) z ∙ sym z
    same_codes (suc k) z = ap (λ x. a.codes (suc k) || (x && (f (is_end a.code)).codes (suc k))) z ∙ or_end
        (a.codes (suc k))

-- ---- two parts

pub met_parallel : (T : Table) (τ : Cells) (a b : MustCan) (SA SB : Type 0) (PA PB : PutAt) (c1 c2 : Option ℕ)
    (K1 K2 K : List Bool) (b0 b1 b2 : Pass) →
    Met T τ a SA PA c1 K1 b0 b1 → Met T τ b SB PB c2 K2 b1 b2 → Agrees K (greater_of (codes_in K1)
    (codes_in K2))
    →
    Met T τ (parallel a b) (SA × SB) (λ s n v. PA s n v ⊎ PB s n v) (greater c1 c2) K b0 b2
met_parallel T τ a b SA SB PA PB c1 c2 K1 K2 K b0 b1 b2 h g hK =
    record {
      code = ap (λ z. greater z c2) h.code ∙ ap (greater a.code) g.code;
      codes = λ k. hK k ∙ greater_cong (codes_in K1) a.codes (codes_in K2) b.codes h.codes g.codes k;
      signals = g.signals ∙ h.signals;
      args = g.args ∙ h.args;
      tallies = tallied_both T a b (parallel a b) b0.tallies.items b1.tallies.items b2.tallies.items h.tallies
          g.tallies (λ s. sym (cells-append s a.must b.must)) (λ s. sym (cells-append s a.can b.can));
      raised = raised_both τ SA SB PA PB (λ s n v. PA s n v ⊎ PB s n v) b0.raised.items b1.raised.items
          b2.raised.items (λ s n v x. inl x) (λ s n v x. inr x) h.raised g.raised;
    }

pub met_one_of : (T : Table) (τ : Cells) (a b : MustCan) (SA SB : Type 0) (PA PB : PutAt) (c1 c2 : Option ℕ)
    (K1 K2 K : List Bool) (b0 b1 b2 : Pass) →
    NothingSure a → NothingSure b → Met T τ a SA PA c1 K1 b0 b1 → Met T τ b SB PB c2 K2 b1 b2 → Agrees K
    (either (codes_in K1) (codes_in K2)) →
    Met T τ (one_of a b) (SA × SB) (λ s n v. PA s n v ⊎ PB s n v) None K b0 b2
met_one_of T τ a b SA SB PA PB c1 c2 K1 K2 K b0 b1 b2 qa qb h g hK =
    record {
      code = refl;
      codes = λ k. hK k ∙ or_cong (codes_in K1 k) (a.codes k) (codes_in K2 k) (b.codes k) (h.codes k)
          (g.codes k);
      signals = g.signals ∙ h.signals;
      args = g.args ∙ h.args;
      tallies = tallied_both T a b (one_of a b) b0.tallies.items b1.tallies.items b2.tallies.items h.tallies
          g.tallies (λ s. ap (λ z. cells_of s z ++ cells_of s b.must) qa.must ∙ ap (cells_of s) qb.must)
          (λ s. sym (cells-append s a.can b.can));
      raised = raised_both τ SA SB PA PB (λ s n v. PA s n v ⊎ PB s n v) b0.raised.items b1.raised.items
          b2.raised.items (λ s n v x. inl x) (λ s n v x. inr x) h.raised g.raised;
    }

lowered_cong : (K L : CodeSet) → ((c : ℕ) → K c ≡ L c) → (c : ℕ) → lowered K c ≡ lowered L c
lowered_cong K L h zero = or_cong (K 0) (L 0) (K 2) (L 2) (h 0) (h 2)
lowered_cong K L h (suc zero) = h 1
lowered_cong K L h (suc (suc c)) = h (suc (suc (suc c)))

pub met_trapped : (T : Table) (τ : Cells) (a : MustCan) (S : Type 0) (P : PutAt) (c1 : Option ℕ)
    (K1 K : List Bool)
    (b0 b1 : Pass) →
    Met T τ a S P c1 K1 b0 b1 → Agrees K (lowered (codes_in K1)) → Met T τ (trapped a) S P (lower_code c1) K
    b0 b1
met_trapped T τ a S P c1 K1 K b0 b1 h hK = record {
  code = ap lower_code h.code;
  codes = λ k. hK k ∙ lowered_cong (codes_in K1) a.codes h.codes k;
  signals = h.signals;
  args = h.args;
  tallies = record { count = h.tallies.count; adds = h.tallies.adds };
  raised = h.raised;
}

-- ---- tests

verdict_holds : (b : Bool) → cond b verdict.Holds verdict.Fails ≡ verdict.Holds → b ≡ true
verdict_holds true e = refl
verdict_holds false e = cc

verdict_fails : (b : Bool) → cond b verdict.Holds verdict.Fails ≡ verdict.Fails → b ≡ false
verdict_fails true e = cc
verdict_fails false e = refl

verdict_decided : (b : Bool) → cond b verdict.Holds verdict.Fails ≡ verdict.Undecided → ⊥
verdict_decided true e = cc
verdict_decided false e = cc

module _ (T : Table) (τ : Cells) (c1 : Option ℕ) (K1 : List Bool) (b0 b1 : Pass) where
  pub chosen_holds : (x : Cell) (i : Index) (p q : Index → MustCan) (SP SQ : Index → Type 0)
      (PP PQ : Index → PutAt) → tested x ≡ verdict.Holds → Met T τ (p i) (SP i) (PP i) c1 K1 b0 b1 → Met T τ
      (chosen x i p q) (ChosenAt x i SP SQ) (λ s n v. PutsChosen x i (λ j. PP j s n v) (λ j. PQ j s n v)) c1
      K1 b0 b1
  chosen_holds cell.Unknown i p q SP SQ PP PQ e h = cc
  chosen_holds (cell.Known u) i p q SP SQ PP PQ e h =
      let t : truth u ≡ true = verdict_holds (truth u) e in
      subst (λ z. Met T τ (cond z (p i) (q i)) (Pick z (SP i) (SQ i))
      (λ s n v. Pick z (PP i s n v) (PQ i s n v)) c1 K1 b0 b1) (sym t) h
  chosen_holds (cell.Faulted o k) i p q SP SQ PP PQ e h = cc

  pub chosen_fails : (x : Cell) (i : Index) (p q : Index → MustCan) (SP SQ : Index → Type 0)
      (PP PQ : Index → PutAt) → tested x ≡ verdict.Fails → Met T τ (q i) (SQ i) (PQ i) c1 K1 b0 b1 → Met T τ
      (chosen x i p q) (ChosenAt x i SP SQ) (λ s n v. PutsChosen x i (λ j. PP j s n v) (λ j. PQ j s n v)) c1
      K1 b0 b1
  chosen_fails cell.Unknown i p q SP SQ PP PQ e h = cc
  chosen_fails (cell.Known u) i p q SP SQ PP PQ e h =
      let t : truth u ≡ false = verdict_fails (truth u) e in
      subst (λ z. Met T τ (cond z (p i) (q i)) (Pick z (SP i) (SQ i))
      (λ s n v. Pick z (PP i s n v) (PQ i s n v)) c1 K1 b0 b1) (sym t) h
  chosen_fails (cell.Faulted o k) i p q SP SQ PP PQ e h = h

  pub chosen_open : (x : Cell) (i : Index) (p q : Index → MustCan) (SP SQ : Index → Type 0)
      (PP PQ : Index → PutAt) → tested x ≡ verdict.Undecided → Met T τ (one_of (p Possible) (q Possible))
      (SP Possible × SQ Possible) (λ s n v. PP Possible s n v ⊎ PQ Possible s n v) c1 K1 b0 b1 → Met T τ
      (chosen x i p q) (ChosenAt x i SP SQ) (λ s n v. PutsChosen x i (λ j. PP j s n v) (λ j. PQ j s n v)) c1
      K1 b0 b1
  chosen_open cell.Unknown i p q SP SQ PP PQ e h = h
  chosen_open (cell.Known u) i p q SP SQ PP PQ e h = absurd (verdict_decided (truth u) e)
  chosen_open (cell.Faulted o k) i p q SP SQ PP PQ e h = cc

  pub held_holds : (x : Cell) (i : Index) (p : Index → MustCan) (SP : Index → Type 0) (PP : Index → PutAt) →
      tested x ≡ verdict.Holds → Met T τ (gives [] 1 i) (Unit {0}) (λ s n v. ⊥) c1 K1 b0 b1 → Met T τ
      (held x i p)
      (HeldAt x i SP) (λ s n v. PutsHeld x i (λ j. PP j s n v)) c1 K1 b0 b1
  held_holds cell.Unknown i p SP PP e h = cc
  held_holds (cell.Known u) i p SP PP e h =
      let t : truth u ≡ true = verdict_holds (truth u) e in
      subst (λ z. Met T τ (cond z (gives [] 1 i) (p i)) (Pick z (Unit {0}) (SP i))
      (λ s n v. Pick z ⊥ (PP i s n v)) c1 K1 b0 b1) (sym t) h
  held_holds (cell.Faulted o k) i p SP PP e h = cc

  pub held_fails : (x : Cell) (i : Index) (p : Index → MustCan) (SP : Index → Type 0) (PP : Index → PutAt) →
      tested x ≡ verdict.Fails → Met T τ (p i) (SP i) (PP i) c1 K1 b0 b1 → Met T τ (held x i p)
      (HeldAt x i SP)
      (λ s n v. PutsHeld x i (λ j. PP j s n v)) c1 K1 b0 b1
  held_fails cell.Unknown i p SP PP e h = cc
  held_fails (cell.Known u) i p SP PP e h =
      let t : truth u ≡ false = verdict_fails (truth u) e in
      subst (λ z. Met T τ (cond z (gives [] 1 i) (p i)) (Pick z (Unit {0}) (SP i))
      (λ s n v. Pick z ⊥ (PP i s n v)) c1 K1 b0 b1) (sym t) h
  held_fails (cell.Faulted o k) i p SP PP e h = h

  pub held_open : (x : Cell) (i : Index) (p : Index → MustCan) (SP : Index → Type 0) (PP : Index → PutAt) →
      tested x ≡ verdict.Undecided → Met T τ (one_of (p Possible) (gives [] 1 Possible))
      (SP Possible × Unit {0}) (λ s n v. PP Possible s n v ⊎ ⊥) c1 K1 b0 b1 → Met T τ (held x i p)
      (HeldAt x i SP) (λ s n v. PutsHeld x i (λ j. PP j s n v)) c1 K1 b0 b1
  held_open cell.Unknown i p SP PP e h = record {
    code = h.code;
    codes = h.codes;
    signals = h.signals;
    args = h.args;
    tallies = h.tallies;
    raised = raised_weaker τ (SP Possible × Unit {0}) (SP Possible) (λ s n v. PP Possible s n v ⊎ ⊥)
        (λ s n v. PP Possible s n v) b0.raised.items b1.raised.items (λ z. z.0)
        (λ s n v z. ⊎_elim (λ y. y) (λ y. absurd y) z) h.raised;
  }
  held_open (cell.Known u) i p SP PP e h = absurd (verdict_decided (truth u) e)
  held_open (cell.Faulted o k) i p SP PP e h = cc

-- ---- a scope

some_same : {A : Type 0} (x y : A) → Some x ≡ Some y → x ≡ y
some_same x y e = cc

pub met_hide : (T : Table) (τ : Cells) (s l : ℕ) (c : SigCell) (a : MustCan) (S : Type 0) (P : PutAt)
    (end : Option ℕ)
    (K : List Bool) (outer : Outer) (b0 b1 b2 b3 : Pass) →
    s < length b0.cells.signals.items → s < length b0.tallies.items →
    (c.status, c.value) ≡ τ s l → Entered s c outer b0 b1 → Met T τ a S P end K b1 b2 → Left (T.kind s) s l
    outer b2 b3 →
    Met T τ (hide s a) ((raised T s c a ≡ c) × S)
    (λ r n v. ((r ≡ s) × (n ≡ l) × (v ≡ ((raised T s c a).status, (raised T s c a).value))) ⊎ P r n v) end
    K b0 b3
met_hide T τ s l c a S P end K outer b0 b1 b2 b3 ls lt tab en h le =
    record {
      code = h.code;
      codes = h.codes;
      signals = le.signals ∙ ap (λ z. set z s outer.cell) (h.signals ∙ en.signals) ∙ set_back
          b0.cells.signals.items s outer.cell c en.cell;
      args = le.args ∙ h.args ∙ en.args;
      tallies = record {
        count = ap length le.tallies ∙ length-set b2.tallies.items s outer.tally ∙ h.tallies.count ∙ ap length
            en.tallies ∙ length-set b0.tallies.items s en.fresh;
        adds = λ r t e. at_signal r t e (r == s) refl;
      };
      raised = at_end (le.raised (T.word s) (cells_of s a.must) (cells_of s a.can) counts);
    }
  where
    fresh_here : slice_get b1.tallies.items s ≡ Some en.fresh
    fresh_here = ap (λ z. slice_get z s) en.tallies ∙ set_here b0.tallies.items s en.fresh lt

    counts : le.tally ≡ tally_of (T.kind s) (T.word s) (cells_of s a.must) (cells_of s a.can)
    counts =
        let x = h.tallies.adds s en.fresh fresh_here in
        some_same le.tally x.0 (sym le.counted ∙ x.1) ∙ x.2.adds [] [] (en.none (T.kind s) (T.word s))

    here : le.cell ≡ c
    here = some_same le.cell c
        (sym le.here ∙ ap (λ z. slice_get z s) (h.signals ∙ en.signals) ∙ set_here b0.cells.signals.items s c
        ls)

    at_signal : (r : ℕ) (t : Tally) → slice_get b0.tallies.items r ≡ Some t → (b : Bool) → (r == s) ≡ b →
        (u : Tally) × (slice_get b3.tallies.items r ≡ Some u) × Adds (T.kind r) (T.word r) t u
        (cells_of r (without s a.must)) (cells_of r (without s a.can))
    at_signal r t e true q =
        let same : r ≡ s = eqb-true r s q in
        let lt2 : s < length b2.tallies.items = subst (λ n. s < n)
        (sym (h.tallies.count ∙ ap length en.tallies ∙ length-set b0.tallies.items s en.fresh)) lt in
        let back : slice_get b3.tallies.items s ≡ Some outer.tally = ap (λ z. slice_get z s) le.tallies ∙
        set_here b2.tallies.items s outer.tally lt2 in
        let old : outer.tally ≡ t = some_same outer.tally t
        (sym en.tally ∙ ap (slice_get b0.tallies.items) (sym same) ∙ e) in (
          t,
          ap (slice_get b3.tallies.items) same ∙ back ∙ ap Some old,
          adds_same (T.kind r) (T.word r) t t [] (cells_of r (without s a.must)) []
              (cells_of r (without s a.can))
              (sym (ap (λ n. cells_of n (without s a.must)) same ∙ cells-without-same s a.must))
              (sym (ap (λ n. cells_of n (without s a.can)) same ∙ cells-without-same s a.can))
              (nothing_adds (T.kind r) (T.word r) t),
        )
    at_signal r t e false q =
        let ne = eqb-false r s q in
        let in1 : slice_get b1.tallies.items r ≡ Some t = ap (λ z. slice_get z r) en.tallies ∙ set_other
        b0.tallies.items s r en.fresh ne ∙ e in
        let x = h.tallies.adds r t in1 in (
          x.0,
          ap (λ z. slice_get z r) le.tallies ∙ set_other b2.tallies.items s r outer.tally ne ∙ x.1,
          adds_same (T.kind r) (T.word r) t x.0 (cells_of r a.must) (cells_of r (without s a.must))
              (cells_of r a.can) (cells_of r (without s a.can)) (sym (cells-without-other r s a.must q))
              (sym (cells-without-other r s a.can q)) x.2,
        )

    R : SigCell
    R = raised T s c a

    Q : PutAt
    Q r n v = ((r ≡ s) × (n ≡ l) × (v ≡ (R.status, R.value))) ⊎ P r n v

    at_end :
        ((b3.raised.items ≡ b2.raised.items) ×
        (status_by (cells_of s a.must) (cells_of s a.can) ≡ le.cell.status) ×
        (value_by (T.kind s) (T.word s) le.cell.preval (cells_of s a.must) (cells_of s a.can) ≡
        le.cell.value))
        ⊎ ((r : Raise) × (b3.raised.items ≡ b2.raised.items ++ r ∷ []) × (r.signal ≡ s) × (r.level ≡ l) ×
        (r.known.status ≡ status_by (cells_of s a.must) (cells_of s a.can)) ×
        (r.known.value ≡ value_by (T.kind s) (T.word s) le.cell.preval (cells_of s a.must)
        (cells_of s a.can)) × (r.known.status ≡ le.cell.status → r.known.value ≡ le.cell.value → ⊥)) →
        Raised τ ((R ≡ c) × S) Q b0.raised.items b3.raised.items
    at_end (inl x) =
        let st : R.status ≡ c.status = x.1 ∙ ap (λ z. z.status) here in
        let va : R.value ≡ c.value = ap
        (λ z. value_by (T.kind s) (T.word s) z.preval (cells_of s a.must) (cells_of s a.can)) (sym here) ∙
        x.2 ∙ ap (λ z. z.value) here in
        let same : R ≡ c = ap
        (λ z. let y : SigCell = record { status = z; value = R.value; pre = c.pre; preval = c.preval } in
        y) st ∙ ap (λ z. let y : SigCell = record
        { status = c.status; value = z; pre = c.pre; preval = c.preval } in y) va in
        subst (λ z. Raised τ ((R ≡ c) × S) Q z b3.raised.items) en.raised
        (subst (λ z. Raised τ ((R ≡ c) × S) Q b1.raised.items z) (sym x.0)
        (raised_weaker τ S ((R ≡ c) × S) P Q b1.raised.items b2.raised.items (λ z. (same, z)) (λ r n v z. inr
        z)
        h.raised))
    at_end (inr x) =
        let r = x.0 in
        let st : r.known.status ≡ R.status = x.4 in
        let va : r.known.value ≡ R.value = x.5 ∙ ap
        (λ z. value_by (T.kind s) (T.word s) z.preval (cells_of s a.must) (cells_of s a.can)) here in
        let pair : (r.known.status, r.known.value) ≡ (R.status, R.value) = ap (λ z. (z, r.known.value)) st ∙
        ap (λ z. (R.status, z)) va in
        subst (λ z. Raised τ ((R ≡ c) × S) Q z b3.raised.items) en.raised
        (subst (λ z. Raised τ ((R ≡ c) × S) Q b1.raised.items z) (sym x.1)
        (record {
          news = h.raised.news ++ r ∷ [];
          is = ap (λ z. z ++ r ∷ []) h.raised.is ∙ append_assoc b1.raised.items h.raised.news (r ∷ []);
          put = all_both Q h.raised.news (r ∷ [])
              (all_weaker P Q (λ r n v z. inr z) h.raised.news h.raised.put) (inl (x.2, x.3, pair), tt);
          changes = all_both (λ s n v. v ≢ τ s n) h.raised.news (r ∷ []) h.raised.changes (
            λ e.
                let same : (r.known.status, r.known.value) ≡ (c.status, c.value) = e ∙ ap (τ r.signal) x.3 ∙
                ap
                (λ z. τ z l) x.2 ∙ sym tab in
                x.6 (ap (λ z. z.0) same ∙ ap (λ z. z.status) (sym here))
                (ap (λ z. z.1) same ∙ ap (λ z. z.value) (sym here)),
            tt,
          );
          still = λ e. let no : r ∷ [] ≡ [] = right_none h.raised.news (r ∷ []) e in cc;
        }))
