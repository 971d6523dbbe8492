-- The signals of the interface are concluded one after the other.
use Rattle.std.proofs.Common.{◌≡◌, ◌≢◌, refl, sym, ap, subst, ◌∙◌, ℕ, ◌+◌, ◌<◌, Bool, true, false, ◌⊎◌}
use Rattle.std.proofs.Common.{inl, inr, ⊎_elim, List, Some, length, slice_get, arith, get_or-set_same}
use Rattle.std.proofs.Common.{get_or-set_other, not, ◌||◌}
use Rattle.hh_base.specs.declared.value.Tri.{Tri}
use Rattle.hh_base.specs.declared.value.Kind.{Kind}
use Rattle.hh_base.specs.declared.value.Value.{Value}
use Rattle.status_table.specs.declared.tally.Known.{Known}
use Rattle.std.proofs.Math.ListN.{length-set}
use Rattle.std.proofs.lemmas.Bool.{cases_lt}
use Rattle.host_expr.specs.declared.cell.Cell.{Cell}
use Rattle.host_expr.specs.declared.cell.SigCell.{SigCell}
use Rattle.host_expr.specs.Environment.{env_of}
use Rattle.hh_term.specs.MustCan.{Table, status_by, value_by}
use Rattle.status_table.specs.declared.tally.Tally.{Tally}
use Rattle.status_table.specs.declared.state.Pass.{Pass}
use Rattle.status_table.specs.Tallies.{tally_of}
use Rattle.status_table.proofs.Reading.{set_here, set_other}
use Rattle.status_rounds.specs.Rounds.{solved_by, Concluded, Conclusions}

pub no_conclusions : (T : Table) (b : Pass) → Conclusions T 0 false b b
no_conclusions T b = record {
  args = refl;
  raised = refl;
  signals = refl;
  tallies = refl;
  solved = λ s t m d lt. absurd (omega (arith, lt));
  fresh = λ s lt. absurd (omega (arith, lt));
  others = λ s le. refl;
  waiting = λ s le. refl;
  same = λ e s. refl;
  other = λ e. cc;
}

abbrev cells_of_pass : Pass → List SigCell
cells_of_pass b = b.cells.signals.items

-- the flag that stays, or that rises where the cell changed
pub one_conclusion : (T : Table) (n : ℕ) (changed now after : Bool) (b0 b1 b2 : Pass) → n < length
    b0.cells.signals.items → n < length b0.tallies.items → Conclusions T n changed b0 b1 → Concluded T n now
    b1 b2
    → ((now ≡ true) × (after ≡ true)) ⊎ ((now ≡ false) × (after ≡ changed)) → Conclusions T (n + 1) after b0
    b2
one_conclusion T n changed now after b0 b1 b2 lc lt h g flag = record {
  args = g.args ∙ h.args;
  raised = g.raised ∙ h.raised;
  signals = ap length g.signals ∙ length-set (cells_of_pass b1) n g.cell ∙ h.signals;
  tallies = ap length g.tallies ∙ length-set b1.tallies.items n g.fresh ∙ h.tallies;
  solved = λ s t m d ls e q. ⊎_elim
      (λ below. other_cell s (λ z. absurd (omega (arith, z, below))) ∙ h.solved s t m d below e q)
      (λ le.
      let same : s ≡ n = omega (arith, ls, le) in
      let here : slice_get b1.tallies.items n ≡ Some t = h.waiting n (omega arith) ∙ ap
      (slice_get b0.tallies.items) (sym same) ∙ e in
      ap (env_of (cells_of_pass b2)) same ∙ this_cell ∙ g.solved t m d here
      (q ∙ ap (λ z. tally_of (T.kind z) (T.word z) m d) same) ∙ ap (λ z. solved_by T n z m d)
      (h.others n (omega arith)) ∙ ap (λ z. solved_by T z (env_of (cells_of_pass b0) z) m d) (sym same))
      (cases_lt s n);
  fresh = λ s ls. ⊎_elim
      (λ below. let f = h.fresh s below in record {
        tally = f.tally;
        here = ap (λ z. slice_get z s) g.tallies ∙ set_other b1.tallies.items n s g.fresh
            (λ z. absurd (omega (arith, z, below))) ∙ f.here;
        none = f.none;
      })
      (λ le.
      let same : s ≡ n = omega (arith, ls, le) in
      record {
        tally = g.fresh;
        here = ap (slice_get b2.tallies.items) same ∙ ap (λ z. slice_get z n) g.tallies ∙ set_here
            b1.tallies.items n g.fresh room;
        none = g.none;
      })
      (cases_lt s n);
  others = λ s le. other_cell s (λ z. absurd (omega (arith, z, le))) ∙ h.others s (omega (arith, le));
  waiting = λ s le. ap (λ z. slice_get z s) g.tallies ∙ set_other b1.tallies.items n s g.fresh
      (λ z. absurd (omega (arith, z, le))) ∙ h.waiting s (omega (arith, le));
  same = λ e s. ⊎_elim (λ f. let z : true ≡ false = sym f.1 ∙ e in cc)
      (λ f. ⊎_elim
      (λ here. ap (env_of (cells_of_pass b2)) here ∙ this_cell ∙ g.same f.0 ∙ h.same (sym f.1 ∙ e) n ∙ ap
      (env_of (cells_of_pass b0)) (sym here))
      (λ away. other_cell s away ∙ h.same (sym f.1 ∙ e) s) (same_or_other s n)) flag;
  other = λ e. ⊎_elim
      (λ f. (n, omega arith, λ q. g.other f.0 (sym this_cell ∙ q ∙ sym (h.others n (omega arith)))))
      (λ f. let r = h.other (sym f.1 ∙ e) in (
        r.0,
        omega (arith, r.1),
        λ q. r.2 (sym (other_cell r.0 (λ z. absurd (omega (arith, z, r.1)))) ∙ q),
      )) flag;
}
  where
    same_or_other : (s n : ℕ) → (s ≡ n) ⊎ (s ≢ n)
    same_or_other s n = ⊎_elim (λ lt. inr (λ z. absurd (omega (arith, z, lt))))
        (λ le. ⊎_elim (λ gt. inr (λ z. absurd (omega (arith, z, gt)))) (λ ge. inl (omega (arith, le, ge)))
        (cases_lt n s)) (cases_lt s n)

    room : n < length b1.tallies.items
    room = subst (λ k. n < k) (sym h.tallies) lt

    this_cell : env_of (cells_of_pass b2) n ≡ g.cell
    this_cell = ap (λ z. env_of z n) g.signals ∙ get_or-set_same (cells_of_pass b1) n g.cell _
        (subst (λ k. n < k) (sym h.signals) lc)

    other_cell : (s : ℕ) → s ≢ n → env_of (cells_of_pass b2) s ≡ env_of (cells_of_pass b1) s
    other_cell s away = ap (λ z. env_of z s) g.signals ∙ get_or-set_other (cells_of_pass b1) n s g.cell _ away

-- ---- one signal

pub not_false : (b : Bool) → not b ≡ false → b ≡ true
not_false true e = refl
not_false false e = cc

pub not_true : (b : Bool) → not b ≡ true → b ≡ true → ⊥
not_true true e f = cc
not_true false e f = cc

pub some_tally : (t u : Tally) → Some t ≡ Some u → t ≡ u
some_tally t u e = cc

abbrev pub cell_of : Tri → Cell → SigCell → SigCell
cell_of st va c = record { status = st; value = va; pre = c.pre; preval = c.preval }

pub known_cell : (c : SigCell) (k : Known) (v : Cell) → v ≡ c.value → k ≡ record {
  status = c.status;
  value =
      v;
} →
    cell_of k.status k.value c ≡ c
known_cell c k v e f = ap (λ z. cell_of z.status z.value c) f ∙ ap (λ z. cell_of c.status z c) e

pub cell_known : (c : SigCell) (k : Known) (v : Cell) → v ≡ c.value → cell_of k.status k.value c ≡ c → k ≡
    record
    { status = c.status; value = v }
cell_known c k v e f =
    ap (λ z. let r : Known = record { status = z.status; value = z.value } in r) f ∙ ap
    (λ z. let r : Known = record { status = c.status; value = z } in r) (sym e)

pub solved_cell : (T : Table) (s : ℕ) (c was : SigCell) (known : Known) (m d : List Cell) (k : Kind)
    (before : Value) → c ≡ was → k ≡ T.kind s → before ≡ was.preval → {t : Tally} →
    (t ≡ tally_of k (T.word s) m d → known.status ≡ status_by m d) →
    (t ≡ tally_of k (T.word s) m d → known.value ≡ value_by k (T.word s) before m d) → t ≡ tally_of (T.kind s)
    (T.word s) m d → cell_of known.status known.value was ≡ solved_by T s c m d
solved_cell T s c was known m d k before e f g h i q =
    let r = q ∙ ap (λ z. tally_of z (T.word s) m d) (sym f) in
    ap (λ z. cell_of z known.value was) (h r) ∙ ap (λ z. cell_of (status_by m d) z was)
    (i r ∙ ap (λ z. value_by z (T.word s) before m d) f ∙ ap (λ z. value_by (T.kind s) (T.word s) z m d) g) ∙
    ap
    (λ z. solved_by T s z m d) (sym e)

-- the flag after one more signal
pub flag_by : (changed now after : Bool) → after ≡ (changed || now) → ((now ≡ true) × (after ≡ true)) ⊎
    ((now ≡ false) × (after ≡ changed))
flag_by true true after e = inl (refl, e)
flag_by false true after e = inl (refl, e)
flag_by true false after e = inr (refl, e)
flag_by false false after e = inr (refl, e)
