-- A round of Solve: where the body knows more, its signal rises.
use Rattle.std.proofs.Common.{◌≡◌, refl, sym, ap, subst, ◌∙◌, ℕ, ◌≤◌, ◌<◌, Bool, true, false, cond, ◌&&◌}
use Rattle.std.proofs.Common.{eqb, Option, List, [], ◌∷◌, length, map, arith, eq-eqb, eqb-true}
use Rattle.hh_base.specs.declared.value.Kind.{Kind}
use Rattle.hh_base.specs.declared.value.CombineWord.{CombineWord}
use Rattle.hh_base.specs.declared.value.Value.{Value}
use Rattle.host_expr.specs.declared.cell.Cell.{Cell}
use Rattle.host_expr.specs.declared.cell.Cell.TheVariants as cell
use Rattle.host_expr.specs.declared.cell.SigCell.{SigCell}
use Rattle.host_expr.specs.Environment.{Env, put}
use Rattle.host_expr.specs.Combination.{combined, counts_as}
use Rattle.host_expr.specs.Knows.{TriBelow, CellBelow, SignalBelow, EnvBelow}
use Rattle.host_expr.proofs.Truths.{and_both, and_first, and_second}
use Rattle.hh_term.specs.MustCan.{Table, MustCan, cells_of, hide, status_by, all_known, value_by, raised}
use Rattle.hh_term.specs.MustCan.{round, solve, scoped}
use Rattle.hh_term.specs.Knows.{Embeds, ended, keep, skip, CellAbove, SameCell, MustCanBelow, MustWithinCan}
use Rattle.hh_term.proofs.Embedding.{sub_length, cells_sub, without_sub}

-- a list that is no longer than one of its lists, whose cells are known, is that list
same_if_known : {m n : List Cell} → Embeds CellBelow m n → length n ≤ length m → all_known m ≡ true → n ≡ m
same_if_known ended l k = refl
same_if_known (keep {x = cell.Unknown} r g) l k = cc
same_if_known (keep {x = cell.Known v} {ys = ys} r g) l k =
    ap (λ c. c ∷ ys) r ∙ ap (λ cs. cell.Known v ∷ cs) (same_if_known g (omega arith) k)
same_if_known (keep {x = cell.Faulted p f} {ys = ys} r g) l k =
    ap (λ c. c ∷ ys) r ∙ ap (λ cs. cell.Faulted p f ∷ cs) (same_if_known g (omega arith) k)
same_if_known (skip g) l k = let h = sub_length g in absurd (omega arith)

none_above : {A : Type 0} {R : A → A → Type 0} {xs : List A} → Embeds R xs [] → xs ≡ []
none_above ended = refl

some_above : {A : Type 0} {R : A → A → Type 0} {x : A} {xs ys : List A} → Embeds R (x ∷ xs) ys
    → (y : A) × (ys' : List A) × (ys ≡ y ∷ ys')
some_above (keep {y = y} {ys = ys} r g) = (y, ys, refl)
some_above (skip {y = y} {ys = ys} g) = (y, ys, refl)

status_up : (m c m' c' : List Cell) → Embeds CellBelow m m' → Embeds CellAbove c' c
    → Embeds SameCell m' c' → TriBelow (status_by m c) (status_by m' c')
status_up (x ∷ m) c m' c' h g s = let n = some_above h in ap (λ z. status_by z c') n.2
status_up [] [] m' c' h g s =
    let none : c' ≡ [] = none_above g in
    let t : Embeds SameCell m' [] = subst (λ z. Embeds SameCell m' z) none s in
    ap (λ z. status_by z c') (none_above t) ∙ ap (status_by []) none
status_up [] (x ∷ c) m' c' h g s = tt

value_full : (k : Kind) (word : Option CombineWord) (before : Value) (m c : List Cell) → 0 < length c
    → length m ≡ length c → all_known m ≡ true
    → value_by k word before m c ≡ cell.Known (combined k word (map (counts_as k) m))
value_full k word before m [] l e known = absurd (omega arith)
value_full k word before m (y ∷ c) l e known =
    ap (λ b. cond b (cell.Known (combined k word (map (counts_as k) m))) cell.Unknown)
    (and_both (eqb (length m) (length (y ∷ c))) (all_known m)
    (eq-eqb (length m) (length (y ∷ c)) e) known)

value_if_up : (b : Bool) (k : Kind) (word : Option CombineWord) (before : Value) (x : Cell)
    (m c m' c' : List Cell) → Embeds CellBelow m m' → Embeds CellAbove c' (x ∷ c) → Embeds SameCell m' c'
    → (eqb (length m) (length (x ∷ c)) && all_known m) ≡ b
    → CellBelow (cond b (cell.Known (combined k word (map (counts_as k) m))) cell.Unknown)
    (value_by k word before m' c')
value_if_up false k word before x m c m' c' h g s e = tt
value_if_up true k word before x m c m' c' h g s e =
    let n = eqb-true (length m) (length (x ∷ c))
    (and_first (eqb (length m) (length (x ∷ c))) (all_known m) e) in
    let known = and_second (eqb (length m) (length (x ∷ c))) (all_known m) e in
    let same : m' ≡ m = same_if_known h (omega (arith, sub_length g, sub_length s)) known in
    value_full k word before m' c' (omega (arith, sub_length h, sub_length s))
    (omega (arith, sub_length g, sub_length s, sub_length h))
    (subst (λ z. all_known z ≡ true) (sym same) known)
    ∙ ap (λ z. cell.Known (combined k word (map (counts_as k) z))) same

value_up : (k : Kind) (word : Option CombineWord) (before : Value) (m c m' c' : List Cell)
    → Embeds CellBelow m m' → Embeds CellAbove c' c → Embeds SameCell m' c'
    → CellBelow (value_by k word before m c) (value_by k word before m' c')
value_up k word before m [] m' c' h g s = ap (value_by k word before m') (none_above g)
value_up k word before m (x ∷ c) m' c' h g s =
    value_if_up (eqb (length m) (length (x ∷ c)) && all_known m) k word before x m c m' c' h g s refl

pub raised_up : (T : Table) (s : ℕ) (c d : SigCell) (a b : MustCan) → c.pre ≡ d.pre → c.preval ≡ d.preval
    → MustCanBelow a b → MustWithinCan b → SignalBelow (raised T s c a) (raised T s d b)
raised_up T s c d a b p v h g =
    let m = cells_sub CellBelow s h.must in
    let n = cells_sub CellAbove s h.can in
    let l = cells_sub SameCell s g.must in
    record {
      status = status_up (cells_of s a.must) (cells_of s a.can) (cells_of s b.must) (cells_of s b.can) m n l;
      value = subst
          (λ z. CellBelow (value_by (T.kind s) (T.word s) c.preval (cells_of s a.must) (cells_of s a.can))
          (value_by (T.kind s) (T.word s) z (cells_of s b.must) (cells_of s b.can))) v
          (value_up (T.kind s) (T.word s) c.preval (cells_of s a.must) (cells_of s a.can)
          (cells_of s b.must) (cells_of s b.can) m n l);
      pre = p;
      preval = v;
    }

-- a body at two environments
pub record Grows (p q : Env → MustCan) : Type 0 where
  pub up : (E F : Env) → EnvBelow E F → MustCanBelow (p E) (q F)
  pub within : (E : Env) → MustWithinCan (q E)

put_at : (b : Bool) (c d x y : SigCell) → SignalBelow c d → SignalBelow x y
    → SignalBelow (cond b c x) (cond b d y)
put_at true c d x y h g = h
put_at false c d x y h g = g

pub put_up : (E F : Env) (s : ℕ) (c d : SigCell) → EnvBelow E F → SignalBelow c d
    → EnvBelow (put E s c) (put F s d)
put_up E F s c d h g = record { at = λ t. put_at (eqb t s) c d (E t) (F t) g (h.at t) }

pub round_up : (T : Table) (s : ℕ) (p q : Env → MustCan) (E F : Env) (c d : SigCell) → Grows p q
    → EnvBelow E F → SignalBelow c d → SignalBelow (round T s p E c) (round T s q F d)
round_up T s p q E F c d h g l =
    raised_up T s c d (p (put E s c)) (q (put F s d)) l.pre l.preval
    (h.up (put E s c) (put F s d) (put_up E F s c d g l)) (h.within (put F s d))

pub solve_up : (T : Table) (s : ℕ) (p q : Env → MustCan) (E F : Env) (c d : SigCell) → Grows p q
    → EnvBelow E F → SignalBelow c d → SignalBelow (solve T s p E c) (solve T s q F d)
solve_up T s p q E F c d h g l =
    round_up T s p q E F (round T s p E c) (round T s q F d) h g (round_up T s p q E F c d h g l)

pub hide_up : (s : ℕ) (a b : MustCan) → MustCanBelow a b → MustCanBelow (hide s a) (hide s b)
hide_up s a b h =
    record {
      must = without_sub CellBelow s h.must;
      code = h.code;
      can = without_sub CellAbove s h.can;
      codes = h.codes;
    }

pub scoped_up : (T : Table) (s : ℕ) (p q : Env → MustCan) (E F : Env) (c d : SigCell) → Grows p q
    → EnvBelow E F → SignalBelow c d → MustCanBelow (scoped T s p E c) (scoped T s q F d)
scoped_up T s p q E F c d h g l =
    let c' = solve T s p E c in
    let d' = solve T s q F d in
    hide_up s (p (put E s c')) (q (put F s d'))
    (h.up (put E s c') (put F s d') (put_up E F s c' d' g (solve_up T s p q E F c d h g l)))
