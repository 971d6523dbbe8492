-- The interface signals in a flat table.
use Rattle.std.proofs.Common.{◌≡◌, refl, sym, ap, subst, ◌∙◌, ℕ, Bool, true, false, cond, ◌==◌, List, [], ◌∷◌}
use Rattle.std.proofs.Common.{eqb-true, eq-eqb, ⊎_elim}
use Rattle.host_expr.specs.declared.cell.SigCell.{SigCell}
use Rattle.host_expr.specs.Environment.{Env, put, unsolved}
use Rattle.host_expr.specs.Knows.{EnvBelow, SignalBelow}
use Rattle.hh_term.specs.MustCan.{MustCan, Table, hide, raised, round}
use Rattle.hh_term.specs.Knows.{MustCanBelow, MustWithinCan}
use Rattle.status_table.specs.WholeProgram.{Contains, scopes, NotIn, Different, StandsAll, MovesAll}
use Rattle.hh_term.specs.Reaction.{Outer, nest, solved, solved_cell, with_given}
use Rattle.hh_term.proofs.Rounds.{Grows, hide_up, raised_up}
use Rattle.hh_term.proofs.WithinCan.{hide_within}
use Rattle.hh_term.proofs.Standstill.{two_rounds}
use Rattle.hh_term.proofs.Interface.{given_grows, given_up, given_within, nest_grows}

pub scopes_within : (os : List Outer) (a : MustCan) → MustWithinCan a → MustWithinCan (scopes os a)
scopes_within [] a h = h
scopes_within (o ∷ os) a h = hide_within o.signal (with_given o (scopes os a))
    (given_within o (scopes os a) (scopes_within os a h))

-- F knows all that E knows of the signals that are none of these
pub record Outside (os : List Outer) (E F : Env) : Type 0 where
  pub at : (t : ℕ) → NotIn t os → SignalBelow (E t) (F t)

pub put_below : (E F : Env) (o : Outer) (os : List Outer) (x : SigCell) → Outside (o ∷ os) E F → SignalBelow x
    (F o.signal) → Outside os (put E o.signal x) F
put_below E F o os x h g = record { at = λ t n. at_test t n (t == o.signal) refl }
  where
    at_test : (t : ℕ) → NotIn t os → (b : Bool) → (t == o.signal) ≡ b → SignalBelow
        (cond (t == o.signal) x (E t)) (F t)
    at_test t n true e =
        let same : t ≡ o.signal = eqb-true t o.signal e in
        subst (λ b. SignalBelow (cond b x (E t)) (F t)) (sym e)
        (subst (λ n. SignalBelow x (F n)) (sym same) g)
    at_test t n false e = subst (λ b. SignalBelow (cond b x (E t)) (F t)) (sym e) (h.at t (e, n))

module _ (T : Table) (p : Env → MustCan) (a : MustCan) (F : Env)
    (above : (E : Env) → EnvBelow E F → MustCanBelow (p E) a) (sound : MustWithinCan a) where
  solve_above : (o : Outer) (os : List Outer) (E : Env) → StandsAll T (o ∷ os) a F → Outside (o ∷ os) E F →
      ((x : SigCell) → SignalBelow x (F o.signal) → MustCanBelow (nest T os p (put E o.signal x))
      (scopes os a)) → SignalBelow (solved_cell T o (nest T os p) E) (F o.signal)
  solve_above o os E k h body =
      let s = o.signal in
      let q : Env → MustCan = λ G. with_given o (nest T os p G) in
      let up : (x : SigCell) → x.pre ≡ o.last.status → x.preval ≡ o.last.val → SignalBelow x (F s) →
      SignalBelow (round T s q E x) (F s) = λ x pb pv le. subst (SignalBelow (round T s q E x)) k.2
      (raised_up T s x (F s) (q (put E s x)) (with_given o (scopes os a)) (pb ∙ sym k.0) (pv ∙ sym k.1)
      (given_up o (nest T os p (put E s x)) (scopes os a) (body x le))
      (given_within o (scopes os a) (scopes_within os a sound))) in
      let c0 : SigCell = unsolved o.last.status o.last.val in
      up (round T s q E c0) refl refl
      (up c0 refl refl (record { status = tt; value = tt; pre = sym k.0; preval = sym k.1 }))

  nest_above : (os : List Outer) (E : Env) → StandsAll T os a F → Outside os E F → MustCanBelow
      (nest T os p E) (scopes os a)
  nest_above [] E k h = above E (record { at = λ t. h.at t tt })
  nest_above (o ∷ os) E k h =
      let x = solved_cell T o (nest T os p) E in
      let le = solve_above o os E k h (λ y l. nest_above os (put E o.signal y) k.3 (put_below E F o os y h l))
      in
      hide_up o.signal (with_given o (nest T os p (put E o.signal x))) (with_given o (scopes os a))
      (given_up o (nest T os p (put E o.signal x)) (scopes os a)
      (nest_above os (put E o.signal x) k.3 (put_below E F o os x h le)))

  -- the solved environment knows at most as much as the table
  pub solved_above : (os : List Outer) (E : Env) → StandsAll T os a F → Outside os E F → EnvBelow
      (solved T os p E) F
  solved_above [] E k h = record { at = λ t. h.at t tt }
  solved_above (o ∷ os) E k h =
      let x = solved_cell T o (nest T os p) E in
      let le = solve_above o os E k h (λ y l. nest_above os (put E o.signal y) k.3 (put_below E F o os y h l))
      in
      solved_above os (put E o.signal x) k.3 (put_below E F o os x h le)

-- what the nested scopes see is what the scopes see in the solved environment
pub nest_is : (T : Table) (os : List Outer) (p : Env → MustCan) (E : Env) → nest T os p E ≡ scopes os
    (p (solved T os p E))
nest_is T [] p E = refl
nest_is T (o ∷ os) p E = ap (λ a. hide o.signal (with_given o a))
    (nest_is T os p (put E o.signal (solved_cell T o (nest T os p) E)))

-- ---- the lower half: rounds keep the table within the solved environment

pub solved_other : (T : Table) (os : List Outer) (p : Env → MustCan) (E : Env) (s : ℕ) → NotIn s os → solved T
    os p E s ≡ E s
solved_other T [] p E s h = refl
solved_other T (o ∷ os) p E s h =
    let x = solved_cell T o (nest T os p) E in
    solved_other T os p (put E o.signal x) s h.1 ∙ ap (λ b. cond b x (E s)) h.0

pub put_here : (E : Env) (s : ℕ) (x : SigCell) → put E s x s ≡ x
put_here E s x = ap (λ b. cond b x (E s)) (eq-eqb s s refl)

-- the solved environment stands
pub solved_stands : (T : Table) (os : List Outer) (p : Env → MustCan) (E : Env) → Grows p p → Different os →
    StandsAll T os (p (solved T os p E)) (solved T os p E)
solved_stands T [] p E h d = tt
solved_stands T (o ∷ os) p E h d =
    let s = o.signal in
    let x : SigCell = solved_cell T o (nest T os p) E in
    let G : Env = solved T os p (put E s x) in
    let q : Env → MustCan = λ F. with_given o (nest T os p F) in
    let here : G s ≡ x = solved_other T os p (put E s x) s d.0 ∙ put_here E s x in
    let still : round T s q E x ≡ x = two_rounds T s q E o.last.status o.last.val
    (given_grows o (nest T os p) (nest_grows T os p h)) in
    let same : q (put E s x) ≡ with_given o (scopes os (p G)) = ap (with_given o) (nest_is T os p (put E s x))
    in (
      ap (λ c. c.pre) here,
      ap (λ c. c.preval) here,
      subst (λ y. raised T s y (with_given o (scopes os (p G))) ≡ y) (sym here)
          (subst (λ a. raised T s x a ≡ x) same still),
      solved_stands T os p (put E s x) h d.1,
    )

pub scopes_up : (os : List Outer) (a b : MustCan) → MustCanBelow a b → MustCanBelow (scopes os a)
    (scopes os b)
scopes_up [] a b h = h
scopes_up (o ∷ os) a b h = hide_up o.signal (with_given o (scopes os a)) (with_given o (scopes os b))
    (given_up o (scopes os a) (scopes os b) (scopes_up os a b h))

-- such a cell stays within a standing environment
pub moves_within : (T : Table) (os : List Outer) (a b : MustCan) (F F' G : Env) → MustCanBelow a b →
    MustWithinCan b → EnvBelow F G → StandsAll T os b G → MovesAll T os a F F' → (o : Outer) → Contains o os →
    SignalBelow (F' o.signal) (G o.signal)
moves_within T [] a b F F' G h s l k m o c = absurd c
moves_within T (u ∷ os) a b F F' G h s l k m o c =
    ⊎_elim
    (λ e. subst (λ y. SignalBelow (F' y.signal) (G y.signal)) (sym e) (⊎_elim
    (λ stay. subst (λ y. SignalBelow y (G u.signal)) (sym stay) (l.at u.signal))
    (λ took.
    let up = raised_up T u.signal (F u.signal) (G u.signal) (with_given u (scopes os a))
    (with_given u (scopes os b)) (l.at u.signal).pre (l.at u.signal).preval
    (given_up u (scopes os a) (scopes os b) (scopes_up os a b h))
    (given_within u (scopes os b) (scopes_within os b s)) in
    subst (λ y. SignalBelow y (G u.signal)) (sym took)
    (subst (SignalBelow (raised T u.signal (F u.signal) (with_given u (scopes os a)))) k.2 up))
    m.0))
    (λ r. moves_within T os a b F F' G h s l k.3 m.1 o r)
    c
