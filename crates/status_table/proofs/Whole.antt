-- A whole program: where rounds reach an environment and a table that no round changes, both are solved.
use Rattle.std.proofs.Common.{◌≡◌, refl, sym, ap, subst, ◌∙◌, ℕ, Bool, true, false, cond, ◌==◌, List}
use Rattle.std.proofs.Common.{[], ◌∷◌, eqb-true, eq-eqb, ◌⊎◌, inl, inr, arith}
use mathlib.Core.Path.{fun_ext}
use Rattle.host_expr.specs.Environment.{Env, blank, unsolved}
use Rattle.host_expr.specs.Knows.{EnvBelow, SignalBelow}
use Rattle.host_expr.proofs.Information.{signal_refl}
use Rattle.hh_term.specs.Statement.{Statement}
use Rattle.hh_term.specs.Selection.{Control, Fresh, At, Ended, Start, Resume}
use Rattle.hh_term.specs.MustCan.{Table, MustCan, Executed}
use Rattle.hh_term.specs.Knows.{ended, MustCanBelow, MustWithinCan}
use Rattle.hh_term.specs.Reaction.{Outer, solved, program_must_can, program_step, ran}
use Rattle.hh_term.proofs.Interface.{program_grows}
use Rattle.status_table.specs.Flat.{Cells}
use Rattle.status_table.specs.Moving.{Unique, nothing_known}
use Rattle.status_table.specs.WholeProgram.{Contains, NotIn, Different, StandsAll, opened}
use Rattle.status_table.specs.WholeProgram.{program_flat, ProgramStands, ProgramMoves, program_flat_step}
use Rattle.status_table.specs.WholeProgram.{Reaches, begins, goes_on}
use Rattle.status_table.specs.TableLaws.{ProgramIsSolved}
use Rattle.status_table.proofs.Bounding.{Bounded}
use Rattle.status_table.proofs.FlatLaws.{flat_fair, flat_above, flat_below}
use Rattle.status_table.proofs.Rounds.{kept, bounded_start}
use Rattle.status_table.proofs.FlatStepLaws.{sig_same, flat_step_is}
use Rattle.status_table.proofs.Outers.{Outside, solved_above, solved_other, solved_stands, moves_within}

abbrev ProgramBounded : Table → Cells → Statement → Control → Env → Type 0
ProgramBounded T τ p Fresh E = Bounded T τ p 0 0 Start Executed E
ProgramBounded T τ p (At m) E = Bounded T τ p 0 0 (Resume m) Executed E
ProgramBounded T τ p Ended E = Unit {0}

-- ---- the parts of a program

program_below : (T : Table) (τ : Cells) (p : Statement) (c : Control) (E F : Env) → EnvBelow E F →
    ProgramBounded T τ p c F → MustCanBelow (program_flat T τ p c E) (program_must_can T p c F)
program_below T τ p Fresh E F g k = flat_below T τ p 0 0 Start Executed Executed E F refl g k
program_below T τ p (At m) E F g k = flat_below T τ p 0 0 (Resume m) Executed Executed E F refl g k
program_below T τ p Ended E F g k = record { must = ended; code = tt; can = ended; codes = λ c e. e }

program_above : (T : Table) (τ : Cells) (p : Statement) (c : Control) (E F : Env) → EnvBelow E F →
    ProgramStands T τ p c F → MustCanBelow (program_must_can T p c E) (program_flat T τ p c F)
program_above T τ p Fresh E F g k = flat_above T τ p 0 0 Start Executed Executed E F refl g k
program_above T τ p (At m) E F g k = flat_above T τ p 0 0 (Resume m) Executed Executed E F refl g k
program_above T τ p Ended E F g k = record { must = ended; code = tt; can = ended; codes = λ c e. e }

program_within : (T : Table) (τ : Cells) (p : Statement) (c : Control) (E : Env) → MustWithinCan
    (program_flat T τ p c E)
program_within T τ p Fresh E = (flat_fair T τ p 0 0 Start E).within Executed
program_within T τ p (At m) E = (flat_fair T τ p 0 0 (Resume m) E).within Executed
program_within T τ p Ended E = record { must = ended; code = λ c e. cc }

program_kept : (T : Table) (τ τ' : Cells) (p : Statement) (c : Control) (E F : Env) → EnvBelow E F → Unique p
    → ProgramBounded T τ p c F → ProgramMoves T τ τ' p c E → ProgramBounded T τ' p c F
program_kept T τ τ' p Fresh E F g u k m = kept T τ τ' p 0 0 Start Executed Executed E F refl g (omega arith) u
    k m
program_kept T τ τ' p (At x) E F g u k m = kept T τ τ' p 0 0 (Resume x) Executed Executed E F refl g
    (omega arith) u k m
program_kept T τ τ' p Ended E F g u k m = tt

program_start : (T : Table) (p : Statement) (c : Control) (E : Env) → ProgramBounded T nothing_known p c E
program_start T p Fresh E = bounded_start T p 0 0 Start Executed E
program_start T p (At m) E = bounded_start T p 0 0 (Resume m) Executed E
program_start T p Ended E = tt

program_steps : (T : Table) (τ : Cells) (p : Statement) (c : Control) (E : Env) → ProgramStands T τ p c E →
    ProgramBounded T τ p c E → program_flat_step T τ p c E ≡ program_step T p c E
program_steps T τ p Fresh E h k = ap ran (flat_step_is T τ p 0 0 Start E h k)
program_steps T τ p (At m) E h k = ap ran (flat_step_is T τ p 0 0 (Resume m) E h k)
program_steps T τ p Ended E h k = refl

-- ---- the interface

in_or_not : (s : ℕ) (os : List Outer) → ((o : Outer) × Contains o os × (o.signal ≡ s)) ⊎ NotIn s os
in_or_not s [] = inr tt
in_or_not s (o ∷ os) = at_test (in_or_not s os) (s == o.signal) refl
  where
    at_test : ((u : Outer) × Contains u os × (u.signal ≡ s)) ⊎ NotIn s os → (b : Bool) → (s == o.signal) ≡ b →
        ((u : Outer) × Contains u (o ∷ os) × (u.signal ≡ s)) ⊎ NotIn s (o ∷ os)
    at_test r true e = inl (o, inl refl, sym (eqb-true s o.signal e))
    at_test (inl r) false e = inl (r.0, inr r.1, r.2)
    at_test (inr r) false e = inr (e, r)

opened_other : (os : List Outer) (s : ℕ) → NotIn s os → opened os s ≡ blank s
opened_other [] s h = refl
opened_other (o ∷ os) s h = ap (λ b. cond b (unsolved o.last.status o.last.val) (opened os s)) h.0 ∙
    opened_other os s h.1

-- what is opened is below an environment that stands
opened_at : (T : Table) (os : List Outer) (a : MustCan) (G : Env) → StandsAll T os a G → (o : Outer) →
    Contains o os → SignalBelow (opened os o.signal) (G o.signal)
opened_at T [] a G k o c = absurd c
opened_at T (u ∷ os) a G k o c = at_test (λ r. opened_at T os a G k.3 o r) c (o.signal == u.signal) refl
  where
    here : SignalBelow (unsolved u.last.status u.last.val) (G u.signal)
    here = record { status = tt; value = tt; pre = sym k.0; preval = sym k.1 }

    at_test : (Contains o os → SignalBelow (opened os o.signal) (G o.signal)) → (o ≡ u) ⊎ Contains o os →
        (b : Bool) → (o.signal == u.signal) ≡ b → SignalBelow
        (cond (o.signal == u.signal) (unsolved u.last.status u.last.val) (opened os o.signal)) (G o.signal)
    at_test f r true e =
        let same : o.signal ≡ u.signal = eqb-true o.signal u.signal e in
        subst (λ b. SignalBelow (cond b (unsolved u.last.status u.last.val) (opened os o.signal))
        (G o.signal)) (sym e)
        (subst (λ n. SignalBelow (unsolved u.last.status u.last.val) (G n)) (sym same) here)
    at_test f (inl x) false e = let y : (o.signal == u.signal) ≡ true = eq-eqb o.signal u.signal
        (ap (λ z. z.signal) x) in let z : true ≡ false = sym y ∙ e in cc
    at_test f (inr x) false e = subst
        (λ b. SignalBelow (cond b (unsolved u.last.status u.last.val) (opened os o.signal)) (G o.signal))
        (sym e) (f x)

-- ---- what rounds reach stays within what is solved

record Within (T : Table) (p : Statement) (c : Control) (G F : Env) (τ : Cells) : Type 0 where
  pub env : EnvBelow F G
  pub table : ProgramBounded T τ p c G

stays_outside : (T : Table) (os : List Outer) (p : Statement) (c : Control) (F : Env) (τ : Cells) → Reaches T
    os p c F τ → (s : ℕ) → NotIn s os → F s ≡ blank s
stays_outside T os p c F τ begins s n = opened_other os s n
stays_outside T os p c F τ (goes_on {F = F0} {τ = τ0} r m out mv) s n = out s n ∙ stays_outside T os p c F0 τ0
    r s n

reached_within : (T : Table) (os : List Outer) (p : Statement) (c : Control) (F : Env) (τ : Cells) → Unique p
    → Different os → Reaches T os p c F τ → Within T p c (solved T os (program_must_can T p c) blank) F τ
reached_within T os p c F τ u d begins = record
    { env = record { at = λ s. at_signal s (in_or_not s os) }; table = program_start T p c G }
  where
    G : Env
    G = solved T os (program_must_can T p c) blank

    at_signal : (s : ℕ) → ((o : Outer) × Contains o os × (o.signal ≡ s)) ⊎ NotIn s os → SignalBelow
        (opened os s) (G s)
    at_signal s (inl x) = subst (λ n. SignalBelow (opened os n) (G n)) x.2
        (opened_at T os (program_must_can T p c G) G
        (solved_stands T os (program_must_can T p c) blank (program_grows T p c) d) x.0 x.1)
    at_signal s (inr n) =
        subst (λ z. SignalBelow z (G s)) (sym (opened_other os s n))
        (subst (λ z. SignalBelow (blank s) z) (sym (solved_other T os (program_must_can T p c) blank s n))
        (signal_refl (blank s)))
reached_within T os p c F τ u d (goes_on {F = F0} {τ = τ0} r m out mv) = step_within
    (reached_within T os p c F0 τ0 u d r)
  where
    G : Env
    G = solved T os (program_must_can T p c) blank

    step_within : Within T p c G F0 τ0 → Within T p c G F τ
    step_within w = record {
      env = record { at = λ s. at_signal s (in_or_not s os) };
      table = program_kept T τ0 τ p c F0 G w.env
          u w.table mv;
    }
      where
        at_signal : (s : ℕ) → ((o : Outer) × Contains o os × (o.signal ≡ s)) ⊎ NotIn s os → SignalBelow (F s)
            (G s)
        at_signal s (inl x) =
            subst (λ n. SignalBelow (F n) (G n)) x.2
            (moves_within T os (program_flat T τ0 p c F0) (program_must_can T p c G) F0 F G
            (program_below T τ0 p c F0 G w.env w.table) ((program_grows T p c).within G) w.env
            (solved_stands T os (program_must_can T p c) blank (program_grows T p c) d) m x.0 x.1)
        at_signal s (inr n) = subst (λ z. SignalBelow z (G s)) (sym (out s n)) (w.env.at s)

pub program_is_solved : ProgramIsSolved
program_is_solved T os p c F τ u d r hi hp =
    let G : Env = solved T os (program_must_can T p c) blank in
    let w = reached_within T os p c F τ u d r in
    let outside : Outside os blank F = record {
      at = λ s n. subst (λ z. SignalBelow (blank s) z) (sym (stays_outside T os p c F τ r s n))
          (signal_refl (blank s));
    } in
    let up : EnvBelow G F = solved_above T (program_must_can T p c) (program_flat T τ p c F) F
    (λ E h. program_above T τ p c E F h hp) (program_within T τ p c F) os blank hi outside in
    let same : F ≡ G = fun_ext (λ s. sig_same (F s) (G s) (w.env.at s) (up.at s)) in
    (same, program_steps T τ p c F hp (subst (ProgramBounded T τ p c) (sym same) w.table))
