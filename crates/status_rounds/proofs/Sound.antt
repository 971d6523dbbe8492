-- What rounds keep: they reach an environment and a table which the next round only raises.
use Rattle.std.proofs.Common.{◌≡◌, refl, sym, ap, subst, ◌∙◌, ℕ, Bool, true, false, cond, ◌==◌, List, [], ◌∷◌}
use Rattle.std.proofs.Common.{◌⊎◌, inl, inr, ⊎_elim, eqb-true, eq-eqb, arith}
use Rattle.hh_base.specs.declared.value.Tri.{Tri}
use Rattle.host_expr.specs.declared.cell.Cell.{Cell}
use Rattle.host_expr.specs.declared.cell.SigCell.{SigCell}
use Rattle.host_expr.specs.Environment.{Env, unsolved}
use Rattle.host_expr.specs.Knows.{EnvBelow, SignalBelow, TriBelow, CellBelow}
use Rattle.host_expr.proofs.Information.{signal_refl, tri_refl, cell_refl}
use Rattle.hh_term.specs.Statement.{Statement}
use Rattle.hh_term.specs.Selection.{Control, Fresh, At, Ended, Start, Resume}
use Rattle.hh_term.specs.MustCan.{Table, MustCan, Executed, raised}
use Rattle.hh_term.specs.Knows.{ended, MustCanBelow, MustWithinCan}
use Rattle.hh_term.specs.Reaction.{Outer, with_given}
use Rattle.hh_term.proofs.Rounds.{raised_up}
use Rattle.hh_term.proofs.Interface.{given_up, given_within}
use Rattle.status_table.specs.Flat.{Cells}
use Rattle.status_rounds.specs.Rounds.{ProgramPuts}
use Rattle.status_table.specs.Moving.{Unique, nothing_known}
use Rattle.status_table.specs.WholeProgram.{Contains, scopes, NotIn, Different, MovesAll, opened}
use Rattle.status_table.specs.WholeProgram.{program_flat}
use Rattle.status_table.specs.WholeProgram.{ProgramMoves, Reaches, begins, goes_on}
use Rattle.status_table.proofs.FlatLaws.{flat_fair}
use Rattle.status_table.proofs.Outers.{scopes_up, scopes_within}
use Rattle.status_table.proofs.Raising.{TableBelow, flat_up, Rising, puts_above, risen, rising_start, Above}
use Rattle.status_table.proofs.Raising.{signal_trans}
use Rattle.status_rounds.proofs.Interface.{swapped}
use Rattle.hh_base.specs.declared.value.Tri.TheVariants.{Unknown}
use Rattle.host_expr.specs.declared.cell.Cell.TheVariants as cell

abbrev ProgramRising : Table → Cells → Statement → Control → Env → Type 0
ProgramRising T τ p Fresh E = Rising T τ p 0 0 Start Executed E
ProgramRising T τ p (At m) E = Rising T τ p 0 0 (Resume m) Executed E
ProgramRising T τ p Ended E = Unit {0}

-- each interface cell is at most what a round makes of it
abbrev RisingAll : Table → List Outer → MustCan → Env → Type 0
RisingAll T [] a F = Unit {0}
RisingAll T (o ∷ os) a F =
    SignalBelow (F o.signal) (raised T o.signal (F o.signal) (with_given o (scopes os a))) × RisingAll T os a
    F

pub record Sound (T : Table) (os : List Outer) (p : Statement) (c : Control) (F : Env) (τ : Cells) : Type 0
  where
    pub reaches : Reaches T os p c F τ
    pub rising : ProgramRising T τ p c F
    pub interface : RisingAll T os (program_flat T τ p c F) F
    pub last : (o : Outer) → Contains o os → ((F o.signal).pre ≡ o.last.status) × ((F o.signal).preval ≡
        o.last.val)

-- ---- the parts of a program

program_up : (T : Table) (τ τ' : Cells) (p : Statement) (c : Control) (E F : Env) → EnvBelow E F → TableBelow
    τ
    τ' → MustCanBelow (program_flat T τ p c E) (program_flat T τ' p c F)
program_up T τ τ' p Fresh E F g z = flat_up T τ τ' p 0 0 Start Executed Executed E F refl g z
program_up T τ τ' p (At m) E F g z = flat_up T τ τ' p 0 0 (Resume m) Executed Executed E F refl g z
program_up T τ τ' p Ended E F g z = record { must = ended; code = tt; can = ended; codes = λ c e. e }

program_within : (T : Table) (τ : Cells) (p : Statement) (c : Control) (E : Env) → MustWithinCan
    (program_flat T τ p c E)
program_within T τ p Fresh E = (flat_fair T τ p 0 0 Start E).within Executed
program_within T τ p (At m) E = (flat_fair T τ p 0 0 (Resume m) E).within Executed
program_within T τ p Ended E = record { must = ended; code = λ c e. cc }

program_risen : (T : Table) (τ τ' : Cells) (p : Statement) (c : Control) (E F : Env) → EnvBelow E F →
    TableBelow
    τ τ' → Unique p → ProgramRising T τ p c E → ProgramMoves T τ τ' p c E → ProgramRising T τ' p c F
program_risen T τ τ' p Fresh E F g z u k m = risen T τ τ' p 0 0 Start Executed Executed E F refl g z
    (omega arith) u k m
program_risen T τ τ' p (At x) E F g z u k m = risen T τ τ' p 0 0 (Resume x) Executed Executed E F refl g z
    (omega arith) u k m
program_risen T τ τ' p Ended E F g z u k m = tt

program_start : (T : Table) (p : Statement) (c : Control) (E : Env) → ProgramRising T nothing_known p c E
program_start T p Fresh E = rising_start T p 0 0 Start Executed E
program_start T p (At m) E = rising_start T p 0 0 (Resume m) Executed E
program_start T p Ended E = tt

pub program_above : (T : Table) (τ : Cells) (p : Statement) (c : Control) (E : Env) (s n : ℕ) (v : Tri × Cell)
    →
    ProgramRising T τ p c E → ProgramPuts T τ p c E s n v → Above τ s n v
program_above T τ p Fresh E s n v k h = puts_above T τ p 0 0 Start Executed E s n v k h
program_above T τ p (At m) E s n v k h = puts_above T τ p 0 0 (Resume m) Executed E s n v k h
program_above T τ p Ended E s n v k h = absurd h

pub program_moves : (T : Table) (τ τ' : Cells) (p : Statement) (c : Control) (E : Env) →
    ((s n : ℕ) → (τ' s n ≡ τ s n) ⊎ ProgramPuts T τ p c E s n (τ' s n)) → ProgramMoves T τ τ' p c E
program_moves T τ τ' p Fresh E h = λ s n a lv. h s n
program_moves T τ τ' p (At m) E h = λ s n a lv. h s n
program_moves T τ τ' p Ended E h = tt

-- ---- the interface

contains_apart : (s : ℕ) (os : List Outer) (o : Outer) → NotIn s os → Contains o os → (s == o.signal) ≡ false
contains_apart s [] o n c = absurd c
contains_apart s (u ∷ os) o n (inl e) = ap (λ x. s == x.signal) e ∙ n.0
contains_apart s (u ∷ os) o n (inr c) = contains_apart s os o n.1 c

opened_last : (os : List Outer) → Different os → (o : Outer) → Contains o os →
    ((opened os o.signal).pre ≡ o.last.status) × ((opened os o.signal).preval ≡ o.last.val)
opened_last [] d o c = absurd c
opened_last (u ∷ os) d o (inl e) =
    let t : (o.signal == u.signal) ≡ true = eq-eqb o.signal u.signal (ap (λ x. x.signal) e) in (
      ap (λ b. (cond b (unsolved u.last.status u.last.val) (opened os o.signal)).pre) t ∙ ap
          (λ x. x.last.status)
          (sym e),
      ap (λ b. (cond b (unsolved u.last.status u.last.val) (opened os o.signal)).preval) t ∙ ap
          (λ x. x.last.val)
          (sym e),
    )
opened_last (u ∷ os) d o (inr c) =
    let f : (o.signal == u.signal) ≡ false = swapped u.signal o.signal (contains_apart u.signal os o d.0 c) in
    let r = opened_last os d.1 o c in (
      ap (λ b. (cond b (unsolved u.last.status u.last.val) (opened os o.signal)).pre) f ∙ r.0,
      ap (λ b. (cond b (unsolved u.last.status u.last.val) (opened os o.signal)).preval) f ∙ r.1,
    )

record Open (c : SigCell) : Type 0 where
  pub status : c.status ≡ Unknown
  pub value : c.value ≡ cell.Unknown

open_at : (b : Bool) (x y : SigCell) → Open x → Open y → Open (cond b x y)
open_at true x y h g = h
open_at false x y h g = g

opened_open : (os : List Outer) (s : ℕ) → Open (opened os s)
opened_open [] s = record { status = refl; value = refl }
opened_open (o ∷ os) s = open_at (s == o.signal) (unsolved o.last.status o.last.val) (opened os s)
    (record { status = refl; value = refl }) (opened_open os s)

open_below : (T : Table) (s : ℕ) (c : SigCell) (a : MustCan) → Open c → SignalBelow c (raised T s c a)
open_below T s c a h = record {
  status = subst (λ z. TriBelow z (raised T s c a).status) (sym h.status) tt;
  value = subst (λ z. CellBelow z (raised T s c a).value) (sym h.value) tt;
  pre = refl;
  preval = refl;
}

opened_rising : (T : Table) (us os : List Outer) (a : MustCan) → RisingAll T us a (opened os)
opened_rising T [] os a = tt
opened_rising T (o ∷ us) os a = (
  open_below T o.signal (opened os o.signal) (with_given o (scopes us a)) (opened_open os o.signal),
  opened_rising T us os a,
)

-- before the first round
pub sound_start : (T : Table) (os : List Outer) (p : Statement) (c : Control) → Different os → Sound T os p c
    (opened os) nothing_known
sound_start T os p c d = record {
  reaches = begins;
  rising = program_start T p c (opened os);
  interface = opened_rising T os os (program_flat T nothing_known p c (opened os));
  last = opened_last os d;
}

-- ---- one round

module _ (T : Table) (a a' : MustCan) (F F' : Env) where
  moved_below : (o : Outer) (os : List Outer) → SignalBelow (F o.signal)
      (raised T o.signal (F o.signal) (with_given o (scopes os a))) → (F' o.signal ≡ F o.signal) ⊎
      (F' o.signal ≡ raised T o.signal (F o.signal) (with_given o (scopes os a))) → SignalBelow (F o.signal)
      (F' o.signal)
  moved_below o os r (inl e) = subst (SignalBelow (F o.signal)) (sym e) (signal_refl (F o.signal))
  moved_below o os r (inr e) = subst (SignalBelow (F o.signal)) (sym e) r

  rises : (os : List Outer) → RisingAll T os a F → MovesAll T os a F F' → (s : ℕ) →
      (NotIn s os → SignalBelow (F s) (F' s)) → SignalBelow (F s) (F' s)
  rises [] r m s f = f tt
  rises (o ∷ os) r m s f = at_test (λ g. rises os r.1 m.1 s g) (s == o.signal) refl
    where
      at_test : ((NotIn s os → SignalBelow (F s) (F' s)) → SignalBelow (F s) (F' s)) → (b : Bool) →
          (s == o.signal) ≡ b → SignalBelow (F s) (F' s)
      at_test g true e = subst (λ z. SignalBelow (F z) (F' z)) (sym (eqb-true s o.signal e))
          (moved_below o os r.0 m.0)
      at_test g false e = g (λ n. f (e, n))

  interface_risen : (os : List Outer) → MustCanBelow a a' → MustWithinCan a' → RisingAll T os a F → MovesAll T
      os
      a F F' → RisingAll T os a' F'
  interface_risen [] h w r m = tt
  interface_risen (o ∷ os) h w r m = (at_move m.0, interface_risen os h w r.1 m.1)
    where
      s : ℕ
      s = o.signal

      below : SignalBelow (F o.signal) (F' o.signal)
      below = moved_below o os r.0 m.0

      up : SignalBelow (raised T o.signal (F o.signal) (with_given o (scopes os a)))
          (raised T o.signal (F' o.signal) (with_given o (scopes os a')))
      up = raised_up T o.signal (F o.signal) (F' o.signal) (with_given o (scopes os a))
          (with_given o (scopes os a')) below.pre below.preval
          (given_up o (scopes os a) (scopes os a') (scopes_up os a a' h))
          (given_within o (scopes os a') (scopes_within os a' w))

      at_move : (F' o.signal ≡ F o.signal) ⊎
          (F' o.signal ≡ raised T o.signal (F o.signal) (with_given o (scopes os a))) → SignalBelow
          (F' o.signal) (raised T o.signal (F' o.signal) (with_given o (scopes os a')))
      at_move (inl e) = subst
          (λ z. SignalBelow z (raised T o.signal (F' o.signal) (with_given o (scopes os a')))) (sym e)
          (signal_trans (F o.signal) (raised T o.signal (F o.signal) (with_given o (scopes os a)))
          (raised T o.signal (F' o.signal) (with_given o (scopes os a'))) r.0 up)
      at_move (inr e) = subst
          (λ z. SignalBelow z (raised T o.signal (F' o.signal) (with_given o (scopes os a')))) (sym e) up

pub record Onward (T : Table) (os : List Outer) (p : Statement) (c : Control) (F F' : Env) (τ τ' : Cells) :
    Type 0
  where
    pub sound : Sound T os p c F' τ'
    pub env : EnvBelow F F'
    pub table : TableBelow τ τ'

pub sound_round : (T : Table) (os : List Outer) (p : Statement) (c : Control) (F F' : Env) (τ τ' : Cells) →
    Unique p → Sound T os p c F τ → MovesAll T os (program_flat T τ p c F) F F' →
    ((s : ℕ) → NotIn s os → F' s ≡ F s) → ((s n : ℕ) → (τ' s n ≡ τ s n) ⊎ ProgramPuts T τ p c F s n (τ' s n))
    →
    Onward T os p c F F' τ τ'
sound_round T os p c F F' τ τ' u h m out mv =
    let a : MustCan = program_flat T τ p c F in
    let a' : MustCan = program_flat T τ' p c F' in
    let moves = program_moves T τ τ' p c F mv in
    let up : EnvBelow F F' = record {
      at = λ s. rises T a a' F F' os h.interface m s
          (λ n. subst (SignalBelow (F s)) (sym (out s n)) (signal_refl (F s)));
    } in
    let above : TableBelow τ τ' = record {
      at = λ s n. ⊎_elim (λ e. subst (Above τ s n) (sym e) (tri_refl (τ s n).0, cell_refl (τ s n).1))
          (λ y. program_above T τ p c F s n (τ' s n) h.rising y) (mv s n);
    } in
    record {
      sound = record {
        reaches = goes_on h.reaches m out moves;
        rising = program_risen T τ τ' p c F F' up above u h.rising moves;
        interface = interface_risen T a a' F F' os (program_up T τ τ' p c F F' up above)
            (program_within T τ' p c F') h.interface m;
        last = λ o k. let r = h.last o k in let b = up.at o.signal in (sym b.pre ∙ r.0, sym b.preval ∙ r.1);
      };
      env = up;
      table = above;
    }
