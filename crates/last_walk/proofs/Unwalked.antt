-- Where control rests in no part of the statement, a step is undefined.
use Rattle.std.proofs.Common.{◌≡◌, ℕ, None, refl, Box, Global}
use Rattle.host_expr.specs.Expression.{Expression}
use Rattle.hh_term.specs.declared.mark.AsyncMark.{AsyncMark}
use Rattle.hh_term.specs.declared.mark.Mark.{Mark}
use Rattle.hh_term.specs.declared.mark.Mark.TheVariants as mark
use Rattle.hh_base.specs.declared.value.Value.{Value}
use Rattle.std.proofs.Common.{Bool}
use Rattle.hh_term.specs.Statement.{Statement, If, Suspend, Seq, Par, Loop, Trap, Local, Async}
use Rattle.hh_term.specs.Selection.{Resume}
use Rattle.hh_term.specs.Views.{selection_of}
use Rattle.hh_term.specs.MustCan.{Table}
use Rattle.status_table.specs.Flat.{Cells}
use Rattle.last_walk.specs.declared.last_pass.LastPass.{LastPass}
use Rattle.last_walk.specs.LastWalk.{Walked}

module _ (T : Table) (τ : Cells) (d l : ℕ) (b0 b1 : LastPass) where
  pub async_unwalked : (z : ℕ) (m : Mark) → ((x : AsyncMark) → m ≡ mark.Async x → ⊥) → Walked T τ (Async z) d l (Resume (selection_of m)) None b0 b1
  async_unwalked z mark.Pause h0 = tt
  async_unwalked z (mark.Async a) h0 = absurd (h0 a refl)
  async_unwalked z (mark.First' x n) h0 = tt
  async_unwalked z (mark.Second' x n) h0 = tt
  async_unwalked z (mark.Both' x n y k) h0 = tt
  async_unwalked z (mark.Inside' x n) h0 = tt
  async_unwalked z (mark.Local' x n u v) h0 = tt

  pub if_unwalked : (z : Expression) (p q : Statement) (m : Mark) →
      ((x : Box Mark Global) → m ≡ mark.First x → ⊥) → ((x : Box Mark Global) → m ≡ mark.Second x → ⊥) →
      Walked T τ (If z p q) d l (Resume (selection_of m)) None b0 b1
  if_unwalked z p q mark.Pause h0 h1 = tt
  if_unwalked z p q (mark.Async a) h0 h1 = tt
  if_unwalked z p q (mark.First' x n) h0 h1 = absurd
      (h0 (record { ptr = x.ptr; alloc = x.alloc; value = n }) refl)
  if_unwalked z p q (mark.Second' x n) h0 h1 = absurd
      (h1 (record { ptr = x.ptr; alloc = x.alloc; value = n }) refl)
  if_unwalked z p q (mark.Both' x n y k) h0 h1 = tt
  if_unwalked z p q (mark.Inside' x n) h0 h1 = tt
  if_unwalked z p q (mark.Local' x n u v) h0 h1 = tt

  pub suspend_unwalked : (z : Expression) (p : Statement) (m : Mark) →
      ((x : Box Mark Global) → m ≡ mark.Inside x → ⊥) → Walked T τ (Suspend z p) d l (Resume (selection_of m)) None b0 b1
  suspend_unwalked z p mark.Pause h0 = tt
  suspend_unwalked z p (mark.Async a) h0 = tt
  suspend_unwalked z p (mark.First' x n) h0 = tt
  suspend_unwalked z p (mark.Second' x n) h0 = tt
  suspend_unwalked z p (mark.Both' x n y k) h0 = tt
  suspend_unwalked z p (mark.Inside' x n) h0 = absurd
      (h0 (record { ptr = x.ptr; alloc = x.alloc; value = n }) refl)
  suspend_unwalked z p (mark.Local' x n u v) h0 = tt

  pub seq_unwalked : (p q : Statement) (m : Mark) → ((x : Box Mark Global) → m ≡ mark.First x → ⊥) →
      ((x : Box Mark Global) → m ≡ mark.Second x → ⊥) → Walked T τ (Seq p q) d l (Resume (selection_of m)) None b0 b1
  seq_unwalked p q mark.Pause h0 h1 = tt
  seq_unwalked p q (mark.Async a) h0 h1 = tt
  seq_unwalked p q (mark.First' x n) h0 h1 = absurd
      (h0 (record { ptr = x.ptr; alloc = x.alloc; value = n }) refl)
  seq_unwalked p q (mark.Second' x n) h0 h1 = absurd
      (h1 (record { ptr = x.ptr; alloc = x.alloc; value = n }) refl)
  seq_unwalked p q (mark.Both' x n y k) h0 h1 = tt
  seq_unwalked p q (mark.Inside' x n) h0 h1 = tt
  seq_unwalked p q (mark.Local' x n u v) h0 h1 = tt

  pub par_unwalked : (p q : Statement) (m : Mark) → ((x : Box Mark Global) → m ≡ mark.First x → ⊥) →
      ((x : Box Mark Global) → m ≡ mark.Second x → ⊥) →
      ((x : Box Mark Global) (y : Box Mark Global) → m ≡ mark.Both x y → ⊥) → Walked T τ (Par p q) d l (Resume (selection_of m)) None b0 b1
  par_unwalked p q mark.Pause h0 h1 h2 = tt
  par_unwalked p q (mark.Async a) h0 h1 h2 = tt
  par_unwalked p q (mark.First' x n) h0 h1 h2 = absurd
      (h0 (record { ptr = x.ptr; alloc = x.alloc; value = n }) refl)
  par_unwalked p q (mark.Second' x n) h0 h1 h2 = absurd
      (h1 (record { ptr = x.ptr; alloc = x.alloc; value = n }) refl)
  par_unwalked p q (mark.Both' x n y k) h0 h1 h2 = absurd
      (h2 (record { ptr = x.ptr; alloc = x.alloc; value = n })
      (record { ptr = y.ptr; alloc = y.alloc; value = k }) refl)
  par_unwalked p q (mark.Inside' x n) h0 h1 h2 = tt
  par_unwalked p q (mark.Local' x n u v) h0 h1 h2 = tt

  pub loop_unwalked : (p : Statement) (m : Mark) → ((x : Box Mark Global) → m ≡ mark.Inside x → ⊥) → Walked T τ (Loop p) d l (Resume (selection_of m)) None b0 b1
  loop_unwalked p mark.Pause h0 = tt
  loop_unwalked p (mark.Async a) h0 = tt
  loop_unwalked p (mark.First' x n) h0 = tt
  loop_unwalked p (mark.Second' x n) h0 = tt
  loop_unwalked p (mark.Both' x n y k) h0 = tt
  loop_unwalked p (mark.Inside' x n) h0 = absurd (h0 (record { ptr = x.ptr; alloc = x.alloc; value = n }) refl)
  loop_unwalked p (mark.Local' x n u v) h0 = tt

  pub trap_unwalked : (p : Statement) (m : Mark) → ((x : Box Mark Global) → m ≡ mark.Inside x → ⊥) → Walked T τ (Trap p) d l (Resume (selection_of m)) None b0 b1
  trap_unwalked p mark.Pause h0 = tt
  trap_unwalked p (mark.Async a) h0 = tt
  trap_unwalked p (mark.First' x n) h0 = tt
  trap_unwalked p (mark.Second' x n) h0 = tt
  trap_unwalked p (mark.Both' x n y k) h0 = tt
  trap_unwalked p (mark.Inside' x n) h0 = absurd (h0 (record { ptr = x.ptr; alloc = x.alloc; value = n }) refl)
  trap_unwalked p (mark.Local' x n u v) h0 = tt

  pub local_unwalked : (z : ℕ) (p : Statement) (m : Mark) →
      ((x : Box Mark Global) (y : Bool) (v : Value) → m ≡ mark.Local x y v → ⊥) → Walked T τ (Local z p) d l (Resume (selection_of m)) None b0 b1
  local_unwalked z p mark.Pause h0 = tt
  local_unwalked z p (mark.Async a) h0 = tt
  local_unwalked z p (mark.First' x n) h0 = tt
  local_unwalked z p (mark.Second' x n) h0 = tt
  local_unwalked z p (mark.Both' x n y k) h0 = tt
  local_unwalked z p (mark.Inside' x n) h0 = tt
  local_unwalked z p (mark.Local' x n u v) h0 = absurd
      (h0 (record { ptr = x.ptr; alloc = x.alloc; value = n }) u v refl)
