-- Where control rests in no part of the statement, a resumed statement ends.
use Rattle.std.proofs.Common.{◌≡◌, ℕ, Bool, Option, List, refl, Box, Global, []}
use Rattle.hh_base.specs.declared.value.Value.{Value}
use Rattle.host_expr.specs.Expression.{Expression}
use Rattle.hh_term.specs.declared.mark.AsyncMark.{AsyncMark}
use Rattle.hh_term.specs.declared.mark.Mark.{Mark}
use Rattle.hh_term.specs.declared.mark.Mark.TheVariants as mark
use Rattle.hh_term.specs.Statement.{Statement, If, Suspend, Seq, Par, Loop, Trap, Local, Async}
use Rattle.hh_term.specs.Selection.{Resume}
use Rattle.hh_term.specs.Views.{selection_of}
use Rattle.hh_term.specs.Codes.{only}
use Rattle.hh_term.specs.Flags.{Agrees}
use Rattle.hh_term.specs.MustCan.{Table}
use Rattle.status_table.specs.declared.state.Pass.{Pass}
use Rattle.status_table.specs.Flat.{Cells}
use Rattle.status_table.specs.Walking.{index_of, code_of, Visited}
use Rattle.status_table.proofs.Meeting.{met_leaf, counted_none}

module _ (T : Table) (τ : Cells) (d l : ℕ) (sure : Bool) (c : Option ℕ) (K : List Bool) (b : Pass)
    (e : c ≡ code_of 0 sure) (g : Agrees K (only 0)) where
  pub async_unmet : (z : ℕ) (m : Mark) → ((x : AsyncMark) → m ≡ mark.Async x → ⊥) → Visited T τ (Async z) d l
      (Resume (selection_of m)) sure c K b b
  async_unmet z mark.Pause h0 = met_leaf T τ [] 0 (λ s n v. ⊥) sure c K b b (counted_none T 0 (index_of sure)
      b)
      e g
  async_unmet z (mark.Async a) h0 = absurd (h0 a refl)
  async_unmet z (mark.First' x n) h0 = met_leaf T τ [] 0 (λ s n v. ⊥) sure c K b b
      (counted_none T 0 (index_of sure) b) e g
  async_unmet z (mark.Second' x n) h0 = met_leaf T τ [] 0 (λ s n v. ⊥) sure c K b b
      (counted_none T 0 (index_of sure) b) e g
  async_unmet z (mark.Both' x n y k) h0 = met_leaf T τ [] 0 (λ s n v. ⊥) sure c K b b
      (counted_none T 0 (index_of sure) b) e g
  async_unmet z (mark.Inside' x n) h0 = met_leaf T τ [] 0 (λ s n v. ⊥) sure c K b b
      (counted_none T 0 (index_of sure) b) e g
  async_unmet z (mark.Local' x n u v) h0 = met_leaf T τ [] 0 (λ s n v. ⊥) sure c K b b
      (counted_none T 0 (index_of sure) b) e g

  pub if_unmet : (z : Expression) (p q : Statement) (m : Mark) →
      ((x : Box Mark Global) → m ≡ mark.First x → ⊥) → ((x : Box Mark Global) → m ≡ mark.Second x → ⊥) →
      Visited T τ (If z p q) d l (Resume (selection_of m)) sure c K b b
  if_unmet z p q mark.Pause h0 h1 = met_leaf T τ [] 0 (λ s n v. ⊥) sure c K b b
      (counted_none T 0 (index_of sure) b) e g
  if_unmet z p q (mark.Async a) h0 h1 = met_leaf T τ [] 0 (λ s n v. ⊥) sure c K b b
      (counted_none T 0 (index_of sure) b) e g
  if_unmet z p q (mark.First' x n) h0 h1 = absurd
      (h0 (record { ptr = x.ptr; alloc = x.alloc; value = n }) refl)
  if_unmet z p q (mark.Second' x n) h0 h1 = absurd
      (h1 (record { ptr = x.ptr; alloc = x.alloc; value = n }) refl)
  if_unmet z p q (mark.Both' x n y k) h0 h1 = met_leaf T τ [] 0 (λ s n v. ⊥) sure c K b b
      (counted_none T 0 (index_of sure) b) e g
  if_unmet z p q (mark.Inside' x n) h0 h1 = met_leaf T τ [] 0 (λ s n v. ⊥) sure c K b b
      (counted_none T 0 (index_of sure) b) e g
  if_unmet z p q (mark.Local' x n u v) h0 h1 = met_leaf T τ [] 0 (λ s n v. ⊥) sure c K b b
      (counted_none T 0 (index_of sure) b) e g

  pub suspend_unmet : (z : Expression) (p : Statement) (m : Mark) →
      ((x : Box Mark Global) → m ≡ mark.Inside x → ⊥) → Visited T τ (Suspend z p) d l
      (Resume (selection_of m)) sure c K b b
  suspend_unmet z p mark.Pause h0 = met_leaf T τ [] 0 (λ s n v. ⊥) sure c K b b
      (counted_none T 0 (index_of sure) b) e g
  suspend_unmet z p (mark.Async a) h0 = met_leaf T τ [] 0 (λ s n v. ⊥) sure c K b b
      (counted_none T 0 (index_of sure) b) e g
  suspend_unmet z p (mark.First' x n) h0 = met_leaf T τ [] 0 (λ s n v. ⊥) sure c K b b
      (counted_none T 0 (index_of sure) b) e g
  suspend_unmet z p (mark.Second' x n) h0 = met_leaf T τ [] 0 (λ s n v. ⊥) sure c K b b
      (counted_none T 0 (index_of sure) b) e g
  suspend_unmet z p (mark.Both' x n y k) h0 = met_leaf T τ [] 0 (λ s n v. ⊥) sure c K b b
      (counted_none T 0 (index_of sure) b) e g
  suspend_unmet z p (mark.Inside' x n) h0 = absurd
      (h0 (record { ptr = x.ptr; alloc = x.alloc; value = n }) refl)
  suspend_unmet z p (mark.Local' x n u v) h0 = met_leaf T τ [] 0 (λ s n v. ⊥) sure c K b b
      (counted_none T 0 (index_of sure) b) e g

  pub seq_unmet : (p q : Statement) (m : Mark) → ((x : Box Mark Global) → m ≡ mark.First x → ⊥) →
      ((x : Box Mark Global) → m ≡ mark.Second x → ⊥) → Visited T τ (Seq p q) d l (Resume (selection_of m))
      sure c K b b
  seq_unmet p q mark.Pause h0 h1 = met_leaf T τ [] 0 (λ s n v. ⊥) sure c K b b
      (counted_none T 0 (index_of sure) b) e g
  seq_unmet p q (mark.Async a) h0 h1 = met_leaf T τ [] 0 (λ s n v. ⊥) sure c K b b
      (counted_none T 0 (index_of sure) b) e g
  seq_unmet p q (mark.First' x n) h0 h1 = absurd
      (h0 (record { ptr = x.ptr; alloc = x.alloc; value = n }) refl)
  seq_unmet p q (mark.Second' x n) h0 h1 = absurd
      (h1 (record { ptr = x.ptr; alloc = x.alloc; value = n }) refl)
  seq_unmet p q (mark.Both' x n y k) h0 h1 = met_leaf T τ [] 0 (λ s n v. ⊥) sure c K b b
      (counted_none T 0 (index_of sure) b) e g
  seq_unmet p q (mark.Inside' x n) h0 h1 = met_leaf T τ [] 0 (λ s n v. ⊥) sure c K b b
      (counted_none T 0 (index_of sure) b) e g
  seq_unmet p q (mark.Local' x n u v) h0 h1 = met_leaf T τ [] 0 (λ s n v. ⊥) sure c K b b
      (counted_none T 0 (index_of sure) b) e g

  pub par_unmet : (p q : Statement) (m : Mark) → ((x : Box Mark Global) → m ≡ mark.First x → ⊥) →
      ((x : Box Mark Global) → m ≡ mark.Second x → ⊥) →
      ((x : Box Mark Global) (y : Box Mark Global) → m ≡ mark.Both x y → ⊥) → Visited T τ (Par p q) d l
      (Resume (selection_of m)) sure c K b b
  par_unmet p q mark.Pause h0 h1 h2 = met_leaf T τ [] 0 (λ s n v. ⊥) sure c K b b
      (counted_none T 0 (index_of sure) b) e g
  par_unmet p q (mark.Async a) h0 h1 h2 = met_leaf T τ [] 0 (λ s n v. ⊥) sure c K b b
      (counted_none T 0 (index_of sure) b) e g
  par_unmet p q (mark.First' x n) h0 h1 h2 = absurd
      (h0 (record { ptr = x.ptr; alloc = x.alloc; value = n }) refl)
  par_unmet p q (mark.Second' x n) h0 h1 h2 = absurd
      (h1 (record { ptr = x.ptr; alloc = x.alloc; value = n }) refl)
  par_unmet p q (mark.Both' x n y k) h0 h1 h2 = absurd
      (h2 (record { ptr = x.ptr; alloc = x.alloc; value = n })
      (record { ptr = y.ptr; alloc = y.alloc; value = k }) refl)
  par_unmet p q (mark.Inside' x n) h0 h1 h2 = met_leaf T τ [] 0 (λ s n v. ⊥) sure c K b b
      (counted_none T 0 (index_of sure) b) e g
  par_unmet p q (mark.Local' x n u v) h0 h1 h2 = met_leaf T τ [] 0 (λ s n v. ⊥) sure c K b b
      (counted_none T 0 (index_of sure) b) e g

  pub loop_unmet : (p : Statement) (m : Mark) → ((x : Box Mark Global) → m ≡ mark.Inside x → ⊥) → Visited T τ
      (Loop p) d l (Resume (selection_of m)) sure c K b b
  loop_unmet p mark.Pause h0 = met_leaf T τ [] 0 (λ s n v. ⊥) sure c K b b (counted_none T 0 (index_of sure)
      b)
      e g
  loop_unmet p (mark.Async a) h0 = met_leaf T τ [] 0 (λ s n v. ⊥) sure c K b b
      (counted_none T 0 (index_of sure) b) e g
  loop_unmet p (mark.First' x n) h0 = met_leaf T τ [] 0 (λ s n v. ⊥) sure c K b b
      (counted_none T 0 (index_of sure) b) e g
  loop_unmet p (mark.Second' x n) h0 = met_leaf T τ [] 0 (λ s n v. ⊥) sure c K b b
      (counted_none T 0 (index_of sure) b) e g
  loop_unmet p (mark.Both' x n y k) h0 = met_leaf T τ [] 0 (λ s n v. ⊥) sure c K b b
      (counted_none T 0 (index_of sure) b) e g
  loop_unmet p (mark.Inside' x n) h0 = absurd (h0 (record { ptr = x.ptr; alloc = x.alloc; value = n }) refl)
  loop_unmet p (mark.Local' x n u v) h0 = met_leaf T τ [] 0 (λ s n v. ⊥) sure c K b b
      (counted_none T 0 (index_of sure) b) e g

  pub trap_unmet : (p : Statement) (m : Mark) → ((x : Box Mark Global) → m ≡ mark.Inside x → ⊥) → Visited T τ
      (Trap p) d l (Resume (selection_of m)) sure c K b b
  trap_unmet p mark.Pause h0 = met_leaf T τ [] 0 (λ s n v. ⊥) sure c K b b (counted_none T 0 (index_of sure)
      b)
      e g
  trap_unmet p (mark.Async a) h0 = met_leaf T τ [] 0 (λ s n v. ⊥) sure c K b b
      (counted_none T 0 (index_of sure) b) e g
  trap_unmet p (mark.First' x n) h0 = met_leaf T τ [] 0 (λ s n v. ⊥) sure c K b b
      (counted_none T 0 (index_of sure) b) e g
  trap_unmet p (mark.Second' x n) h0 = met_leaf T τ [] 0 (λ s n v. ⊥) sure c K b b
      (counted_none T 0 (index_of sure) b) e g
  trap_unmet p (mark.Both' x n y k) h0 = met_leaf T τ [] 0 (λ s n v. ⊥) sure c K b b
      (counted_none T 0 (index_of sure) b) e g
  trap_unmet p (mark.Inside' x n) h0 = absurd (h0 (record { ptr = x.ptr; alloc = x.alloc; value = n }) refl)
  trap_unmet p (mark.Local' x n u v) h0 = met_leaf T τ [] 0 (λ s n v. ⊥) sure c K b b
      (counted_none T 0 (index_of sure) b) e g

  pub local_unmet : (z : ℕ) (p : Statement) (m : Mark) →
      ((x : Box Mark Global) (y : Bool) (v : Value) → m ≡ mark.Local x y v → ⊥) → Visited T τ (Local z p) d l
      (Resume (selection_of m)) sure c K b b
  local_unmet z p mark.Pause h0 = met_leaf T τ [] 0 (λ s n v. ⊥) sure c K b b
      (counted_none T 0 (index_of sure) b) e g
  local_unmet z p (mark.Async a) h0 = met_leaf T τ [] 0 (λ s n v. ⊥) sure c K b b
      (counted_none T 0 (index_of sure) b) e g
  local_unmet z p (mark.First' x n) h0 = met_leaf T τ [] 0 (λ s n v. ⊥) sure c K b b
      (counted_none T 0 (index_of sure) b) e g
  local_unmet z p (mark.Second' x n) h0 = met_leaf T τ [] 0 (λ s n v. ⊥) sure c K b b
      (counted_none T 0 (index_of sure) b) e g
  local_unmet z p (mark.Both' x n y k) h0 = met_leaf T τ [] 0 (λ s n v. ⊥) sure c K b b
      (counted_none T 0 (index_of sure) b) e g
  local_unmet z p (mark.Inside' x n) h0 = met_leaf T τ [] 0 (λ s n v. ⊥) sure c K b b
      (counted_none T 0 (index_of sure) b) e g
  local_unmet z p (mark.Local' x n u v) h0 = absurd
      (h0 (record { ptr = x.ptr; alloc = x.alloc; value = n }) u v refl)
