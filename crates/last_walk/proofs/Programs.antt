-- What a walk over the statement did, as what the program did.
use Rattle.std.proofs.Common.{◌≡◌, sym, ap, ◌∙◌, subst, Option, Some, None}
use Rattle.host_expr.specs.Environment.{env_of}
use Rattle.hh_term.specs.Statement.{Statement}
use Rattle.hh_term.specs.Selection.{Selection, Control, Fresh, At, Ended, Start, Resume}
use Rattle.hh_term.specs.MustCan.{Table}
use Rattle.hh_term.specs.Step.{Stepped}
use Rattle.hh_term.specs.Reaction.{ran}
use Rattle.status_table.specs.Flat.{Cells}
use Rattle.status_table.specs.FlatStep.{flat_step}
use Rattle.status_table.specs.WholeProgram.{program_flat_step}
use Rattle.last_walk.specs.declared.completion.Completion.{Completion}
use Rattle.last_walk.specs.declared.last_pass.LastPass.{LastPass}
use Rattle.last_walk.specs.declared.whole.Ran.{Ran as ARan}
use Rattle.last_walk.specs.LastWalk.{selection_at, Did, Walked}
use Rattle.last_walk.specs.Whole.{RanBy, Runs}
use Rattle.last_walk.proofs.Noting.{noted_none}

run_of : (T : Table) (o : Option Stepped) (r : Option Completion) (e : Option ARan) (b0 b1 : LastPass) → Did T o r b0 b1
    → RanBy r e → Runs T (ran o) e b0 b1
run_of T None None None b0 b1 h w = tt
run_of T None None (Some e) b0 b1 h w = absurd w
run_of T None (Some x) e b0 b1 h w = absurd h
run_of T (Some a) None e b0 b1 h w = absurd h
run_of T (Some a) (Some x) None b0 b1 h w = absurd w
run_of T (Some a) (Some x) (Some e) b0 b1 h w = record {
  code = w.0 ∙ ap Some h.code;
  next = ap selection_at w.1 ∙ h.next;
  noted = h.noted;
}

module _ (T : Table) (τ : Cells) (p q : Statement) (c : Control) (b0 b1 : LastPass) where
  -- as the program's own statement and control
  same_program : (d : Control) (e : Option ARan) → q ≡ p → c ≡ d →
      Runs T (program_flat_step T τ q d (env_of b0.cells.signals.items)) e b0 b1 →
      Runs T (program_flat_step T τ p c (env_of b0.cells.signals.items)) e b0 b1
  same_program d e s f h = subst (λ z. Runs T (program_flat_step T τ z c (env_of b0.cells.signals.items)) e b0 b1) s
      (subst (λ z. Runs T (program_flat_step T τ q z (env_of b0.cells.signals.items)) e b0 b1) (sym f) h)

  pub ran_fresh : (r : Option Completion) (e : Option ARan) → q ≡ p → c ≡ Fresh → Walked T τ q 0 0 Start r b0 b1 →
      RanBy r e → Runs T (program_flat_step T τ p c (env_of b0.cells.signals.items)) e b0 b1
  ran_fresh r e s f h w = same_program Fresh e s f
      (run_of T (flat_step T τ q 0 0 Start (env_of b0.cells.signals.items)) r e b0 b1 h w)

  pub ran_at : (m : Selection) (r : Option Completion) (e : Option ARan) → q ≡ p → c ≡ At m → Walked T τ q 0 0
      (Resume m) r b0 b1 → RanBy r e → Runs T (program_flat_step T τ p c (env_of b0.cells.signals.items)) e b0 b1
  ran_at m r e s f h w = same_program (At m) e s f
      (run_of T (flat_step T τ q 0 0 (Resume m) (env_of b0.cells.signals.items)) r e b0 b1 h w)

-- a program that has ended
pub ran_ended : (T : Table) (τ : Cells) (p : Statement) (c : Control) (e : ARan) (b : LastPass) → c ≡ Ended → e.code ≡
    None → e.next ≡ None → Runs T (program_flat_step T τ p c (env_of b.cells.signals.items)) (Some e) b b
ran_ended T τ p c e b f k n = subst
    (λ z. Runs T (program_flat_step T τ p z (env_of b.cells.signals.items)) (Some e) b b) (sym f)
    (record { code = k; next = ap selection_at n; noted = noted_none T b })
