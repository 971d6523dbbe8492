-- What the walk over a part asks for holds behind the walk over an earlier part, and in a scope.
use Rattle.std.proofs.Common.{◌≡◌, refl, sym, ap, ◌∙◌, subst, ℕ, ◌≤◌, ◌<◌, true, Option, Some, None, []}
use Rattle.std.proofs.Common.{length}
use Rattle.std.proofs.Math.ListN.{length-set}
use Rattle.host_expr.specs.declared.cell.SigCell.{SigCell}
use Rattle.hh_term.specs.Statement.{Statement}
use Rattle.hh_term.specs.MustCan.{Table}
use Rattle.hh_term.specs.Step.{Stepped}
use Rattle.status_table.specs.Walking.{Fits}
use Rattle.last_walk.specs.declared.completion.Completion.{Completion}
use Rattle.last_walk.specs.declared.last_pass.LastPass.{LastPass}
use Rattle.last_walk.specs.declared.last_pass.Outer.{Outer}
use Rattle.last_walk.specs.LastWalk.{Did, Entered, ends_at}

pub record Kept (b0 b1 : LastPass) : Type 0 where
  pub signals : length b1.cells.signals.items ≡ length b0.cells.signals.items
  pub args : b1.cells.args.items ≡ b0.cells.args.items
  pub emitted : length b1.emitted.items ≡ length b0.emitted.items

did_keep : (T : Table) (o : Option Stepped) (x : Completion) (b0 b1 : LastPass) → Did T o (Some x) b0 b1 → Kept b0 b1
did_keep T None x b0 b1 h = absurd h
did_keep T (Some a) x b0 b1 h =
    record { signals = ap length h.noted.signals; args = h.noted.args; emitted = h.noted.emitted.len }

-- a part that ended
pub end_keeps : (T : Table) (o : Option Stepped) (r : Option Completion) (b0 b1 : LastPass) → Did T o r b0 b1 →
    ends_at r ≡ true → Kept b0 b1
end_keeps T o None b0 b1 h e = cc
end_keeps T o (Some x) b0 b1 h e = did_keep T o x b0 b1 h

-- a part whose step is defined
pub step_keeps : (T : Table) (o : Option Stepped) (r : Option Completion) (x : Completion) (b0 b1 : LastPass) → Did T o
    r b0 b1 → r ≡ Some x → Kept b0 b1
step_keeps T o r x b0 b1 h e = did_keep T o x b0 b1 (subst (λ z. Did T o z b0 b1) e h)

pub scope_keeps : (s : ℕ) (c : SigCell) (outer : Outer) (b0 b1 : LastPass) → Entered s c outer b0 b1 → Kept b0 b1
scope_keeps s c outer b0 b1 h = record {
  signals = ap length h.signals ∙ length-set b0.cells.signals.items s c;
  args = h.args;
  emitted = ap length h.emitted ∙ length-set b0.emitted.items s h.fresh;
}

pub fault_keeps : (b0 b1 : LastPass) → b1 ≡ record b0 { fault = b1.fault } → Kept b0 b1
fault_keeps b0 b1 e = record {
  signals = ap (λ b. length b.cells.signals.items) e;
  args = ap (λ b. b.cells.args.items) e;
  emitted = ap (λ b. length b.emitted.items) e;
}

pub kept_both : (b0 b1 b2 : LastPass) → Kept b0 b1 → Kept b1 b2 → Kept b0 b2
kept_both b0 b1 b2 h g = record {
  signals = g.signals ∙ h.signals;
  args = g.args ∙ h.args;
  emitted = g.emitted ∙ h.emitted;
}

pub asked_fits : (levels d : ℕ) (p : Statement) (b0 b1 : LastPass) → Kept b0 b1 →
    Fits (length b0.cells.signals.items) levels d p → Fits (length b1.cells.signals.items) levels d p
asked_fits levels d p b0 b1 k f = subst (λ n. Fits n levels d p) (sym k.signals) f

pub asked_emitted : (b0 b1 : LastPass) → Kept b0 b1 → length b0.emitted.items ≡ length b0.cells.signals.items →
    length b1.emitted.items ≡ length b1.cells.signals.items
asked_emitted b0 b1 k e = k.emitted ∙ e ∙ sym k.signals

pub asked_declared : (n : ℕ) (b0 b1 : LastPass) → Kept b0 b1 → length b0.cells.signals.items ≤ n →
    length b1.cells.signals.items ≤ n
asked_declared n b0 b1 k e = subst (λ m. m ≤ n) (sym k.signals) e

-- all that it asks for
pub asked : (levels declared d : ℕ) (p q : Statement) (b0 b1 : LastPass) → q ≡ p → Kept b0 b1 →
    Fits (length b0.cells.signals.items) levels d p → length b0.emitted.items ≡ length b0.cells.signals.items →
    b0.cells.args.items ≡ [] → length b0.cells.signals.items ≤ declared → d < levels →
    Fits (length b1.cells.signals.items) levels d q ×
    ((length b1.emitted.items ≡ length b1.cells.signals.items) ×
    ((b1.cells.args.items ≡ []) × ((length b1.cells.signals.items ≤ declared) × (d < levels))))
asked levels declared d p q b0 b1 same k f e g h l = (
  subst (Fits (length b1.cells.signals.items) levels d) (sym same) (asked_fits levels d p b0 b1 k f),
  (asked_emitted b0 b1 k e, (k.args ∙ g, (asked_declared declared b0 b1 k h, l))),
)

pub kept_same : (b : LastPass) → Kept b b
kept_same b = record { signals = refl; args = refl; emitted = refl }
