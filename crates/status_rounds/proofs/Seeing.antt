-- What a walk over the statement met, as a walk over the program.
use Rattle.std.proofs.Common.{◌≡◌, sym, subst, ℕ, Bool, true, Option, List}
use Rattle.hh_term.specs.Statement.{Statement}
use Rattle.hh_term.specs.Selection.{Selection, Control, Fresh, At, Start, Resume}
use Rattle.hh_term.specs.MustCan.{Table}
use Rattle.status_table.specs.declared.state.Pass.{Pass}
use Rattle.status_table.specs.Flat.{Cells}
use Rattle.status_table.specs.Walking.{Visited}
use Rattle.status_rounds.specs.Rounds.{Seen}

module _ (T : Table) (τ : Cells) (p q : Statement) (c : Control) (end : Option ℕ) (K : List Bool)
    (b0 b1 : Pass)
  where
    pub seen_fresh : q ≡ p → c ≡ Fresh → Visited T τ q 0 0 Start true end K b0 b1 → Seen T τ p c b0 b1
    seen_fresh e f h = subst (λ z. Seen T τ z c b0 b1) e
        (subst (λ z. Seen T τ q z b0 b1) (sym f)
        (record { signals = h.signals; args = h.args; tallies = h.tallies; raised = h.raised }))

    pub seen_at : (m : Selection) → q ≡ p → c ≡ At m → Visited T τ q 0 0 (Resume m) true end K b0 b1 → Seen T
        τ p c
        b0 b1
    seen_at m e f h = subst (λ z. Seen T τ z c b0 b1) e
        (subst (λ z. Seen T τ q z b0 b1) (sym f)
        (record { signals = h.signals; args = h.args; tallies = h.tallies; raised = h.raised }))
