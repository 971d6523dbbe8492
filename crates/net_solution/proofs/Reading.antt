-- Where more is known of signals, an expression that was known keeps its value.
use Rattle.std.proofs.Common.{◌≡◌, refl, sym, ap, ◌∙◌, ℕ, Bool, true, false, cond, not, ◌&&◌, []}
use Rattle.hh_base.specs.declared.value.Value.TheVariants as value
use Rattle.host_expr.specs.declared.cell.Cell.TheVariants as cell
use Rattle.host_expr.specs.Environment.{is_decided, is_known, is_present}
use Rattle.host_expr.specs.Knows.{CellBelow}
use Rattle.host_expr.specs.Expression.{Expression, Int, Flag, Text, Now, Pre, NowVal, PreVal, Arg, Not, Neg}
use Rattle.host_expr.specs.Expression.{Arith, Compare, And, Or, Choose}
use Rattle.host_expr.specs.Evaluation.{reads_known, then_with, truth, negated, compared, run}
use Rattle.host_expr.specs.Evaluation as evaluation
use Rattle.net_solution.specs.Seen.{SeenBelow, ViewBelow}
use Rattle.net_solution.specs.Seen.{Seen, View, cells_seen, known_seen, base_seen, before_known}
use Rattle.net_solution.specs.Seen.{expression_value}
use Rattle.net_solution.proofs.Truths.{decided_same, known_same, and_left, and_right, and_both}
use Rattle.net_solution.proofs.Truths.{guarded_up}

pub base_up : (c d : Seen) → SeenBelow c d → CellBelow (base_seen c) (base_seen d)
base_up c d h = by_known c.known.base h.base
  where
    by_known : (b : Bool) → (b ≡ true → (d.known.base ≡ true) × (c.cell.preval ≡ d.cell.preval))
        → CellBelow (cond b (cell.Known c.cell.preval) cell.Unknown) (base_seen d)
    by_known false k = tt
    by_known true k =
        let e = k refl in
        (λ i. cond (e.0 i) (cell.Known d.cell.preval) cell.Unknown) ∙ ap cell.Known (sym e.1)

module _ (V W : View) (up : ViewBelow V W) where
  -- what is known is known in both, and the value is the same
  abbrev Kept : Expression → Type 0
  Kept e =
      before_known e (known_seen V) ≡ true → reads_known e (cells_seen V) ≡ true
      → (before_known e (known_seen W) ≡ true) × (reads_known e (cells_seen W) ≡ true)
      × (run e (cells_seen V) [] ≡ run e (cells_seen W) [])

  decided_up : (s : ℕ) → is_decided (V s).cell.status ≡ true → (W s).cell.status ≡ (V s).cell.status
  decided_up s r = decided_same (V s).cell.status (W s).cell.status (up s).status r

  known_up : (s : ℕ) → is_known (V s).cell.value ≡ true → (W s).cell.value ≡ (V s).cell.value
  known_up s r = known_same (V s).cell.value (W s).cell.value (up s).value r

  pair : (a b : Expression) → Kept a → Kept b → before_known a (known_seen V) && before_known b
      (known_seen V) ≡ true
      → reads_known a (cells_seen V) && reads_known b (cells_seen V) ≡ true
      → (before_known a (known_seen W) && before_known b (known_seen W) ≡ true)
      × (reads_known a (cells_seen W) && reads_known b (cells_seen W) ≡ true)
      × (run a (cells_seen V) [] ≡ run a (cells_seen W) []) ×
      (run b (cells_seen V) [] ≡ run b (cells_seen W) [])
  pair a b f g k r =
      let x = f (and_left (before_known a (known_seen V)) (before_known b (known_seen V)) k)
      (and_left (reads_known a (cells_seen V)) (reads_known b (cells_seen V)) r) in
      let y = g (and_right (before_known a (known_seen V)) (before_known b (known_seen V)) k)
      (and_right (reads_known a (cells_seen V)) (reads_known b (cells_seen V)) r) in (
        and_both (before_known a (known_seen W)) (before_known b (known_seen W)) x.0 y.0,
        and_both (reads_known a (cells_seen W)) (reads_known b (cells_seen W)) x.1 y.1,
        x.2,
        y.2,
      )

  kept : (e : Expression) → Kept e
  kept (Int n) k r = (refl, refl, refl)
  kept (Flag b) k r = (refl, refl, refl)
  kept (Text t) k r = (refl, refl, refl)
  kept (Now s) k r = (
    refl,
    ap is_decided (decided_up s r) ∙ r,
    ap (λ x. cell.Known (value.Bool (is_present x))) (sym (decided_up s r)),
  )
  kept (Pre s) k r =
      let h = (up s).pre k in
      (h.0, refl, ap (λ x. cell.Known (value.Bool x)) h.1)
  kept (NowVal s) k r = (refl, ap is_known (known_up s r) ∙ r, sym (known_up s r))
  kept (PreVal s) k r =
      let h = (up s).base k in
      (h.0, refl, ap (λ x. cell.Known x) h.1)
  kept (Arg n) k r = (refl, refl, refl)
  kept (Not a) k r =
      let h = kept a k r in
      (h.0, h.1, ap (λ c. then_with c (λ v. cell.Known (value.Bool (not (truth v))))) h.2)
  kept (Neg p a) k r =
      let h = kept a k r in
      (h.0, h.1, ap (λ c. then_with c (negated p)) h.2)
  kept (Arith p op a b) k r =
      let h = pair a b (kept a) (kept b) k r in
      (h.0, h.1, λ i. then_with (h.2 i) (λ v. then_with (h.3 i) (evaluation.arith p op v)))
  kept (Compare rel a b) k r =
      let h = pair a b (kept a) (kept b) k r in (
        h.0,
        h.1,
        λ i. then_with (h.2 i)
            (λ v. then_with (h.3 i) (λ w. cell.Known (value.Bool (compared rel v w)))),
      )
  kept (And a b) k r =
      let h = pair a b (kept a) (kept b) k r in
      (h.0, h.1, λ i. then_with (h.2 i) (λ v. cond (truth v) (h.3 i) (cell.Known (value.Bool false))))
  kept (Or a b) k r =
      let h = pair a b (kept a) (kept b) k r in
      (h.0, h.1, λ i. then_with (h.2 i) (λ v. cond (truth v) (cell.Known (value.Bool true)) (h.3 i)))
  kept (Choose a b c) k r =
      let ab = before_known a (known_seen V) && before_known b (known_seen V) in
      let rab = reads_known a (cells_seen V) && reads_known b (cells_seen V) in
      let h = pair a b (kept a) (kept b) (and_left ab (before_known c (known_seen V)) k)
      (and_left rab (reads_known c (cells_seen V)) r) in
      let z = kept c (and_right ab (before_known c (known_seen V)) k)
      (and_right rab (reads_known c (cells_seen V)) r) in (
        and_both (before_known a (known_seen W) && before_known b (known_seen W))
            (before_known c (known_seen W)) h.0 z.0,
        and_both (reads_known a (cells_seen W) && reads_known b (cells_seen W))
            (reads_known c (cells_seen W)) h.1
            z.1,
        λ i. then_with (h.2 i) (λ v. cond (truth v) (h.3 i) (z.2 i)),
      )

  pub expression_up : (e : Expression) → CellBelow (expression_value e V) (expression_value e W)
  expression_up e =
      guarded_up (before_known e (known_seen V)) (reads_known e (cells_seen V))
      (before_known e (known_seen W))
      (reads_known e (cells_seen W)) (run e (cells_seen V) []) (run e (cells_seen W) []) (kept e)
