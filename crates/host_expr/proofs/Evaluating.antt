-- An expression that is known keeps its value where more is known.
use Rattle.std.proofs.Common.{◌≡◌, refl, sym, ap, subst, ◌∙◌, Bool, true, false, cond, not, ◌&&◌, List}
use Rattle.hh_base.specs.declared.value.Value.{Value}
use Rattle.hh_base.specs.declared.value.Value.TheVariants as value
use Rattle.host_expr.specs.declared.cell.Cell.{Cell}
use Rattle.host_expr.specs.declared.cell.Cell.TheVariants as cell
use Rattle.host_expr.specs.Expression.{Expression, Int, Flag, Text, Now, Pre, NowVal, PreVal, Arg, Not}
use Rattle.host_expr.specs.Expression.{Neg, Arith, Compare, And, Or, Choose}
use Rattle.host_expr.specs.Environment.{Env, is_decided, is_known, is_present}
use Rattle.host_expr.specs.Evaluation.{truth, reads_known, then_with, run, eval_of, negated, arith, compared}
use Rattle.host_expr.specs.Knows.{CellBelow, EnvBelow, EvaluationRises}
use Rattle.host_expr.proofs.Truths.{and_first, and_second, and_both}
use Rattle.host_expr.proofs.Information.{cell_refl, decided_same, known_same}

module _ (E F : Env) (args : List Value) (le : EnvBelow E F) where
  reads_same : (e : Expression) → reads_known e E ≡ true → reads_known e F ≡ true
  reads_same (Int n) h = refl
  reads_same (Flag b) h = refl
  reads_same (Text t) h = refl
  reads_same (Now s) h = ap is_decided (decided_same (E s).status (F s).status (le.at s).status h) ∙ h
  reads_same (Pre s) h = refl
  reads_same (NowVal s) h = ap is_known (known_same (E s).value (F s).value (le.at s).value h) ∙ h
  reads_same (PreVal s) h = refl
  reads_same (Arg n) h = refl
  reads_same (Not a) h = reads_same a h
  reads_same (Neg p a) h = reads_same a h
  reads_same (Arith p op a b) h =
      and_both (reads_known a F) (reads_known b F)
      (reads_same a (and_first (reads_known a E) (reads_known b E) h))
      (reads_same b (and_second (reads_known a E) (reads_known b E) h))
  reads_same (Compare rel a b) h =
      and_both (reads_known a F) (reads_known b F)
      (reads_same a (and_first (reads_known a E) (reads_known b E) h))
      (reads_same b (and_second (reads_known a E) (reads_known b E) h))
  reads_same (And a b) h =
      and_both (reads_known a F) (reads_known b F)
      (reads_same a (and_first (reads_known a E) (reads_known b E) h))
      (reads_same b (and_second (reads_known a E) (reads_known b E) h))
  reads_same (Or a b) h =
      and_both (reads_known a F) (reads_known b F)
      (reads_same a (and_first (reads_known a E) (reads_known b E) h))
      (reads_same b (and_second (reads_known a E) (reads_known b E) h))
  reads_same (Choose a b c) h =
      let ab = and_first (reads_known a E && reads_known b E) (reads_known c E) h in
      and_both (reads_known a F && reads_known b F) (reads_known c F)
      (and_both (reads_known a F) (reads_known b F)
      (reads_same a (and_first (reads_known a E) (reads_known b E) ab))
      (reads_same b (and_second (reads_known a E) (reads_known b E) ab)))
      (reads_same c (and_second (reads_known a E && reads_known b E) (reads_known c E) h))

  run_same : (e : Expression) → reads_known e E ≡ true → run e F args ≡ run e E args
  run_same (Int n) h = refl
  run_same (Flag b) h = refl
  run_same (Text t) h = refl
  run_same (Now s) h =
      ap (λ t. cell.Known (value.Bool (is_present t)))
      (decided_same (E s).status (F s).status (le.at s).status h)
  run_same (Pre s) h = ap (λ b. cell.Known (value.Bool b)) (sym (le.at s).pre)
  run_same (NowVal s) h = known_same (E s).value (F s).value (le.at s).value h
  run_same (PreVal s) h = ap (λ v. cell.Known v) (sym (le.at s).preval)
  run_same (Arg n) h = refl
  run_same (Not a) h = ap (λ c. then_with c (λ v. cell.Known (value.Bool (not (truth v))))) (run_same a h)
  run_same (Neg p a) h = ap (λ c. then_with c (negated p)) (run_same a h)
  run_same (Arith p op a b) h =
      let ea = run_same a (and_first (reads_known a E) (reads_known b E) h) in
      let eb = run_same b (and_second (reads_known a E) (reads_known b E) h) in
      ap (λ c. then_with c (λ v. then_with (run b F args) (arith p op v))) ea
      ∙ ap (λ d. then_with (run a E args) (λ v. then_with d (arith p op v))) eb
  run_same (Compare rel a b) h =
      let ea = run_same a (and_first (reads_known a E) (reads_known b E) h) in
      let eb = run_same b (and_second (reads_known a E) (reads_known b E) h) in
      ap (λ c. then_with c
      (λ v. then_with (run b F args) (λ w. cell.Known (value.Bool (compared rel v w))))) ea
      ∙ ap (λ d. then_with (run a E args)
      (λ v. then_with d (λ w. cell.Known (value.Bool (compared rel v w))))) eb
  run_same (And a b) h =
      let ea = run_same a (and_first (reads_known a E) (reads_known b E) h) in
      let eb = run_same b (and_second (reads_known a E) (reads_known b E) h) in
      ap (λ c. then_with c (λ v. cond (truth v) (run b F args) (cell.Known (value.Bool false)))) ea
      ∙ ap (λ d. then_with (run a E args) (λ v. cond (truth v) d (cell.Known (value.Bool false)))) eb
  run_same (Or a b) h =
      let ea = run_same a (and_first (reads_known a E) (reads_known b E) h) in
      let eb = run_same b (and_second (reads_known a E) (reads_known b E) h) in
      ap (λ c. then_with c (λ v. cond (truth v) (cell.Known (value.Bool true)) (run b F args))) ea
      ∙ ap (λ d. then_with (run a E args) (λ v. cond (truth v) (cell.Known (value.Bool true)) d)) eb
  run_same (Choose a b c) h =
      let ab = and_first (reads_known a E && reads_known b E) (reads_known c E) h in
      let ea = run_same a (and_first (reads_known a E) (reads_known b E) ab) in
      let eb = run_same b (and_second (reads_known a E) (reads_known b E) ab) in
      let ec = run_same c (and_second (reads_known a E && reads_known b E) (reads_known c E) h) in
      ap (λ z. then_with z (λ v. cond (truth v) (run b F args) (run c F args))) ea
      ∙ ap (λ d. then_with (run a E args) (λ v. cond (truth v) d (run c F args))) eb
      ∙ ap (λ d. then_with (run a E args) (λ v. cond (truth v) (run b E args) d)) ec

  cond_le : (x y : Bool) (c d : Cell) → (x ≡ true → y ≡ true) → (x ≡ true → d ≡ c)
      → CellBelow (cond x c cell.Unknown) (cond y d cell.Unknown)
  cond_le false y c d h g = tt
  cond_le true y c d h g =
      subst (λ z. CellBelow c (cond y z cell.Unknown)) (sym (g refl))
      (subst (λ b. CellBelow c (cond b c cell.Unknown)) (sym (h refl)) (cell_refl c))

  pub eval_up : (e : Expression) → CellBelow (eval_of e E args) (eval_of e F args)
  eval_up e = cond_le (reads_known e E) (reads_known e F) (run e E args) (run e F args) (reads_same e)
      (run_same e)

pub evaluation_rises : EvaluationRises
evaluation_rises e E F args le = eval_up E F args le e
