-- Where control rests in a statement with replaced signals, it rests in the statement.
use Rattle.std.proofs.Common.{◌≡◌, refl, sym, ap, ◌∙◌, ℕ, Option, Some, None}
use Rattle.std.specs.Prelude.{option_map}
use Rattle.host_expr.specs.Environment.{Env}
use Rattle.hh_term.specs.Statement.{Statement}
use Rattle.hh_term.specs.Selection.{Selection, Task, Start, Resume}
use Rattle.hh_term.specs.MustCan.{Table}
use Rattle.hh_term.specs.Step.{Stepped, step}
use Rattle.derived_laws.specs.Resting.{RestsAt, started, resumed, held, entered, mark_after}
use Rattle.derived_laws.specs.Replacements.{statement_with, seen_by, stepped_with, Declares}
use Rattle.derived_laws.proofs.ReplacedSteps.{step_replaced}

module _ (f g : ℕ → ℕ) (T T' : Table) (p : Statement) (d : Declares T T' f g p) where
  same_mark : (o : Option Stepped) → mark_after (option_map (stepped_with f g) o) ≡ mark_after o
  same_mark None = refl
  same_mark (Some a) = refl

  next_mark : (t : Task) (E : Env) → mark_after (step T p t (seen_by f E))
      ≡ mark_after (step T' (statement_with f g p) t E)
  next_mark t E = sym (ap mark_after (step_replaced f g T T' p t E d) ∙ same_mark (step T p t (seen_by f E)))

  pub rests_replaced : (m : Selection) → RestsAt T' (statement_with f g p) m → RestsAt T p m
  rests_replaced m (started E n e) = started (seen_by f E) m (next_mark Start E ∙ e)
  rests_replaced m (resumed m' r E n e) =
      resumed m' (rests_replaced m' r) (seen_by f E) m (next_mark (Resume m') E ∙ e)
  rests_replaced m (held m' r) = held m' (rests_replaced m' r)
  rests_replaced m (entered m' r id a n e) = entered m' (rests_replaced m' r) id a m e
