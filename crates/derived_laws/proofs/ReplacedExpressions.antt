-- An expression with its signals replaced reads what they are replaced by.
use Rattle.std.proofs.Common.{◌≡◌, refl, ℕ, cond, ◌&&◌, Option, Some, None, List, [], ◌∷◌, map}
use Rattle.std.specs.Prelude.{not, false, true, option_map}
use Rattle.hh_base.specs.declared.value.Value.{Value}
use Rattle.hh_base.specs.declared.value.Value.TheVariants as value
use Rattle.host_expr.specs.declared.cell.Cell.TheVariants as cell
use Rattle.host_expr.specs.Expression.{Expression, Int, Flag, Text, Now, Pre, NowVal, PreVal, Arg, Not, Neg, Arith}
use Rattle.host_expr.specs.Expression.{Compare, And, Or, Choose}
use Rattle.host_expr.specs.Environment.{Env}
use Rattle.host_expr.specs.Evaluation.{reads_known, run, eval_of, then_with, arith, compared, negated, truth}
use Rattle.hh_term.specs.MustCan.{emitted}
use Rattle.derived_laws.specs.Replacements.{expression_with, seen_by}

module _ (f : ℕ → ℕ) (E : Env) where
  reads : (e : Expression) → reads_known (expression_with f e) E ≡ reads_known e (seen_by f E)
  reads (Int n) = refl
  reads (Flag b) = refl
  reads (Text t) = refl
  reads (Now s) = refl
  reads (Pre s) = refl
  reads (NowVal s) = refl
  reads (PreVal s) = refl
  reads (Arg n) = refl
  reads (Not a) = reads a
  reads (Neg p a) = reads a
  reads (Arith p op a b) = λ i. reads a i && reads b i
  reads (Compare rel a b) = λ i. reads a i && reads b i
  reads (And a b) = λ i. reads a i && reads b i
  reads (Or a b) = λ i. reads a i && reads b i
  reads (Choose a b c) = λ i. reads a i && reads b i && reads c i

  gives : (e : Expression) (args : List Value) → run (expression_with f e) E args ≡ run e (seen_by f E) args
  gives (Int n) args = refl
  gives (Flag b) args = refl
  gives (Text t) args = refl
  gives (Now s) args = refl
  gives (Pre s) args = refl
  gives (NowVal s) args = refl
  gives (PreVal s) args = refl
  gives (Arg n) args = refl
  gives (Not a) args = λ i. then_with (gives a args i) (λ v. cell.Known (value.Bool (not (truth v))))
  gives (Neg p a) args = λ i. then_with (gives a args i) (negated p)
  gives (Arith p op a b) args = λ i. then_with (gives a args i) (λ v. then_with (gives b args i) (arith p op v))
  gives (Compare rel a b) args =
      λ i. then_with (gives a args i)
      (λ v. then_with (gives b args i) (λ w. cell.Known (value.Bool (compared rel v w))))
  gives (And a b) args =
      λ i. then_with (gives a args i) (λ v. cond (truth v) (gives b args i) (cell.Known (value.Bool false)))
  gives (Or a b) args =
      λ i. then_with (gives a args i) (λ v. cond (truth v) (cell.Known (value.Bool true)) (gives b args i))
  gives (Choose a b c) args =
      λ i. then_with (gives a args i) (λ v. cond (truth v) (gives b args i) (gives c args i))

  pub evaluates : (e : Expression) → eval_of (expression_with f e) E [] ≡ eval_of e (seen_by f E) []
  evaluates e = λ i. cond (reads e i) (gives e [] i) cell.Unknown

  pub emits : (e : Option Expression) → emitted (option_map (expression_with f) e) E ≡ emitted e (seen_by f E)
  emits None = refl
  emits (Some e) = evaluates e

  pub arguments : (es : List Expression) → map (λ e. eval_of e E []) (map (expression_with f) es)
      ≡ map (λ e. eval_of e (seen_by f E) []) es
  arguments [] = refl
  arguments (e ∷ es) = λ i. evaluates e i ∷ arguments es i
