-- An expression whose signals have other numbers gives the same where they are seen alike.
use Rattle.std.proofs.Common.{◌≡◌, ℕ, List, ◌++◌, refl, ap, cond, not, true, false}
use Rattle.std.specs.Prelude.{◌&&◌}
use Rattle.std.specs.List.{AllByRecursion}
use Rattle.hh_base.specs.declared.value.Value.{Value}
use Rattle.hh_base.specs.declared.value.Value.TheVariants as value
use Rattle.host_expr.specs.declared.cell.Cell.TheVariants as cell
use Rattle.host_expr.specs.declared.cell.SigCell.{SigCell}
use Rattle.host_expr.specs.Environment.{Env, is_known, is_decided, is_present}
use Rattle.host_expr.specs.Evaluation.{reads_known, run, eval_of, then_with, truth, arith, negated, compared}
use Rattle.host_expr.specs.Expression.{Expression, Int, Flag, Text, Now, Pre, NowVal, PreVal, Arg, Not, Neg}
use Rattle.host_expr.specs.Expression.{Arith, Compare, And, Or, Choose}
use Rattle.host_expr.specs.Measures.{signals_read}
use Rattle.loop_copy.specs.Renaming.{renamed}
use Rattle.loop_copy.proofs.Lists.{both_all}

module _ (f : ℕ → ℕ) (E F : Env) where
  abbrev Seen : ℕ → Type 0
  Seen s = F (f s) ≡ E s

  abbrev AllSeen : Expression → Type 0
  AllSeen e = AllByRecursion Seen (signals_read e)

  known : (e : Expression) → AllSeen e → reads_known (renamed f e) F ≡ reads_known e E
  known (Int n) h = refl
  known (Flag b) h = refl
  known (Text t) h = refl
  known (Now s) h = ap (λ (c : SigCell). is_decided c.status) h.0
  known (Pre s) h = refl
  known (NowVal s) h = ap (λ (c : SigCell). is_known c.value) h.0
  known (PreVal s) h = refl
  known (Arg n) h = refl
  known (Not a) h = known a h
  known (Neg p a) h = known a h
  known (Arith p op a b) h =
      let q = both_all Seen (signals_read a) (signals_read b) h in λ i. known a q.0 i && known b q.1 i
  known (Compare rel a b) h =
      let q = both_all Seen (signals_read a) (signals_read b) h in λ i. known a q.0 i && known b q.1 i
  known (And a b) h =
      let q = both_all Seen (signals_read a) (signals_read b) h in λ i. known a q.0 i && known b q.1 i
  known (Or a b) h =
      let q = both_all Seen (signals_read a) (signals_read b) h in λ i. known a q.0 i && known b q.1 i
  known (Choose a b c) h =
      let q = both_all Seen (signals_read a ++ signals_read b) (signals_read c) h in
      let r = both_all Seen (signals_read a) (signals_read b) q.0 in
      λ i. known a r.0 i && known b r.1 i && known c q.1 i

  gives_same : (e : Expression) (args : List Value) → AllSeen e → run (renamed f e) F args ≡ run e E args
  gives_same (Int n) args h = refl
  gives_same (Flag b) args h = refl
  gives_same (Text t) args h = refl
  gives_same (Now s) args h = ap (λ (c : SigCell). cell.Known (value.Bool (is_present c.status))) h.0
  gives_same (Pre s) args h = ap (λ (c : SigCell). cell.Known (value.Bool c.pre)) h.0
  gives_same (NowVal s) args h = ap (λ (c : SigCell). c.value) h.0
  gives_same (PreVal s) args h = ap (λ (c : SigCell). cell.Known c.preval) h.0
  gives_same (Arg n) args h = refl
  gives_same (Not a) args h = ap (λ x. then_with x (λ v. cell.Known (value.Bool (not (truth v))))) (gives_same a args h)
  gives_same (Neg p a) args h = ap (λ x. then_with x (negated p)) (gives_same a args h)
  gives_same (Arith p op a b) args h =
      let q = both_all Seen (signals_read a) (signals_read b) h in
      λ i. then_with (gives_same a args q.0 i) (λ v. then_with (gives_same b args q.1 i) (arith p op v))
  gives_same (Compare rel a b) args h =
      let q = both_all Seen (signals_read a) (signals_read b) h in
      λ i. then_with (gives_same a args q.0 i)
      (λ v. then_with (gives_same b args q.1 i) (λ w. cell.Known (value.Bool (compared rel v w))))
  gives_same (And a b) args h =
      let q = both_all Seen (signals_read a) (signals_read b) h in
      λ i. then_with (gives_same a args q.0 i) (λ v. cond (truth v) (gives_same b args q.1 i) (cell.Known (value.Bool false)))
  gives_same (Or a b) args h =
      let q = both_all Seen (signals_read a) (signals_read b) h in
      λ i. then_with (gives_same a args q.0 i) (λ v. cond (truth v) (cell.Known (value.Bool true)) (gives_same b args q.1 i))
  gives_same (Choose a b c) args h =
      let q = both_all Seen (signals_read a ++ signals_read b) (signals_read c) h in
      let r = both_all Seen (signals_read a) (signals_read b) q.0 in
      λ i. then_with (gives_same a args r.0 i) (λ v. cond (truth v) (gives_same b args r.1 i) (gives_same c args q.1 i))

  pub same_value : (e : Expression) (args : List Value) → AllSeen e → eval_of (renamed f e) F args ≡ eval_of e E args
  same_value e args h = λ i. cond (known e h i) (gives_same e args h i) cell.Unknown
