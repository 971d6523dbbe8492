-- The tree of what is read is the tree that is written.
use Rattle.std.proofs.Common.{◌≡◌, ℕ, ◌≤◌, List, ◌++◌, Option, Some, None, Ok, Err, Result, refl, sym, ap}
use Rattle.std.proofs.Common.{◌∙◌, subst, ◌+◌, ◌-◌}
use Rattle.hh_base.specs.declared.value.Pos.{Pos}
use Rattle.host_expr.specs.declared.expr.Expr.{Expr}
use Rattle.host_expr.specs.Expression.{Expression, Int, Flag, Text, Now, Pre, NowVal, PreVal, Arg, Not, Neg}
use Rattle.host_expr.specs.Expression.{Arith, Compare, And, Or, Choose, expression_of}
use Rattle.host_expr.specs.Measures.{leaves_and_operators}
use Rattle.host_expr.proofs.Trees.{expr-Int, expr-Bool, expr-Text, expr-Now, expr-Pre, expr-NowVal}
use Rattle.host_expr.proofs.Trees.{expr-PreVal}
use Rattle.host_expr.proofs.Trees.{expr-Arg, expr-Not, expr-Neg, expr-Arith, expr-Compare, expr-And, expr-Or}
use Rattle.host_expr.proofs.Trees.{expr-Choose}
use Rattle.net_text.specs.ExpressionText.{expression_text}
use Rattle.net_line.specs.declared.fault.LineFault.{LineFault}
use Rattle.net_line.specs.declared.fault.LineFault.TheVariants.{Formless}
use Rattle.net_line.specs.ExpressionForm.{IsExpressionForm}
use Rattle.net_line.specs.ExpressionReading.{expression}
use Rattle.net_line.specs.ExpressionTaken.{BeginsWith, IsExpressionTaken, TakesExpression}
use Rattle.net_line.specs.Reading.{Read, Reads}
use Rattle.net_line.proofs.Chain.{same_read}
use Rattle.net_line.proofs.Expressions.{expr_from, ReadAs, Spelled, read_text, text_read}

abbrev at : ℕ → Pos
at n = record { 0 = n }

pub of_from : (x : Expression) → expression_of (expr_from x) ≡ x
of_from (Int z) = expr-Int (at 0) z
of_from (Flag b) = expr-Bool (at 0) b
of_from (Text t) = expr-Text (at 0) t
of_from (Now s) = expr-Now (at 0) s
of_from (Pre s) = expr-Pre (at 0) s
of_from (NowVal s) = expr-NowVal (at 0) s
of_from (PreVal s) = expr-PreVal (at 0) s
of_from (Arg n) = expr-Arg (at 0) n
of_from (Not a) = expr-Not (at 0) (expr_from a) ∙ ap Not (of_from a)
of_from (Neg p a) = expr-Neg p (expr_from a) ∙ ap (Neg p) (of_from a)
of_from (Arith p o a b) =
    expr-Arith p o (expr_from a) (expr_from b) ∙ (λ i. Arith p o (of_from a i) (of_from b i))
of_from (Compare r a b) =
    expr-Compare (at 0) r (expr_from a) (expr_from b) ∙ (λ i. Compare r (of_from a i) (of_from b i))
of_from (And a b) = expr-And (at 0) (expr_from a) (expr_from b) ∙ (λ i. And (of_from a i) (of_from b i))
of_from (Or a b) = expr-Or (at 0) (expr_from a) (expr_from b) ∙ (λ i. Or (of_from a i) (of_from b i))
of_from (Choose a b c) =
    expr-Choose (at 0) (expr_from a) (expr_from b) (expr_from c)
    ∙ (λ i. Choose (of_from a i) (of_from b i) (of_from c i))

read_as : (size : ℕ) (l : List ℕ) (x : Expression) (rest : List ℕ) → BeginsWith size l x rest
    → (e : Expr ℕ × ℕ) × (expression size size l ≡ Some (e, rest)) × (e.0 ≡ expr_from x)
read_as size l x rest h = (
  (expr_from x, size - leaves_and_operators x),
  ap (expression size size) h.whole
      ∙ read_text x h.form size size h.small h.small rest h.ended,
  refl,
)

pub expression_taken : (size : ℕ) (l : List ℕ) (e : Expr ℕ) (k : ℕ) (c : List ℕ)
    → expression size size l ≡ Some ((e, k), c) → IsExpressionTaken size l e k c
expression_taken size l e k c is =
    let s = text_read size size l e k c is in
    let tree : expression_of e ≡ s.tree = ap expression_of s.is ∙ of_from s.tree in
    record {
      whole = s.text ∙ ap (λ x. expression_text x ++ c) (sym tree);
      form = subst IsExpressionForm (sym tree) s.form;
      counted = ap (λ x. k + leaves_and_operators x) tree ∙ s.counted;
      only = λ x rest h.
          let r = read_as size l x rest h in
          let p = same_read {A = Expr ℕ × ℕ} r.0 (e, k) rest c (sym r.1 ∙ is) in
          (sym (of_from x) ∙ ap expression_of (sym r.2 ∙ ap (λ (q : Expr ℕ × ℕ). q.0) p.0), p.1);
    }

pub takes_expression : (size : ℕ) (l : List ℕ) (result : Result (Expr ℕ × ℕ) LineFault) (c : List ℕ)
    → Reads (expression size size l) result c → TakesExpression size l result c
takes_expression size l (Ok e) c is = expression_taken size l e.0 e.1 c is
takes_expression size l (Err fault) c is = λ formless x rest h.
    let some = (read_as size l x rest h).1 in
    let none = is formless in
    let clash : ⊥ = cc in clash
