-- Whether two texts are the same is what the law of `same_text` says.
use Rattle.std.proofs.Common.{◌≡◌, ◌↔◌, ℕ, Bool, true, false, List, [], ◌∷◌, refl, sym, ap, subst, ◌∙◌}
use Rattle.std.proofs.Common.{IsTrue, length, get_or}
use Rattle.std.specs.Str.{bytes_eq}
use Rattle.std.proofs.lemmas.Slice.Eq.{bytes_eq-Decides}
use Rattle.hh_base.specs.declared.value.Value.{Value}
use Rattle.hh_base.specs.declared.value.Value.TheVariants as value
use Rattle.hh_base.specs.declared.value.Kind.TheVariants as kind
use Rattle.host_hooks.specs.declared.law.HookLaw.{HookLaw}
use Rattle.std.proofs.lemmas.List.Elements.{All-cons, All-nil}
use Rattle.host_expr.specs.declared.expr.Expr.{Expr}
use Rattle.host_expr.specs.declared.expr.Rel.TheVariants.{Eq}
use Rattle.hh_base.specs.declared.value.Pos.{Pos}
use Rattle.hh_base.specs.declared.value.Kind.{Kind}
use Rattle.hh_base.specs.Value.{is_valued}
use Rattle.host_expr.specs.declared.expr.Expr.{roll-Expr}
use Rattle.host_expr.specs.declared.expr.ExprNode.{ExprNode}
use Rattle.host_expr.specs.declared.expr.ExprNode.TheVariants as node
use Rattle.host_expr.specs.declared.expr.ExprNode.TheOpen as layer
use Rattle.host_expr.specs.declared.expr.ExprNode.TheFolds.{fold-ExprNode, fold-roll-Expr, fold-roll-ExprNode}
use Rattle.host_expr.specs.Expression.{Expression, Arg, Compare, expression_of, expression_at}
use Rattle.host_expr.specs.Expression.{node_expression}
use Rattle.host_expr.specs.Kinds.{kind_of_expression}
use Rattle.host_hooks.specs.Law.{Allows, IsAllowedBy, LawFits, computed, kinds_of}
use Rattle.host_hooks.specs.Shipped.{IsSameLaw, are_same, two_texts}

pub two_long : (args : List Value) → kinds_of args ≡ two_texts → length args ≡ 2
two_long [] e = absurd cc
two_long (x ∷ []) e = absurd cc
two_long (x ∷ y ∷ []) e = refl
two_long (x ∷ y ∷ z ∷ rest) e = absurd cc

-- the values are compared as the law compares them
decided : (a b : List ℕ) (r : Bool) → (IsTrue r) ↔ (value.Text a ≡ value.Text b) → r ≡ bytes_eq a b
decided a b r same = by_test (bytes_eq a b) refl
  where
    no_value : (q : Bool) → r ≡ q → bytes_eq a b ≡ false → r ≡ false
    no_value false h e = h
    no_value true h e =
        let texts : a ≡ b = (let v = same.0 h in cc) in
        absurd (let yes = (bytes_eq-Decides a b).1 texts in cc)

    by_test : (t : Bool) → bytes_eq a b ≡ t → r ≡ bytes_eq a b
    by_test true e = same.1 (ap value.Text ((bytes_eq-Decides a b).0 e)) ∙ sym e
    by_test false e = no_value r refl e ∙ sym e

texts_allowed : (law : HookLaw) → IsSameLaw law → (a b : List ℕ) (r : Bool)
    → (IsTrue r) ↔ (value.Text a ≡ value.Text b) → IsAllowedBy law kind.Bool (value.Text a ∷ value.Text b ∷
    []) (value.Bool r)
texts_allowed law is a b r same = record {
  kind = refl;
  lawful =
      subst (λ l. Allows l kind.Bool (value.Text a ∷ value.Text b ∷ []) (value.Bool r)) (sym is.1)
      (ap value.Bool (decided a b r same)
      ∙ sym (ap (λ e. computed kind.Bool e (value.Text a ∷ value.Text b ∷ [])) is.2));
}

pub same_allowed : (law : HookLaw) → IsSameLaw law → (args : List Value) (r : Bool) (a b d e : Value)
    → kinds_of args ≡ two_texts → a ≡ get_or args 0 d → b ≡ get_or args 1 e → (IsTrue r) ↔ (a ≡ b)
    → IsAllowedBy law kind.Bool args (value.Bool r)
same_allowed law is [] r a b d e f at_a at_b same = absurd cc
same_allowed law is (x ∷ []) r a b d e f at_a at_b same = absurd cc
same_allowed law is (x ∷ y ∷ z ∷ rest) r a b d e f at_a at_b same = absurd cc
same_allowed law is (x ∷ y ∷ []) r a b d e f at_a at_b same =
    by_kind x y f ((λ t. sym at_a ∙ same.0 t ∙ at_b), (λ q. same.1 (at_a ∙ q ∙ sym at_b)))
  where
    by_kind : (v w : Value) → kinds_of (v ∷ w ∷ []) ≡ two_texts → (IsTrue r) ↔ (v ≡ w)
        → IsAllowedBy law kind.Bool (v ∷ w ∷ []) (value.Bool r)
    by_kind (value.Text a) (value.Text b) f s = texts_allowed law is a b r s
    by_kind (value.Text a) value.Unit f s = absurd cc
    by_kind (value.Text a) (value.Int n) f s = absurd cc
    by_kind (value.Text a) (value.Bool n) f s = absurd cc
    by_kind value.Unit w f s = absurd cc
    by_kind (value.Int n) w f s = absurd cc
    by_kind (value.Bool n) w f s = absurd cc

-- the law of an equation of the two parameters
pub same_law : (at : Pos) (p q : Expr ℕ) → expression_of p ≡ Arg 0 → expression_of q ≡ Arg 1
    → expression_of (roll-Expr ℕ (record { pos = at; node = node.Compare Eq p q })) ≡ are_same
same_law at p q first second =
    fold-roll-Expr ℕ (Pos → Expression) Expression node_expression expression_at (record {
      pos = at;
      node =
          node.Compare Eq p q;
    })
    ∙ ap (λ n. of_node n at) (sym (node.rolls-Compare Eq p q))
    ∙ ap (λ (f : Pos → Expression). f at) (fold-roll-ExprNode ℕ (Pos
    → Expression) Expression node_expression expression_at (layer.Compare Eq p q))
    ∙ ap (λ a. Compare Eq a (expression_of q)) first ∙ ap (λ b. Compare Eq (Arg 0) b) second
  where
    of_node : ExprNode ℕ → Pos → Expression
    of_node = fold-ExprNode ℕ (Pos → Expression) Expression node_expression expression_at

pub leaf : (at : Pos) (n : ℕ) → expression_of (roll-Expr ℕ (record { pos = at; node = node.Arg n })) ≡ Arg n
leaf at n =
    fold-roll-Expr ℕ (Pos → Expression) Expression node_expression expression_at (record {
      pos = at;
      node =
          node.Arg n;
    })
    ∙ ap (λ m. of_node m at) (sym (node.rolls-Arg n))
    ∙ ap (λ (f : Pos → Expression). f at) (fold-roll-ExprNode ℕ (Pos
    → Expression) Expression node_expression expression_at (layer.Arg n))
  where
    of_node : ExprNode ℕ → Pos → Expression
    of_node = fold-ExprNode ℕ (Pos → Expression) Expression node_expression expression_at

abbrev V : Kind → Type 0
V k = is_valued k ≡ true

pub same_law_fits : (law : HookLaw) → IsSameLaw law → LawFits law two_texts kind.Bool
same_law_fits law is = subst (λ l. LawFits l two_texts kind.Bool) (sym is.1) (record {
  valued = All-cons V kind.Text (kind.Text ∷ []) refl (All-cons V kind.Text [] refl (All-nil V));
  fits = ap (kind_of_expression [] two_texts) is.2;
})
