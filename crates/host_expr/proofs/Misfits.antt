-- There is a misfit exactly where there is no kind.
use Rattle.std.proofs.Common.{◌≡◌, refl, sym, subst, ℕ, Bool, true, false, not, ◌&&◌, cond, Option, Some}
use Rattle.std.proofs.Common.{None, List, [], ◌∷◌, ◌++◌}
use Rattle.std.specs.Prelude.{IsSome, is_some, is_none, ◌↔◌}
use Rattle.hh_base.specs.declared.value.Pos.{Pos}
use Rattle.hh_base.specs.declared.value.Kind.{Kind}
use Rattle.hh_base.specs.declared.value.Kind.TheVariants as kind
use Rattle.host_expr.specs.declared.expr.Op.{Op}
use Rattle.host_expr.specs.declared.expr.Op.TheVariants as op
use Rattle.host_expr.specs.declared.expr.Rel.{Rel}
use Rattle.host_expr.specs.declared.expr.Rel.TheVariants as rel
use Rattle.host_expr.specs.declared.expr.Expr.{Expr, roll-Expr}
use Rattle.host_expr.specs.declared.expr.ExprNode.{ExprNode, roll-ExprNode}
use Rattle.host_expr.specs.declared.expr.ExprNode.TheOpen as layer
use Rattle.host_expr.specs.declared.expr.ExprNode.TheFolds.{fold-ExprNode, fold-roll-Expr}
use Rattle.host_expr.specs.declared.expr.ExprNode.TheFolds.{fold-roll-ExprNode, ind-Expr, map-ExprNode}
use Rattle.host_expr.specs.declared.expr.ExprNode.TheFolds.{map-Expr}
use Rattle.host_expr.specs.Expression.{Expression, node_expression, expression_at, expression_of}
use Rattle.host_expr.specs.Kinds.{status_kind, only_int, only_bool, both_bool, arith_kind, one_valued}
use Rattle.host_expr.specs.Kinds.{ordered_kind, compare_kind, choose_kind, kind_of_expression}
use Rattle.host_expr.specs.Misfit.{Judged, all_fit, all_misfits, judged, judged_node, judged_here}
use Rattle.host_expr.specs.Misfit.{judged_expr, first_of, first_misfit, JudgedByKind, MisfitWithoutKind}

-- ---- a kind or a misfit

abbrev pub Agrees : Judged → Type 0
Agrees j = is_none j.kind ≡ is_some (first_of j.misfits)

abbrev AllAgree : List Judged → Type 0
AllAgree [] = Unit {0}
AllAgree (j ∷ parts) = Agrees j × AllAgree parts

fit_without_misfit : (parts : List Judged) → AllAgree parts
    → all_fit parts ≡ not (is_some (first_of (all_misfits parts)))
fit_without_misfit [] h = refl
fit_without_misfit (j ∷ parts) h = by_case j.kind j.misfits h.0 (fit_without_misfit parts h.1)
  where
    by_case : (k : Option Kind) (ps : List Pos) → is_none k ≡ is_some (first_of ps)
        → all_fit parts ≡ not (is_some (first_of (all_misfits parts)))
        → (is_some k && all_fit parts) ≡ not (is_some (first_of (ps ++ all_misfits parts)))
    by_case (Some k) [] e rest = rest
    by_case (Some k) (p ∷ ps) e rest = cc
    by_case None [] e rest = cc
    by_case None (p ∷ ps) e rest = refl

no_misfit : (c : Bool) → true ≡ not c → false ≡ c
no_misfit false e = refl
no_misfit true e = cc

some_misfit : (c : Bool) → false ≡ not c → true ≡ c
some_misfit true e = refl
some_misfit false e = cc

node_agrees : (p : Pos) (k : Option Kind) (parts : List Judged) → AllAgree parts
    → (is_some k ≡ true → all_fit parts ≡ true) → Agrees (judged p k parts)
node_agrees p k parts h fit = by_case k (all_fit parts) (fit_without_misfit parts h) fit
  where
    by_case : (k : Option Kind) (b : Bool) → b ≡ not (is_some (first_of (all_misfits parts)))
        → (is_some k ≡ true → b ≡ true)
        → is_none k ≡ is_some (first_of (cond (b && is_none k) (p ∷ []) (all_misfits parts)))
    by_case (Some k) true e g = no_misfit (is_some (first_of (all_misfits parts))) e
    by_case (Some k) false e g = let no = g refl in cc
    by_case None true e g = refl
    by_case None false e g = some_misfit (is_some (first_of (all_misfits parts))) e

-- ---- a node that fits has parts that fit

bool_fits : (x : Option Kind) → is_some (only_bool x) ≡ true → (is_some x && true) ≡ true
bool_fits (Some k) h = refl
bool_fits None h = h

int_fits : (x : Option Kind) → is_some (only_int x) ≡ true → (is_some x && true) ≡ true
int_fits (Some k) h = refl
int_fits None h = h

bools_fit : (x y : Option Kind) → is_some (both_bool x y) ≡ true → (is_some x && (is_some y && true)) ≡ true
bools_fit (Some k) (Some l) h = refl
bools_fit None y h = h
bools_fit (Some kind.Bool) None h = h
bools_fit (Some kind.Pure) None h = h
bools_fit (Some kind.Int) None h = h
bools_fit (Some kind.Text) None h = h

arith_fits : (o : Op) (x y : Option Kind) → is_some (arith_kind o x y) ≡ true
    → (is_some x && (is_some y && true)) ≡ true
arith_fits o (Some k) (Some l) h = refl
arith_fits o None y h = h
arith_fits o (Some kind.Int) None h = h
arith_fits o (Some kind.Pure) None h = h
arith_fits o (Some kind.Bool) None h = h
arith_fits op.Add (Some kind.Text) None h = h
arith_fits op.Sub (Some kind.Text) None h = h
arith_fits op.Mul (Some kind.Text) None h = h
arith_fits op.Div (Some kind.Text) None h = h
arith_fits op.Rem (Some kind.Text) None h = h

valued_fits : (x y : Option Kind) → is_some (one_valued x y) ≡ true
    → (is_some x && (is_some y && true)) ≡ true
valued_fits (Some k) (Some l) h = refl
valued_fits None y h = h
valued_fits (Some kind.Int) None h = h
valued_fits (Some kind.Pure) None h = h
valued_fits (Some kind.Bool) None h = h
valued_fits (Some kind.Text) None h = h

ordered_fits : (x y : Option Kind) → is_some (ordered_kind x y) ≡ true
    → (is_some x && (is_some y && true)) ≡ true
ordered_fits (Some k) (Some l) h = refl
ordered_fits None y h = h
ordered_fits (Some kind.Int) None h = h
ordered_fits (Some kind.Pure) None h = h
ordered_fits (Some kind.Bool) None h = h
ordered_fits (Some kind.Text) None h = h

of_status : (x : Option Kind) → is_some (status_kind x) ≡ true → is_some x ≡ true
of_status (Some k) h = refl
of_status None h = h

compare_fits : (r : Rel) (x y : Option Kind) → is_some (compare_kind r x y) ≡ true
    → (is_some x && (is_some y && true)) ≡ true
compare_fits rel.Eq x y h = valued_fits x y (of_status (one_valued x y) h)
compare_fits rel.Ne x y h = valued_fits x y (of_status (one_valued x y) h)
compare_fits rel.Lt x y h = ordered_fits x y h
compare_fits rel.Le x y h = ordered_fits x y h
compare_fits rel.Gt x y h = ordered_fits x y h
compare_fits rel.Ge x y h = ordered_fits x y h

choose_fits : (x y z : Option Kind) → is_some (choose_kind x (one_valued y z)) ≡ true
    → (is_some x && (is_some y && (is_some z && true))) ≡ true
choose_fits (Some kind.Bool) y z h = valued_fits y z h
choose_fits (Some kind.Int) y z h = cc
choose_fits (Some kind.Pure) y z h = cc
choose_fits (Some kind.Text) y z h = cc
choose_fits None y z h = h

-- ---- both, by induction

-- what was judged is right of the expression
pub record IsRight (signals args : List Kind) (j : Judged) (e : Expression) : Type 0 where
  pub kind : j.kind ≡ kind_of_expression signals args e
  pub agrees : Agrees j

module _ (signals args : List Kind) where
  abbrev judged_in : ExprNode ℕ → Pos → Judged
  judged_in = fold-ExprNode ℕ (Pos → Judged) Judged (judged_node signals args) judged_here

  abbrev tree_in : ExprNode ℕ → Pos → Expression
  tree_in = fold-ExprNode ℕ (Pos → Expression) Expression node_expression expression_at

  abbrev RightNode : ExprNode ℕ → Type 0
  RightNode x = (p : Pos) → IsRight signals args (judged_in x p) (tree_in x p)

  abbrev RightExpr : Expr ℕ → Type 0
  RightExpr e = IsRight signals args (judged_expr signals args e) (expression_of e)

  -- from a layer over the judged parts to the node
  from_layer : (x : layer.ExprNode-F ℕ (ExprNode ℕ) (Expr ℕ))
      → ((p : Pos)
      → IsRight signals args
      (judged_node signals args
      (map-ExprNode ℕ (ExprNode ℕ) (Expr ℕ) (Pos → Judged) Judged judged_in
      (judged_expr signals args) x) p)
      (node_expression
      (map-ExprNode ℕ (ExprNode ℕ) (Expr ℕ) (Pos → Expression) Expression tree_in expression_of x) p))
      → RightNode (roll-ExprNode ℕ x)
  from_layer x h p =
      subst (λ (g : Pos → Judged). IsRight signals args (g p) (tree_in (roll-ExprNode ℕ x) p))
      (sym (fold-roll-ExprNode ℕ (Pos → Judged) Judged (judged_node signals args) judged_here x))
      (subst (λ (g : Pos → Expression). IsRight signals args
      (judged_node signals args
      (map-ExprNode ℕ (ExprNode ℕ) (Expr ℕ) (Pos → Judged) Judged judged_in
      (judged_expr signals args) x) p) (g p))
      (sym (fold-roll-ExprNode ℕ (Pos → Expression) Expression node_expression expression_at x))
      (h p))

  abbrev Node : Type 0
  Node = (x : ExprNode ℕ) × RightNode x

  abbrev Part : Type 0
  Part = (e : Expr ℕ) × RightExpr e

  abbrev part : Part → Judged
  part a = judged_expr signals args a.0

  over_one : (p : Pos) (k : Option Kind) (a : Part)
      → (is_some k ≡ true → (is_some (part a).kind && true) ≡ true) → Agrees (judged p k (part a ∷ []))
  over_one p k a = node_agrees p k (part a ∷ []) (a.1.agrees, tt)

  over_two : (p : Pos) (k : Option Kind) (a b : Part)
      → (is_some k ≡ true → (is_some (part a).kind && (is_some (part b).kind && true)) ≡ true)
      → Agrees (judged p k (part a ∷ part b ∷ []))
  over_two p k a b = node_agrees p k (part a ∷ part b ∷ []) (a.1.agrees, (b.1.agrees, tt))

  over_three : (p : Pos) (k : Option Kind) (a b c : Part)
      → (is_some k ≡ true
      → (is_some (part a).kind && (is_some (part b).kind && (is_some (part c).kind && true))) ≡ true)
      → Agrees (judged p k (part a ∷ part b ∷ part c ∷ []))
  over_three p k a b c =
      node_agrees p k (part a ∷ part b ∷ part c ∷ []) (a.1.agrees, (b.1.agrees, (c.1.agrees, tt)))

  right_node : (y : layer.ExprNode-F ℕ Node Part)
      → RightNode
      (roll-ExprNode ℕ (map-ExprNode ℕ Node Part (ExprNode ℕ) (Expr ℕ) (λ n. n.0) (λ n. n.0) y))
  right_node (layer.Int n) = from_layer (layer.Int n) (λ p. record { kind = refl; agrees = refl })
  right_node (layer.Bool b) = from_layer (layer.Bool b) (λ p. record { kind = refl; agrees = refl })
  right_node (layer.Text t) = from_layer (layer.Text t) (λ p. record { kind = refl; agrees = refl })
  right_node (layer.Now s) =
      from_layer (layer.Now s) (λ p. record { kind = refl; agrees = node_agrees p _ [] tt (λ f. refl) })
  right_node (layer.Pre s) =
      from_layer (layer.Pre s) (λ p. record { kind = refl; agrees = node_agrees p _ [] tt (λ f. refl) })
  right_node (layer.NowVal s) =
      from_layer (layer.NowVal s)
      (λ p. record { kind = refl; agrees = node_agrees p _ [] tt (λ f. refl) })
  right_node (layer.PreVal s) =
      from_layer (layer.PreVal s)
      (λ p. record { kind = refl; agrees = node_agrees p _ [] tt (λ f. refl) })
  right_node (layer.Arg n) =
      from_layer (layer.Arg n) (λ p. record { kind = refl; agrees = node_agrees p _ [] tt (λ f. refl) })
  right_node (layer.Not a) =
      from_layer (layer.Not a.0)
      (λ p. record { kind = rw a.1.kind refl; agrees = over_one p _ a (bool_fits (part a).kind) })
  right_node (layer.Neg a) =
      from_layer (layer.Neg a.0)
      (λ p. record { kind = rw a.1.kind refl; agrees = over_one p _ a (int_fits (part a).kind) })
  right_node (layer.Arith o a b) =
      from_layer (layer.Arith o a.0 b.0)
      (λ p. record {
        kind = rw (a.1.kind, b.1.kind) refl;
        agrees = over_two p _ a b (arith_fits o (part a).kind (part b).kind);
      })
  right_node (layer.Compare r a b) =
      from_layer (layer.Compare r a.0 b.0)
      (λ p. record {
        kind = rw (a.1.kind, b.1.kind) refl;
        agrees = over_two p _ a b (compare_fits r (part a).kind (part b).kind);
      })
  right_node (layer.And a b) =
      from_layer (layer.And a.0 b.0)
      (λ p. record {
        kind = rw (a.1.kind, b.1.kind) refl;
        agrees = over_two p _ a b (bools_fit (part a).kind (part b).kind);
      })
  right_node (layer.Or a b) =
      from_layer (layer.Or a.0 b.0)
      (λ p. record {
        kind = rw (a.1.kind, b.1.kind) refl;
        agrees = over_two p _ a b (bools_fit (part a).kind (part b).kind);
      })
  right_node (layer.Choose a b c) =
      from_layer (layer.Choose a.0 b.0 c.0)
      (λ p. record {
        kind = rw (a.1.kind, b.1.kind, c.1.kind) refl;
        agrees = over_three p _ a b c (choose_fits (part a).kind (part b).kind (part c).kind);
      })

  from_node : (x : layer.Expr-F ℕ (ExprNode ℕ) (Expr ℕ))
      → IsRight signals args (judged_in x.node x.pos) (tree_in x.node x.pos) → RightExpr (roll-Expr ℕ x)
  from_node x h =
      subst (λ (j : Judged). IsRight signals args j (expression_of (roll-Expr ℕ x)))
      (sym (fold-roll-Expr ℕ (Pos → Judged) Judged (judged_node signals args) judged_here x))
      (subst (λ (e : Expression). IsRight signals args (judged_in x.node x.pos) e)
      (sym (fold-roll-Expr ℕ (Pos → Expression) Expression node_expression expression_at x)) h)

  right_expr : (y : layer.Expr-F ℕ Node Part)
      → RightExpr (roll-Expr ℕ (map-Expr ℕ Node Part (ExprNode ℕ) (Expr ℕ) (λ n. n.0) (λ n. n.0) y))
  right_expr y = from_node (record { pos = y.pos; node = y.node.0 }) (y.node.1 y.pos)

  pub is_right : (e : Expr ℕ) → RightExpr e
  is_right =
      ind-Expr ℕ RightNode RightExpr
      (λ x y is. subst
      (λ (z : layer.ExprNode-F ℕ (ExprNode ℕ) (Expr ℕ)). RightNode (roll-ExprNode ℕ z)) is
      (right_node y))
      (λ x y is. subst (λ (z : layer.Expr-F ℕ (ExprNode ℕ) (Expr ℕ)). RightExpr (roll-Expr ℕ z)) is
      (right_expr y))

pub judged_by_kind : JudgedByKind
judged_by_kind signals args e = (is_right signals args e).kind

pub misfit_without_kind : MisfitWithoutKind
misfit_without_kind signals args e =
    by_kind (judged_expr signals args e).kind (first_misfit signals args e) (is_right signals args e).kind
    (is_right signals args e).agrees
  where
    by_kind : (k : Option Kind) (o : Option Pos) → k ≡ kind_of_expression signals args (expression_of e)
        → is_none k ≡ is_some o → IsSome o ↔ (kind_of_expression signals args (expression_of e) ≡ None)
    by_kind None (Some p) h a = ((λ s. sym h), (λ n. refl))
    by_kind (Some k) None h a = ((λ s. cc), (λ n. cc))
    by_kind None None h a = cc
    by_kind (Some k) (Some p) h a = cc
