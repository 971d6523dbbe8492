-- Replacing the signals of an expression: what it reads, how large it is, and of which kind it is.
use Rattle.std.proofs.Common.{◌≡◌, ℕ, ◌+◌, List, [], ◌∷◌, ◌++◌, map, refl, sym, ap, subst, ◌∙◌}
use Rattle.std.proofs.lemmas.List.{map-append}
use Rattle.std.specs.Prelude.{slice_get, fold, sum_by, flat_map}
use Rattle.std.specs.List.{AllByRecursion}
use Rattle.hh_base.specs.declared.value.Pos.{Pos}
use Rattle.hh_base.specs.declared.value.Kind.{Kind}
use Rattle.host_expr.specs.declared.expr.Expr.{Expr, roll-Expr}
use Rattle.host_expr.specs.declared.expr.ExprNode.{ExprNode, roll-ExprNode}
use Rattle.host_expr.specs.declared.expr.ExprNode.TheOpen as e
use Rattle.host_expr.specs.declared.expr.ExprNode.TheFolds.{fold-ExprNode, fold-roll-Expr, fold-roll-ExprNode}
use Rattle.host_expr.specs.declared.expr.ExprNode.TheFolds.{ind-Expr, map-ExprNode, map-Expr}
use Rattle.host_expr.specs.Expression.{Expression, Int, Flag, Text, Now, Pre, NowVal, PreVal, Arg, Not, Neg}
use Rattle.host_expr.specs.Expression.{Arith, Compare, And, Or, Choose}
use Rattle.host_expr.specs.Expression.{node_expression, expression_at, expression_of}
use Rattle.host_expr.specs.Kinds.{kind_of_expression, status_kind, value_kind, only_bool, only_int, arith_kind}
use Rattle.host_expr.specs.Kinds.{compare_kind, both_bool, choose_kind, one_valued}
use Rattle.host_expr.specs.Measures.{leaves_and_operators, signals_read, size_of_expression}
use Rattle.loop_copy.specs.Renaming.{renamed, renamed_layer, renamed_expr, renamed_node}
use Rattle.loop_copy.proofs.Lists.{both_all}

abbrev Layer : Type 0
Layer = e.ExprNode-F ℕ (ExprNode ℕ) (Expr ℕ)

module _ (f : ℕ → ℕ) where
  of_node : ExprNode ℕ → Pos → Expression
  of_node = fold-ExprNode ℕ (Pos → Expression) Expression node_expression expression_at

  abbrev IsRenamed : Expr ℕ → Type 0
  IsRenamed x = expression_of (renamed_expr f x) ≡ renamed f (expression_of x)

  abbrev IsRenamedNode : ExprNode ℕ → Type 0
  IsRenamedNode x = (p : Pos) → of_node (renamed_node f x) p ≡ renamed f (of_node x p)

  abbrev Node : Type 0
  Node = (x : ExprNode ℕ) × IsRenamedNode x

  abbrev Part : Type 0
  Part = (x : Expr ℕ) × IsRenamed x

  expressions_in : Layer → e.ExprNode-F ℕ (Pos → Expression) Expression
  expressions_in = map-ExprNode ℕ (ExprNode ℕ) (Expr ℕ) (Pos → Expression) Expression of_node expression_of

  renamed_in : Layer → Layer
  renamed_in = map-ExprNode ℕ (ExprNode ℕ) (Expr ℕ) (ExprNode ℕ) (Expr ℕ) (renamed_node f) (renamed_expr f)

  by_layer : (y : Layer) → ((p : Pos) → node_expression (expressions_in (renamed_layer f (renamed_in y))) p
      ≡ renamed f (node_expression (expressions_in y) p)) → IsRenamedNode (roll-ExprNode ℕ y)
  unfolding of_node renamed_node expressions_in renamed_in renamed_expr
  by_layer y h p =
      ap (λ z. of_node z p) (fold-roll-ExprNode ℕ (ExprNode ℕ) (Expr ℕ)
      (λ x. roll-ExprNode ℕ (renamed_layer f x)) (λ x. roll-Expr ℕ x) y)
      ∙ ap (λ (z : Pos → Expression). z p)
      (fold-roll-ExprNode ℕ (Pos → Expression) Expression node_expression expression_at
      (renamed_layer f (renamed_in y)))
      ∙ h p
      ∙ sym (ap (λ (z : Pos → Expression). renamed f (z p))
      (fold-roll-ExprNode ℕ (Pos → Expression) Expression node_expression expression_at y))

  node_renamed : (y : e.ExprNode-F ℕ Node Part) → IsRenamedNode
      (roll-ExprNode ℕ (map-ExprNode ℕ Node Part (ExprNode ℕ) (Expr ℕ) (λ n. n.0) (λ n. n.0) y))
  unfolding expressions_in renamed_in
  node_renamed (e.Int n) = by_layer (e.Int n) (λ p. refl)
  node_renamed (e.Bool b) = by_layer (e.Bool b) (λ p. refl)
  node_renamed (e.Text t) = by_layer (e.Text t) (λ p. refl)
  node_renamed (e.Now s) = by_layer (e.Now s) (λ p. refl)
  node_renamed (e.Pre s) = by_layer (e.Pre s) (λ p. refl)
  node_renamed (e.NowVal s) = by_layer (e.NowVal s) (λ p. refl)
  node_renamed (e.PreVal s) = by_layer (e.PreVal s) (λ p. refl)
  node_renamed (e.Arg s) = by_layer (e.Arg s) (λ p. refl)
  node_renamed (e.Not a) = by_layer (e.Not a.0) (λ p i. Not (a.1 i))
  node_renamed (e.Neg a) = by_layer (e.Neg a.0) (λ p i. Neg p (a.1 i))
  node_renamed (e.Arith op a b) = by_layer (e.Arith op a.0 b.0) (λ p i. Arith p op (a.1 i) (b.1 i))
  node_renamed (e.Compare rel a b) = by_layer (e.Compare rel a.0 b.0) (λ p i. Compare rel (a.1 i) (b.1 i))
  node_renamed (e.And a b) = by_layer (e.And a.0 b.0) (λ p i. And (a.1 i) (b.1 i))
  node_renamed (e.Or a b) = by_layer (e.Or a.0 b.0) (λ p i. Or (a.1 i) (b.1 i))
  node_renamed (e.Choose a b c) = by_layer (e.Choose a.0 b.0 c.0) (λ p i. Choose (a.1 i) (b.1 i) (c.1 i))

  part_renamed : (y : e.Expr-F ℕ Node Part) → IsRenamed (roll-Expr ℕ
      (map-Expr ℕ Node Part (ExprNode ℕ) (Expr ℕ) (λ n. n.0) (λ n. n.0) y))
  unfolding of_node renamed_node renamed_expr
  part_renamed y =
      let x : e.Expr-F ℕ (ExprNode ℕ) (Expr ℕ) = record { pos = y.pos; node = y.node.0 } in
      ap expression_of (fold-roll-Expr ℕ (ExprNode ℕ) (Expr ℕ) (λ x. roll-ExprNode ℕ (renamed_layer f x))
      (λ x. roll-Expr ℕ x) x)
      ∙ fold-roll-Expr ℕ (Pos → Expression) Expression node_expression expression_at
      (record { pos = y.pos; node = renamed_node f y.node.0 })
      ∙ y.node.1 y.pos
      ∙ sym (ap (renamed f) (fold-roll-Expr ℕ (Pos → Expression) Expression node_expression expression_at x))

  pub is_renamed : (x : Expr ℕ) → expression_of (renamed_expr f x) ≡ renamed f (expression_of x)
  is_renamed =
      ind-Expr ℕ IsRenamedNode IsRenamed
      (λ x y is. subst (λ (z : Layer). IsRenamedNode (roll-ExprNode ℕ z)) is (node_renamed y))
      (λ x y is. subst (λ (z : e.Expr-F ℕ (ExprNode ℕ) (Expr ℕ)). IsRenamed (roll-Expr ℕ z)) is
      (part_renamed y))

  -- ---- what it reads, and how large it is

  two : (xs ys us vs : List ℕ) → xs ≡ map f us → ys ≡ map f vs → xs ++ ys ≡ map f (us ++ vs)
  two xs ys us vs p q = (λ i. p i ++ q i) ∙ sym (map-append f us vs)

  pub reads : (x : Expression) → signals_read (renamed f x) ≡ map f (signals_read x)
  reads (Int n) = refl
  reads (Flag b) = refl
  reads (Text t) = refl
  reads (Now s) = refl
  reads (Pre s) = refl
  reads (NowVal s) = refl
  reads (PreVal s) = refl
  reads (Arg n) = refl
  reads (Not a) = reads a
  reads (Neg p a) = reads a
  reads (Arith p op a b) = two _ _ _ _ (reads a) (reads b)
  reads (Compare rel a b) = two _ _ _ _ (reads a) (reads b)
  reads (And a b) = two _ _ _ _ (reads a) (reads b)
  reads (Or a b) = two _ _ _ _ (reads a) (reads b)
  reads (Choose a b c) = two _ _ _ _ (two _ _ _ _ (reads a) (reads b)) (reads c)

  pub same_leaves : (x : Expression) → leaves_and_operators (renamed f x) ≡ leaves_and_operators x
  same_leaves (Int n) = refl
  same_leaves (Flag b) = refl
  same_leaves (Text t) = refl
  same_leaves (Now s) = refl
  same_leaves (Pre s) = refl
  same_leaves (NowVal s) = refl
  same_leaves (PreVal s) = refl
  same_leaves (Arg n) = refl
  same_leaves (Not a) = ap (λ n. 1 + n) (same_leaves a)
  same_leaves (Neg p a) = ap (λ n. 1 + n) (same_leaves a)
  same_leaves (Arith p op a b) = λ i. 1 + same_leaves a i + same_leaves b i
  same_leaves (Compare rel a b) = λ i. 1 + same_leaves a i + same_leaves b i
  same_leaves (And a b) = λ i. 1 + same_leaves a i + same_leaves b i
  same_leaves (Or a b) = λ i. 1 + same_leaves a i + same_leaves b i
  same_leaves (Choose a b c) = λ i. 1 + same_leaves a i + same_leaves b i + same_leaves c i

  -- ---- of which kind it is, where each signal that it reads has the kind of that in its place

  module _ (A B args : List Kind) where
    abbrev pub SameKind : ℕ → Type 0
    SameKind s = slice_get B (f s) ≡ slice_get A s

    pub same_kind : (x : Expression) → AllByRecursion SameKind (signals_read x)
        → kind_of_expression B args (renamed f x) ≡ kind_of_expression A args x
    same_kind (Int n) h = refl
    same_kind (Flag b) h = refl
    same_kind (Text t) h = refl
    same_kind (Now s) h = ap status_kind h.0
    same_kind (Pre s) h = ap status_kind h.0
    same_kind (NowVal s) h = ap value_kind h.0
    same_kind (PreVal s) h = ap value_kind h.0
    same_kind (Arg n) h = refl
    same_kind (Not a) h = ap only_bool (same_kind a h)
    same_kind (Neg p a) h = ap only_int (same_kind a h)
    same_kind (Arith p op a b) h =
        let q = both_all SameKind (signals_read a) (signals_read b) h in
        λ i. arith_kind op (same_kind a q.0 i) (same_kind b q.1 i)
    same_kind (Compare rel a b) h =
        let q = both_all SameKind (signals_read a) (signals_read b) h in
        λ i. compare_kind rel (same_kind a q.0 i) (same_kind b q.1 i)
    same_kind (And a b) h =
        let q = both_all SameKind (signals_read a) (signals_read b) h in
        λ i. both_bool (same_kind a q.0 i) (same_kind b q.1 i)
    same_kind (Or a b) h =
        let q = both_all SameKind (signals_read a) (signals_read b) h in
        λ i. both_bool (same_kind a q.0 i) (same_kind b q.1 i)
    same_kind (Choose a b c) h =
        let q = both_all SameKind (signals_read a ++ signals_read b) (signals_read c) h in
        let r = both_all SameKind (signals_read a) (signals_read b) q.0 in
        λ i. choose_kind (same_kind a r.0 i) (one_valued (same_kind b r.1 i) (same_kind c q.1 i))

  pub all_of_map : (P : ℕ → Type 0) (xs : List ℕ) → AllByRecursion (λ s. P (f s)) xs
      → AllByRecursion P (map f xs)
  all_of_map P [] h = tt
  all_of_map P (x ∷ xs) h = (h.0, all_of_map P xs h.1)

  pub all_renamed : (xs : List (Expr ℕ)) → map expression_of (map (renamed_expr f) xs) ≡ map (renamed f) (map expression_of xs)
  all_renamed [] = refl
  all_renamed (x ∷ xs) = λ i. is_renamed x i ∷ all_renamed xs i

  -- ---- and sizes

  pub same_size : (x : Expression) → size_of_expression (renamed f x) ≡ size_of_expression x
  same_size (Int n) = refl
  same_size (Flag b) = refl
  same_size (Text t) = refl
  same_size (Now s) = refl
  same_size (Pre s) = refl
  same_size (NowVal s) = refl
  same_size (PreVal s) = refl
  same_size (Arg n) = refl
  same_size (Not a) = ap (λ n. 1 + n) (same_size a)
  same_size (Neg p a) = ap (λ n. 1 + n) (same_size a)
  same_size (Arith p op a b) = λ i. 1 + same_size a i + same_size b i
  same_size (Compare rel a b) = λ i. 1 + same_size a i + same_size b i
  same_size (And a b) = λ i. 1 + same_size a i + same_size b i
  same_size (Or a b) = λ i. 1 + same_size a i + same_size b i
  same_size (Choose a b c) = λ i. 1 + same_size a i + same_size b i + same_size c i

  same_fold : (xs : List Expression) (m n : ℕ) → m ≡ n → fold (λ a x. a + size_of_expression x) m (map (renamed f) xs)
      ≡ fold (λ a x. a + size_of_expression x) n xs
  same_fold [] m n e = e
  same_fold (x ∷ xs) m n e = same_fold xs (m + size_of_expression (renamed f x)) (n + size_of_expression x)
      (λ i. e i + same_size x i)

  pub same_sizes : (xs : List Expression) → sum_by size_of_expression (map (renamed f) xs) ≡ sum_by size_of_expression xs
  same_sizes xs = same_fold xs 0 0 refl

  pub all_read : (xs : List Expression) → flat_map signals_read (map (renamed f) xs) ≡ map f (flat_map signals_read xs)
  all_read [] = refl
  all_read (x ∷ xs) = two _ _ _ _ (reads x) (all_read xs)
