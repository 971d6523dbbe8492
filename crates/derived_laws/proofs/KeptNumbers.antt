-- What a block numbers leaves the numbers of signals that were declared before it.
use Rattle.std.proofs.Common.{◌≡◌, ℕ, ◌<◌, true, Some, None, List, [], ◌∷◌, ◌++◌, length}
use Rattle.std.proofs.Common.{refl, sym, ap, subst, ◌∙◌, arith, length-append}
use Rattle.std.proofs.lemmas.Bool.{ltb-true}
use Rattle.std.specs.Prelude.{nat_lt}
use Rattle.std.specs.List.{AllByRecursion}
use Rattle.hh_base.specs.declared.value.Pos.{Pos}
use Rattle.host_expr.specs.declared.expr.Expr.{Expr, roll-Expr}
use Rattle.host_expr.specs.declared.expr.ExprNode.{ExprNode, roll-ExprNode}
use Rattle.host_expr.specs.declared.expr.ExprNode.TheOpen as e
use Rattle.host_expr.specs.declared.expr.ExprNode.TheFolds.{fold-ExprNode, fold-roll-Expr, fold-roll-ExprNode}
use Rattle.host_expr.specs.declared.expr.ExprNode.TheFolds.{ind-Expr, map-ExprNode, map-Expr}
use Rattle.host_expr.specs.Expression.{Expression, node_expression, expression_at, expression_of}
use Rattle.host_expr.specs.Measures.{signals_read}
use Rattle.module_tree.specs.declared.source.SignalNode.{SignalNode}
use Rattle.module_tree.specs.declared.source.BlockNode.{BlockNode}
use Rattle.module_tree.specs.declared.source.ModuleNode.{ModuleNode}
use Rattle.module_tree.specs.Scopes.{InScope, Declared}
use Rattle.module_tree.specs.Parts.{block_walk}
use Rattle.kernel_expand.specs.Interpretation.{of_block}
use Rattle.kernel_expand.specs.Modules.{of_module}
use Rattle.kernel_expand.specs.Expansion.{no_module}
use Rattle.kernel_expand.specs.Renaming.{replace_step, renamed}
use Rattle.kernel_expand.specs.Numbering.{Piece, Around, Numbered, numbering, number_of, in_numbers, in_trap, with_place}
use Rattle.kernel_expand.specs.Numbering.{with_trap, with_signal, counter_signal, local_signal}
use Rattle.kernel_expand.proofs.Alike.{Alike}
use Rattle.kernel_expand.proofs.AlikeTrees.{blocks_alike, callees}
use Rattle.kernel_expand.proofs.Ordering.{no_meaning}
use Rattle.kernel_expand.proofs.Replaced.{both_all}
use Rattle.derived_laws.specs.Naming.{expression_names}
use Rattle.derived_laws.specs.Aborts.{StandsIn}
use Rattle.derived_laws.specs.CountedAborts.{StandsBelow, in_counter}
use Rattle.derived_laws.specs.Bodies.{block_piece}
use Rattle.derived_laws.proofs.RunPieces.{all_of, index_before}

-- ---- places

abbrev Kept : Numbered → Numbered → Type 0
Kept n m = (p : ℕ) → p < length n.places → (p < length m.places) × (number_of m p ≡ number_of n p)

kept_on : (n m o : Numbered) → Kept n m → Kept m o → Kept n o
kept_on n m o f g p lt =
    let x = f p lt in
    let y = g p x.0 in
    (y.0, y.1 ∙ x.1)

one_more : (d : SignalNode) (n : Numbered) → Kept n (with_place (local_signal d) n)
one_more d n p lt = (
  omega (arith, lt, length-append n.places (length n.signals ∷ [])),
  index_before n.places (length n.signals ∷ []) p lt,
)

abbrev Keeps : Piece → Unit {0} → Type 0
Keeps p u = (a : Around) (n : Numbered) → Kept n (p a n).1

operations : (modules : ℕ → Piece) (pos : Pos) → Alike Keeps (numbering modules pos) no_meaning
operations modules pos =
    record {
      nothing = λ a n p lt. (lt, refl);
      pause = λ a n p lt. (lt, refl);
      emit = λ s e a n p lt. (lt, refl);
      choice = λ d r u q v h k a n. let m = (r a n).1 in kept_on n m (q a m).1 (h a n) (k a m);
      suspend = λ d r u h a n. h a n;
      seq = λ r u q v h k a n. let m = (r a n).1 in kept_on n m (q a m).1 (h a n) (k a m);
      par = λ r u q v h k a n. let m = (r a n).1 in kept_on n m (q a m).1 (h a n) (k a m);
      loop = λ r u h a n. h a n;
      local = λ d r u h a n. let m = with_place (local_signal d) n in kept_on n m (r a m).1 (one_more d n) (h a m);
      async = λ d a n p lt. (lt, refl);
      trap = λ r u h a n. h (in_trap None a) n;
      exit = λ a n p lt. (lt, refl);
      named_trap = λ r u h a n. h (in_trap (Some n.traps) a) (with_trap n);
      leave = λ t a n p lt. (lt, refl);
      counter = λ r u h a n. h (record { traps = a.traps; counter = length n.signals })
          (with_signal (counter_signal pos) n);
      suspend_counted = λ r u h a n. h a n;
      emit_counter = λ a n p lt. (lt, refl);
    }

always : (xs : List ℕ) → AllByRecursion (λ m. Unit {0}) xs
always [] = tt
always (x ∷ xs) = (tt, always xs)

blocks_keep : (modules : ℕ → Piece) (b : BlockNode ℕ) → Keeps (of_block (numbering modules) b) tt
blocks_keep modules b =
    let scope : InScope = record { signals = []; traps = [] } in
    let start : Declared = record { signals = 0; traps = 0 } in
    blocks_alike Keeps (numbering modules) (λ pos. no_meaning) (λ m. Unit {0}) (operations modules)
    (λ pos m bindings u a n p lt. (lt, refl)) b scope start (always (callees (block_walk b scope start).parts))

-- ---- expressions in the same numbers

abbrev Layer : Type 0
Layer = e.ExprNode-F ℕ (ExprNode ℕ) (Expr ℕ)

module _ (f g : ℕ → ℕ) where
  abbrev Agree : List ℕ → Type 0
  Agree = AllByRecursion (λ s. f s ≡ g s)

  of_node : ExprNode ℕ → Pos → Expression
  of_node = fold-ExprNode ℕ (Pos → Expression) Expression node_expression expression_at

  renamed_node : (ℕ → ℕ) → ExprNode ℕ → ExprNode ℕ
  renamed_node h = fold-ExprNode ℕ (ExprNode ℕ) (Expr ℕ) (λ x. roll-ExprNode ℕ (replace_step h x))
      (λ x. roll-Expr ℕ x)

  abbrev IsSame : Expr ℕ → Type 0
  IsSame x = Agree (signals_read (expression_of x)) → renamed f x ≡ renamed g x

  abbrev IsSameNode : ExprNode ℕ → Type 0
  IsSameNode x = (p : Pos) → Agree (signals_read (of_node x p)) → renamed_node f x ≡ renamed_node g x

  abbrev Node : Type 0
  Node = (x : ExprNode ℕ) × IsSameNode x

  abbrev Part : Type 0
  Part = (x : Expr ℕ) × IsSame x

  expressions_in : Layer → e.ExprNode-F ℕ (Pos → Expression) Expression
  expressions_in = map-ExprNode ℕ (ExprNode ℕ) (Expr ℕ) (Pos → Expression) Expression of_node expression_of

  renamed_in : (ℕ → ℕ) → Layer → Layer
  renamed_in h = map-ExprNode ℕ (ExprNode ℕ) (Expr ℕ) (ExprNode ℕ) (Expr ℕ) (renamed_node h) (renamed h)

  by_layer : (y : Layer) → ((p : Pos) → Agree (signals_read (node_expression (expressions_in y) p))
      → replace_step f (renamed_in f y) ≡ replace_step g (renamed_in g y)) → IsSameNode (roll-ExprNode ℕ y)
  unfolding of_node renamed_node expressions_in renamed_in renamed
  by_layer y h p a =
      let read = fold-roll-ExprNode ℕ (Pos → Expression) Expression node_expression expression_at y in
      let with_f = fold-roll-ExprNode ℕ (ExprNode ℕ) (Expr ℕ) (λ x. roll-ExprNode ℕ (replace_step f x))
      (λ x. roll-Expr ℕ x) y in
      let with_g = fold-roll-ExprNode ℕ (ExprNode ℕ) (Expr ℕ) (λ x. roll-ExprNode ℕ (replace_step g x))
      (λ x. roll-Expr ℕ x) y in
      with_f
      ∙ ap (λ z. roll-ExprNode ℕ z) (h p (subst (λ (z : Pos → Expression). Agree (signals_read (z p))) read a))
      ∙ sym with_g

  two : (a b : Part) → Agree (signals_read (expression_of a.0) ++ signals_read (expression_of b.0))
      → (renamed f a.0 ≡ renamed g a.0) × (renamed f b.0 ≡ renamed g b.0)
  two a b h =
      let q = both_all (λ s. f s ≡ g s) (signals_read (expression_of a.0)) (signals_read (expression_of b.0)) h in
      (a.1 q.0, b.1 q.1)

  node_same : (y : e.ExprNode-F ℕ Node Part) → IsSameNode
      (roll-ExprNode ℕ (map-ExprNode ℕ Node Part (ExprNode ℕ) (Expr ℕ) (λ n. n.0) (λ n. n.0) y))
  unfolding expressions_in renamed_in
  node_same (e.Int n) = by_layer (e.Int n) (λ p h. refl)
  node_same (e.Bool b) = by_layer (e.Bool b) (λ p h. refl)
  node_same (e.Text t) = by_layer (e.Text t) (λ p h. refl)
  node_same (e.Now s) = by_layer (e.Now s) (λ p h. ap (λ z. e.Now z) h.0)
  node_same (e.Pre s) = by_layer (e.Pre s) (λ p h. ap (λ z. e.Pre z) h.0)
  node_same (e.NowVal s) = by_layer (e.NowVal s) (λ p h. ap (λ z. e.NowVal z) h.0)
  node_same (e.PreVal s) = by_layer (e.PreVal s) (λ p h. ap (λ z. e.PreVal z) h.0)
  node_same (e.Arg s) = by_layer (e.Arg s) (λ p h. refl)
  node_same (e.Not a) = by_layer (e.Not a.0) (λ p h. ap (λ z. e.Not z) (a.1 h))
  node_same (e.Neg a) = by_layer (e.Neg a.0) (λ p h. ap (λ z. e.Neg z) (a.1 h))
  node_same (e.Arith op a b) = by_layer (e.Arith op a.0 b.0)
      (λ p h. let q = two a b h in λ i. e.Arith op (q.0 i) (q.1 i))
  node_same (e.Compare rel a b) = by_layer (e.Compare rel a.0 b.0)
      (λ p h. let q = two a b h in λ i. e.Compare rel (q.0 i) (q.1 i))
  node_same (e.And a b) = by_layer (e.And a.0 b.0) (λ p h. let q = two a b h in λ i. e.And (q.0 i) (q.1 i))
  node_same (e.Or a b) = by_layer (e.Or a.0 b.0) (λ p h. let q = two a b h in λ i. e.Or (q.0 i) (q.1 i))
  node_same (e.Choose a b c) = by_layer (e.Choose a.0 b.0 c.0)
      (λ p h.
      let q = both_all (λ s. f s ≡ g s)
      (signals_read (expression_of a.0) ++ signals_read (expression_of b.0)) (signals_read (expression_of c.0)) h in
      let r = two a b q.0 in
      λ i. e.Choose (r.0 i) (r.1 i) (c.1 q.1 i))

  part_same : (y : e.Expr-F ℕ Node Part) → IsSame (roll-Expr ℕ
      (map-Expr ℕ Node Part (ExprNode ℕ) (Expr ℕ) (λ n. n.0) (λ n. n.0) y))
  unfolding of_node renamed_node renamed
  part_same y h =
      let x : e.Expr-F ℕ (ExprNode ℕ) (Expr ℕ) = record { pos = y.pos; node = y.node.0 } in
      let read = fold-roll-Expr ℕ (Pos → Expression) Expression node_expression expression_at x in
      fold-roll-Expr ℕ (ExprNode ℕ) (Expr ℕ) (λ x. roll-ExprNode ℕ (replace_step f x)) (λ x. roll-Expr ℕ x) x
      ∙ ap (λ (z : ExprNode ℕ). roll-Expr ℕ (record { pos = y.pos; node = z }))
      (y.node.1 y.pos (subst (λ z. Agree (signals_read z)) read h))
      ∙ sym (fold-roll-Expr ℕ (ExprNode ℕ) (Expr ℕ) (λ x. roll-ExprNode ℕ (replace_step g x))
      (λ x. roll-Expr ℕ x) x)

  same_renamed : (x : Expr ℕ) → IsSame x
  same_renamed =
      ind-Expr ℕ IsSameNode IsSame
      (λ x y is. subst (λ (z : Layer). IsSameNode (roll-ExprNode ℕ z)) is (node_same y))
      (λ x y is. subst (λ (z : e.Expr-F ℕ (ExprNode ℕ) (Expr ℕ)). IsSame (roll-Expr ℕ z)) is (part_same y))

-- ---- tests behind a block

agree_on : (n m : Numbered) → Kept n m → (xs : List ℕ) → AllByRecursion (λ s. nat_lt s (length n.places) ≡ true) xs
    → AllByRecursion (λ s. number_of m s ≡ number_of n s) xs
agree_on n m k [] h = tt
agree_on n m k (x ∷ xs) h = ((k x (ltb-true x (length n.places) h.0)).1, agree_on n m k xs h.1)

same_test : (n m : Numbered) (d : Expr ℕ) → Kept n m → expression_names (length n.places) d ≡ true
    → in_numbers m d ≡ in_numbers n d
same_test n m d k h =
    same_renamed (number_of m) (number_of n) d
    (agree_on n m k (signals_read (expression_of d))
    (all_of (λ s. nat_lt s (length n.places)) (signals_read (expression_of d)) h))

pub block_stands : (modules : List (ModuleNode ℕ)) (deep : ℕ) (b : BlockNode ℕ) (d : Expr ℕ) (a : Around)
    (n : Numbered) → expression_names (length n.places) d ≡ true → StandsIn (block_piece modules deep b) d a n
block_stands modules deep b d a n h =
    record {
      kept = same_test n (block_piece modules deep b (in_trap None a) n).1 d
          (blocks_keep (of_module numbering no_module modules deep) b (in_trap None a) n) h;
    }

pub block_stands_below : (modules : List (ModuleNode ℕ)) (deep : ℕ) (b : BlockNode ℕ) (pos : Pos) (d : Expr ℕ)
    (a : Around) (n : Numbered) → expression_names (length n.places) d ≡ true
    → StandsBelow pos (block_piece modules deep b) d a n
block_stands_below modules deep b pos d a n h =
    let m = with_signal (counter_signal pos) n in
    record {
      kept = same_test n (block_piece modules deep b (in_counter a n) m).1 d
          (blocks_keep (of_module numbering no_module modules deep) b (in_counter a n) m) h;
    }
