-- An expression with its names resolved: as many leaves and operators, the same names from left to right, each
-- resolved, and the same kind where each name means something.
use Rattle.std.proofs.Common.{◌≡◌, ℕ, ◌+◌, Bool, true, false, cond, List, [], ◌∷◌, ◌++◌, map, Option, Some}
use Rattle.std.proofs.Common.{None, refl, sym, ap, subst, ◌∙◌}
use Rattle.std.specs.Prelude.{◌&&◌, is_some, slice_get}
use Rattle.std.specs.List.{AllByRecursion}
use Rattle.std.proofs.lemmas.List.{map-append}
use Rattle.hh_base.specs.declared.value.Pos.{Pos}
use Rattle.hh_base.specs.declared.value.Kind.{Kind}
use Rattle.hh_base.specs.declared.value.Kind.TheVariants as kind
use Rattle.host_expr.specs.declared.expr.Expr.{Expr, roll-Expr}
use Rattle.host_expr.specs.declared.expr.ExprNode.{ExprNode, roll-ExprNode}
use Rattle.host_expr.specs.declared.expr.ExprNode.TheVariants as variant
use Rattle.host_expr.specs.declared.expr.ExprNode.TheOpen as e
use Rattle.host_expr.specs.declared.expr.ExprNode.TheFolds.{fold-ExprNode, fold-roll-Expr, fold-roll-ExprNode}
use Rattle.host_expr.specs.declared.expr.ExprNode.TheFolds.{ind-Expr, map-ExprNode, map-Expr}
use Rattle.host_expr.specs.Expression.{Int, Flag, Text, Now, Pre, NowVal, PreVal, Arg, Not, Neg, Arith}
use Rattle.host_expr.specs.Expression.{Compare, And, Or, Choose}
use Rattle.host_expr.specs.Expression.{Expression, node_expression, expression_at, expression_of}
use Rattle.host_expr.specs.Kinds.{kind_of_expression, status_kind, value_kind, only_bool, only_int, arith_kind}
use Rattle.host_expr.specs.Kinds.{compare_kind, both_bool, choose_kind, one_valued}
use Rattle.host_expr.specs.Measures.{leaves_and_operators}
use Rattle.host_expr.specs.Misfit.{Judged, judged, all_fit, all_misfits}
use Rattle.module_tree.specs.declared.source.NameAt.{NameAt}
use Rattle.module_tree.specs.Parts.{read_step, parameter_step, signals_read, parameters_read}
use Rattle.module_tree.specs.SourceExpressions.{size_step, size_of}
use Rattle.link_faults.specs.Named.{Name}
use Rattle.link_faults.specs.SourceKinds.{Kinds, judged_name, judged_node, judged_source}
use Rattle.module_link.proofs.Lists.{nothing_first, append_empty, all_split}
use Rattle.module_link.specs.Resolved.{resolved_name, resolved_node, resolved_expr}

-- ---- where nothing is at fault, something has a kind

abbrev pub HasKind : Judged → Type 0
HasKind a = a.misfits ≡ [] → is_some a.kind ≡ true

all_have_kinds : (parts : List Judged) → AllByRecursion HasKind parts → all_misfits parts ≡ []
    → all_fit parts ≡ true
all_have_kinds [] h none = refl
all_have_kinds (a ∷ parts) h none =
    let q = append_empty a.misfits (all_misfits parts) none in
    both_true (is_some a.kind) (all_fit parts) (h.0 q.0) (all_have_kinds parts h.1 q.1)
  where
    both_true : (a b : Bool) → a ≡ true → b ≡ true → (a && b) ≡ true
    both_true a b e f = ap (λ z. z && b) e ∙ f

-- a node without misfits, whose parts have kinds where they have no misfits, has a kind
judged_has_kind : (p : Pos) (k : Option Kind) (parts : List Judged) → AllByRecursion HasKind parts
    → HasKind (judged p k parts)
judged_has_kind p (Some k) parts h = λ none. refl
judged_has_kind p None parts h = by (all_fit parts) refl
  where
    by : (b : Bool) → all_fit parts ≡ b → cond (b && true) (p ∷ []) (all_misfits parts) ≡ [] → false ≡ true
    by true e none = absurd (nothing_first p [] none)
    by false e none = sym e ∙ all_have_kinds parts h none

-- ---- names that mean something

pub record Means (ks : Kinds) (K : List Kind) (places : Name → ℕ) (n : NameAt Name) : Type 0 where
  pub known : is_some (ks n.name) ≡ true
  pub same : slice_get K (places n.name) ≡ ks n.name

abbrev pub AllMean : Kinds → List Kind → (Name → ℕ) → List (NameAt Name) → Type 0
AllMean ks K places = AllByRecursion (Means ks K places)

-- what is to be shown of an expression or a node: of its kind and misfits
pub record Kinded (ks : Judged) (k : Option Kind) : Type 0 where
  pub same : ks.kind ≡ k
  pub found : HasKind ks

named_kind : (f : Option Kind → Option Kind) (meant : Option Kind) (k : Option Kind) (p : Pos)
    → is_some meant ≡ true → k ≡ meant → Kinded (judged_name meant (f meant) p) (f k)
named_kind f None k p known same = absurd (absent known)
  where
    absent : false ≡ true → ⊥
    absent e = cc
named_kind f (Some m) k p known same = record {
  same = ap f (sym same);
  found = judged_has_kind p (f (Some m)) [] tt;
}

over_one : (p : Pos) (f : Option Kind → Option Kind) (a : Judged) (k : Option Kind) → Kinded a k
    → Kinded (judged p (f a.kind) (a ∷ [])) (f k)
over_one p f a k h = record {
  same = ap f h.same;
  found = judged_has_kind p (f a.kind) (a ∷ []) (h.found, tt);
}

over_two : (p : Pos) (f : Option Kind → Option Kind → Option Kind) (a b : Judged) (k l : Option Kind)
    → Kinded a k → Kinded b l → Kinded (judged p (f a.kind b.kind) (a ∷ b ∷ [])) (f k l)
over_two p f a b k l h g = record {
  same = λ i. f (h.same i) (g.same i);
  found = judged_has_kind p (f a.kind b.kind) (a ∷ b ∷ []) (h.found, (g.found, tt));
}

module _ (signals args : Name → ℕ) where
  abbrev SourceLayer : Type 0
  SourceLayer = e.ExprNode-F Name (ExprNode Name) (Expr Name)

  abbrev Layer : Type 0
  Layer = e.ExprNode-F ℕ (ExprNode ℕ) (Expr ℕ)

  -- ---- the folds at a node

  abbrev size_of_node : ExprNode Name → ℕ
  size_of_node = fold-ExprNode Name ℕ ℕ size_step (λ x. x.node)

  abbrev reads : (R : Type 0) → ExprNode R → Pos → List (NameAt R)
  reads R = fold-ExprNode R (Pos → List (NameAt R)) (List (NameAt R)) read_step (λ x. x.node x.pos)

  abbrev parameters : (R : Type 0) → ExprNode R → Pos → List (NameAt R)
  parameters R = fold-ExprNode R (Pos → List (NameAt R)) (List (NameAt R)) parameter_step
      (λ x. x.node x.pos)

  abbrev judged_at : Kinds → Kinds → ExprNode Name → Pos → Judged
  judged_at ks ka = fold-ExprNode Name (Pos → Judged) Judged (judged_node ks ka) (λ x. x.node x.pos)

  abbrev of_node : ExprNode ℕ → Pos → Expression
  of_node = fold-ExprNode ℕ (Pos → Expression) Expression node_expression expression_at

  abbrev resolve_node : ExprNode Name → ExprNode ℕ
  resolve_node = fold-ExprNode Name (ExprNode ℕ) (Expr ℕ) (resolved_node signals args)
      (λ e. roll-Expr ℕ (record { pos = e.pos; node = e.node }))

  -- ---- what is to be shown

  pub record Facts (size : ℕ) (read taken : List (NameAt Name)) (judges : Kinds → Kinds → Judged)
      (x : Expression) (read' taken' : List (NameAt ℕ)) : Type 0 where
    pub same_size : leaves_and_operators x ≡ size
    pub same_reads : read' ≡ map (resolved_name signals) read
    pub same_parameters : taken' ≡ map (resolved_name args) taken
    pub same_kinds : (ks ka : Kinds) (K A : List Kind) → AllMean ks K signals read → AllMean ka A args taken
        → Kinded (judges ks ka) (kind_of_expression K A x)

  abbrev pub IsResolved : Expr Name → Type 0
  IsResolved x =
      Facts (size_of x) (signals_read x) (parameters_read x) (λ ks ka. judged_source ks ka x)
      (expression_of (resolved_expr signals args x)) (signals_read (resolved_expr signals args x))
      (parameters_read (resolved_expr signals args x))

  abbrev IsResolvedNode : ExprNode Name → Type 0
  IsResolvedNode x =
      (p : Pos) → Facts (size_of_node x) (reads Name x p) (parameters Name x p)
      (λ ks ka. judged_at ks ka x p) (of_node (resolve_node x) p) (reads ℕ (resolve_node x) p)
      (parameters ℕ (resolve_node x) p)

  abbrev Node : Type 0
  Node = (x : ExprNode Name) × IsResolvedNode x

  abbrev Part : Type 0
  Part = (x : Expr Name) × IsResolved x

  sizes_in : SourceLayer → e.ExprNode-F Name ℕ ℕ
  sizes_in = map-ExprNode Name (ExprNode Name) (Expr Name) ℕ ℕ size_of_node size_of

  reads_in : (R : Type 0) → e.ExprNode-F R (ExprNode R) (Expr R)
      → e.ExprNode-F R (Pos → List (NameAt R)) (List (NameAt R))
  reads_in R = map-ExprNode R (ExprNode R) (Expr R) (Pos → List (NameAt R)) (List (NameAt R)) (reads R)
      signals_read

  parameters_in : (R : Type 0) → e.ExprNode-F R (ExprNode R) (Expr R)
      → e.ExprNode-F R (Pos → List (NameAt R)) (List (NameAt R))
  parameters_in R = map-ExprNode R (ExprNode R) (Expr R) (Pos → List (NameAt R)) (List (NameAt R))
      (parameters R) parameters_read

  judged_in : Kinds → Kinds → SourceLayer → e.ExprNode-F Name (Pos → Judged) Judged
  judged_in ks ka = map-ExprNode Name (ExprNode Name) (Expr Name) (Pos → Judged) Judged (judged_at ks ka)
      (judged_source ks ka)

  expressions_in : Layer → e.ExprNode-F ℕ (Pos → Expression) Expression
  expressions_in = map-ExprNode ℕ (ExprNode ℕ) (Expr ℕ) (Pos → Expression) Expression of_node expression_of

  resolved_in : SourceLayer → e.ExprNode-F Name (ExprNode ℕ) (Expr ℕ)
  resolved_in = map-ExprNode Name (ExprNode Name) (Expr Name) (ExprNode ℕ) (Expr ℕ) resolve_node
      (resolved_expr signals args)

  by_layer : (y : SourceLayer) (z : Layer)
      → resolved_node signals args (resolved_in y) ≡ roll-ExprNode ℕ z
      → ((p : Pos) → Facts (size_step (sizes_in y)) (read_step (reads_in Name y) p)
      (parameter_step (parameters_in Name y) p) (λ ks ka. judged_node ks ka (judged_in ks ka y) p)
      (node_expression (expressions_in z) p) (read_step (reads_in ℕ z) p)
      (parameter_step (parameters_in ℕ z) p)) → IsResolvedNode (roll-ExprNode Name y)
  unfolding sizes_in reads_in parameters_in judged_in expressions_in resolved_in
  by_layer y z becomes f p =
      let sizes = fold-roll-ExprNode Name ℕ ℕ size_step (λ x. x.node) y in
      let read = fold-roll-ExprNode Name (Pos → List (NameAt Name)) (List (NameAt Name)) read_step
      (λ x. x.node x.pos) y in
      let taken = fold-roll-ExprNode Name (Pos → List (NameAt Name)) (List (NameAt Name)) parameter_step
      (λ x. x.node x.pos) y in
      let judges = λ (ks ka : Kinds). fold-roll-ExprNode Name (Pos → Judged) Judged (judged_node ks ka)
      (λ x. x.node x.pos) y in
      let tree = fold-roll-ExprNode Name (ExprNode ℕ) (Expr ℕ) (resolved_node signals args)
      (λ e. roll-Expr ℕ (record { pos = e.pos; node = e.node })) y ∙ becomes in
      let expression = ap (λ (x : ExprNode ℕ). of_node x p) tree
      ∙ ap (λ (g : Pos → Expression). g p) (fold-roll-ExprNode ℕ (Pos → Expression) Expression
      node_expression expression_at z) in
      let read' = ap (λ (x : ExprNode ℕ). reads ℕ x p) tree
      ∙ ap (λ (g : Pos → List (NameAt ℕ)). g p) (fold-roll-ExprNode ℕ (Pos → List (NameAt ℕ))
      (List (NameAt ℕ)) read_step (λ x. x.node x.pos) z) in
      let taken' = ap (λ (x : ExprNode ℕ). parameters ℕ x p) tree
      ∙ ap (λ (g : Pos → List (NameAt ℕ)). g p) (fold-roll-ExprNode ℕ (Pos → List (NameAt ℕ))
      (List (NameAt ℕ)) parameter_step (λ x. x.node x.pos) z) in
      let whole : Facts (size_of_node (roll-ExprNode Name y)) (reads Name (roll-ExprNode Name y) p)
      (parameters Name (roll-ExprNode Name y) p) (λ ks ka. judged_at ks ka (roll-ExprNode Name y) p)
      (of_node (resolve_node (roll-ExprNode Name y)) p) (reads ℕ (resolve_node (roll-ExprNode Name y)) p)
      (parameters ℕ (resolve_node (roll-ExprNode Name y)) p)
      ≡ Facts (size_step (sizes_in y)) (read_step (reads_in Name y) p)
      (parameter_step (parameters_in Name y) p) (λ ks ka. judged_node ks ka (judged_in ks ka y) p)
      (node_expression (expressions_in z) p) (read_step (reads_in ℕ z) p)
      (parameter_step (parameters_in ℕ z) p) =
      λ i. Facts (sizes i) (read i p) (taken i p) (λ ks ka. judges ks ka i p) (expression i) (read' i)
      (taken' i) in
      subst (λ (X : Type 0). X) (sym whole) (f p)

  -- ---- leaves

  plain : (x : Expression) → leaves_and_operators x ≡ 1 → (p : Pos) (k : Kind)
      → ((K A : List Kind) → kind_of_expression K A x ≡ Some k)
      → Facts 1 [] [] (λ ks ka. judged p (Some k) []) x [] []
  plain x one p k h = record {
    same_size = one;
    same_reads = refl;
    same_parameters = refl;
    same_kinds = λ ks ka K A known taken. record {
      same = sym (h K A);
      found = judged_has_kind p (Some k) [] tt;
    };
  }

  reading : (x : Expression) → leaves_and_operators x ≡ 1 → (f : Option Kind → Option Kind) (n : Name)
      → ((K A : List Kind) → kind_of_expression K A x ≡ f (slice_get K (signals n))) → (p : Pos)
      → Facts 1 (record { pos = p; name = n } ∷ []) [] (λ ks ka. judged_name (ks n) (f (ks n)) p) x
      (record { pos = p; name = signals n } ∷ []) []
  reading x one f n h p = record {
    same_size = one;
    same_reads = refl;
    same_parameters = refl;
    same_kinds = λ ks ka K A known taken. subst (Kinded (judged_name (ks n) (f (ks n)) p)) (sym (h K A))
        (named_kind f (ks n) (slice_get K (signals n)) p known.0.known known.0.same);
  }

  taking : (x : Expression) → leaves_and_operators x ≡ 1 → (f : Option Kind → Option Kind) (n : Name)
      → ((K A : List Kind) → kind_of_expression K A x ≡ f (slice_get A (args n))) → (p : Pos)
      → Facts 1 [] (record { pos = p; name = n } ∷ []) (λ ks ka. judged_name (ka n) (f (ka n)) p) x []
      (record { pos = p; name = args n } ∷ [])
  taking x one f n h p = record {
    same_size = one;
    same_reads = refl;
    same_parameters = refl;
    same_kinds = λ ks ka K A known taken. subst (Kinded (judged_name (ka n) (f (ka n)) p)) (sym (h K A))
        (named_kind f (ka n) (slice_get A (args n)) p taken.0.known taken.0.same);
  }

  -- ---- operators

  unary : (x : Expression → Expression) (f : Option Kind → Option Kind) (a : Part) (p : Pos)
      → ((y : Expression) → leaves_and_operators (x y) ≡ 1 + leaves_and_operators y)
      → ((K A : List Kind) (y : Expression) → kind_of_expression K A (x y) ≡ f (kind_of_expression K A y))
      → Facts (1 + size_of a.0) (signals_read a.0) (parameters_read a.0)
      (λ ks ka. judged p (f (judged_source ks ka a.0).kind) (judged_source ks ka a.0 ∷ []))
      (x (expression_of (resolved_expr signals args a.0))) (signals_read (resolved_expr signals args a.0))
      (parameters_read (resolved_expr signals args a.0))
  unary x f a p size h =
      let y = expression_of (resolved_expr signals args a.0) in
      record {
        same_size = size y ∙ ap (λ n. 1 + n) a.1.same_size;
        same_reads = a.1.same_reads;
        same_parameters = a.1.same_parameters;
        same_kinds = λ ks ka K A known taken.
            subst (Kinded (judged p (f (judged_source ks ka a.0).kind) (judged_source ks ka a.0 ∷ [])))
            (sym (h K A y)) (over_one p f (judged_source ks ka a.0) (kind_of_expression K A y)
            (a.1.same_kinds ks ka K A known taken));
      }

  joined : (place : Name → ℕ) (xs ys : List (NameAt ℕ)) (ns ms : List (NameAt Name))
      → xs ≡ map (resolved_name place) ns → ys ≡ map (resolved_name place) ms
      → xs ++ ys ≡ map (resolved_name place) (ns ++ ms)
  joined place xs ys ns ms e f = (λ i. e i ++ f i) ∙ sym (map-append (resolved_name place) ns ms)

  binary : (x : Expression → Expression → Expression) (f : Option Kind → Option Kind → Option Kind)
      (a b : Part) (p : Pos)
      → ((y z : Expression) → leaves_and_operators (x y z) ≡ 1 + leaves_and_operators y
      + leaves_and_operators z)
      → ((K A : List Kind) (y z : Expression) → kind_of_expression K A (x y z) ≡ f
      (kind_of_expression K A y) (kind_of_expression K A z))
      → Facts (1 + size_of a.0 + size_of b.0) (signals_read a.0 ++ signals_read b.0)
      (parameters_read a.0 ++ parameters_read b.0)
      (λ ks ka. judged p (f (judged_source ks ka a.0).kind (judged_source ks ka b.0).kind)
      (judged_source ks ka a.0 ∷ judged_source ks ka b.0 ∷ []))
      (x (expression_of (resolved_expr signals args a.0)) (expression_of (resolved_expr signals args b.0)))
      (signals_read (resolved_expr signals args a.0) ++ signals_read (resolved_expr signals args b.0))
      (parameters_read (resolved_expr signals args a.0) ++ parameters_read (resolved_expr signals args b.0))
  binary x f a b p size h =
      let y = expression_of (resolved_expr signals args a.0) in
      let z = expression_of (resolved_expr signals args b.0) in
      record {
        same_size = size y z ∙ (λ i. 1 + a.1.same_size i + b.1.same_size i);
        same_reads = joined signals _ _ (signals_read a.0) (signals_read b.0) a.1.same_reads b.1.same_reads;
        same_parameters = joined args _ _ (parameters_read a.0) (parameters_read b.0) a.1.same_parameters
            b.1.same_parameters;
        same_kinds = λ ks ka K A known taken.
            let k = all_split (Means ks K signals) (signals_read a.0) (signals_read b.0) known in
            let t = all_split (Means ka A args) (parameters_read a.0) (parameters_read b.0) taken in
            subst (Kinded (judged p (f (judged_source ks ka a.0).kind (judged_source ks ka b.0).kind)
            (judged_source ks ka a.0 ∷ judged_source ks ka b.0 ∷ [])))
            (sym (h K A y z)) (over_two p f (judged_source ks ka a.0) (judged_source ks ka b.0)
            (kind_of_expression K A y) (kind_of_expression K A z) (a.1.same_kinds ks ka K A k.0 t.0)
            (b.1.same_kinds ks ka K A k.1 t.1));
      }

  chosen : (a b c : Part) (p : Pos)
      → Facts (1 + size_of a.0 + size_of b.0 + size_of c.0)
      (signals_read a.0 ++ signals_read b.0 ++ signals_read c.0)
      (parameters_read a.0 ++ parameters_read b.0 ++ parameters_read c.0)
      (λ ks ka. judged p (choose_kind (judged_source ks ka a.0).kind (one_valued
      (judged_source ks ka b.0).kind (judged_source ks ka c.0).kind))
      (judged_source ks ka a.0 ∷ judged_source ks ka b.0 ∷ judged_source ks ka c.0 ∷ []))
      (Choose (expression_of (resolved_expr signals args a.0))
      (expression_of (resolved_expr signals args b.0)) (expression_of (resolved_expr signals args c.0)))
      (signals_read (resolved_expr signals args a.0) ++ signals_read (resolved_expr signals args b.0)
      ++ signals_read (resolved_expr signals args c.0))
      (parameters_read (resolved_expr signals args a.0) ++ parameters_read (resolved_expr signals args b.0)
      ++ parameters_read (resolved_expr signals args c.0))
  chosen a b c p =
      record {
        same_size = λ i. 1 + a.1.same_size i + b.1.same_size i + c.1.same_size i;
        same_reads = joined signals _ _ (signals_read a.0 ++ signals_read b.0) (signals_read c.0)
            (joined signals _ _ (signals_read a.0) (signals_read b.0) a.1.same_reads b.1.same_reads)
            c.1.same_reads;
        same_parameters = joined args _ _ (parameters_read a.0 ++ parameters_read b.0) (parameters_read c.0)
            (joined args _ _ (parameters_read a.0) (parameters_read b.0) a.1.same_parameters
            b.1.same_parameters) c.1.same_parameters;
        same_kinds = λ ks ka K A known taken.
            let k = all_split (Means ks K signals) (signals_read a.0 ++ signals_read b.0) (signals_read c.0)
            known in
            let l = all_split (Means ks K signals) (signals_read a.0) (signals_read b.0) k.0 in
            let t = all_split (Means ka A args) (parameters_read a.0 ++ parameters_read b.0)
            (parameters_read c.0) taken in
            let u = all_split (Means ka A args) (parameters_read a.0) (parameters_read b.0) t.0 in
            let x = a.1.same_kinds ks ka K A l.0 u.0 in
            let y = b.1.same_kinds ks ka K A l.1 u.1 in
            let z = c.1.same_kinds ks ka K A k.1 t.1 in
            record {
              same = λ i. choose_kind (x.same i) (one_valued (y.same i) (z.same i));
              found = judged_has_kind p _ (judged_source ks ka a.0 ∷ judged_source ks ka b.0
                  ∷ judged_source ks ka c.0 ∷ []) (x.found, (y.found, (z.found, tt)));
            };
      }

  node_resolved : (y : e.ExprNode-F Name Node Part) → IsResolvedNode
      (roll-ExprNode Name (map-ExprNode Name Node Part (ExprNode Name) (Expr Name) (λ n. n.0) (λ n. n.0) y))
  unfolding sizes_in reads_in parameters_in judged_in expressions_in resolved_in
  node_resolved (e.Int n) = by_layer (e.Int n) (e.Int n) (sym (variant.rolls-Int n))
      (λ p. plain (Int n) refl p kind.Int (λ K A. refl))
  node_resolved (e.Bool b) = by_layer (e.Bool b) (e.Bool b) (sym (variant.rolls-Bool b))
      (λ p. plain (Flag b) refl p kind.Bool (λ K A. refl))
  node_resolved (e.Text t) = by_layer (e.Text t) (e.Text t) (sym (variant.rolls-Text t))
      (λ p. plain (Text t) refl p kind.Text (λ K A. refl))
  node_resolved (e.Now n) = by_layer (e.Now n) (e.Now (signals n)) (sym (variant.rolls-Now _))
      (reading (Now (signals n)) refl status_kind n (λ K A. refl))
  node_resolved (e.Pre n) = by_layer (e.Pre n) (e.Pre (signals n)) (sym (variant.rolls-Pre _))
      (reading (Pre (signals n)) refl status_kind n (λ K A. refl))
  node_resolved (e.NowVal n) = by_layer (e.NowVal n) (e.NowVal (signals n)) (sym (variant.rolls-NowVal _))
      (reading (NowVal (signals n)) refl value_kind n (λ K A. refl))
  node_resolved (e.PreVal n) = by_layer (e.PreVal n) (e.PreVal (signals n)) (sym (variant.rolls-PreVal _))
      (reading (PreVal (signals n)) refl value_kind n (λ K A. refl))
  node_resolved (e.Arg n) = by_layer (e.Arg n) (e.Arg (args n)) (sym (variant.rolls-Arg _))
      (taking (Arg (args n)) refl value_kind n (λ K A. refl))
  node_resolved (e.Not a) = by_layer (e.Not a.0) (e.Not (resolved_expr signals args a.0))
      (sym (variant.rolls-Not _)) (λ p. unary Not only_bool a p (λ y. refl) (λ K A y. refl))
  node_resolved (e.Neg a) = by_layer (e.Neg a.0) (e.Neg (resolved_expr signals args a.0))
      (sym (variant.rolls-Neg _)) (λ p. unary (Neg p) only_int a p (λ y. refl) (λ K A y. refl))
  node_resolved (e.Arith op a b) =
      by_layer (e.Arith op a.0 b.0)
      (e.Arith op (resolved_expr signals args a.0) (resolved_expr signals args b.0))
      (sym (variant.rolls-Arith _ _ _))
      (λ p. binary (Arith p op) (arith_kind op) a b p (λ y z. refl) (λ K A y z. refl))
  node_resolved (e.Compare rel a b) =
      by_layer (e.Compare rel a.0 b.0)
      (e.Compare rel (resolved_expr signals args a.0) (resolved_expr signals args b.0))
      (sym (variant.rolls-Compare _ _ _))
      (λ p. binary (Compare rel) (compare_kind rel) a b p (λ y z. refl) (λ K A y z. refl))
  node_resolved (e.And a b) =
      by_layer (e.And a.0 b.0)
      (e.And (resolved_expr signals args a.0) (resolved_expr signals args b.0)) (sym (variant.rolls-And _ _))
      (λ p. binary And both_bool a b p (λ y z. refl) (λ K A y z. refl))
  node_resolved (e.Or a b) =
      by_layer (e.Or a.0 b.0) (e.Or (resolved_expr signals args a.0) (resolved_expr signals args b.0))
      (sym (variant.rolls-Or _ _)) (λ p. binary Or both_bool a b p (λ y z. refl) (λ K A y z. refl))
  node_resolved (e.Choose a b c) =
      by_layer (e.Choose a.0 b.0 c.0)
      (e.Choose (resolved_expr signals args a.0) (resolved_expr signals args b.0)
      (resolved_expr signals args c.0)) (sym (variant.rolls-Choose _ _ _)) (λ p. chosen a b c p)

  part_resolved : (y : e.Expr-F Name Node Part) → IsResolved (roll-Expr Name
      (map-Expr Name Node Part (ExprNode Name) (Expr Name) (λ n. n.0) (λ n. n.0) y))
  part_resolved y =
      let x : e.Expr-F Name (ExprNode Name) (Expr Name) = record { pos = y.pos; node = y.node.0 } in
      let sizes = fold-roll-Expr Name ℕ ℕ size_step (λ x. x.node) x in
      let read = fold-roll-Expr Name (Pos → List (NameAt Name)) (List (NameAt Name)) read_step
      (λ x. x.node x.pos) x in
      let taken = fold-roll-Expr Name (Pos → List (NameAt Name)) (List (NameAt Name)) parameter_step
      (λ x. x.node x.pos) x in
      let judges = λ (ks ka : Kinds). fold-roll-Expr Name (Pos → Judged) Judged (judged_node ks ka)
      (λ x. x.node x.pos) x in
      let tree = fold-roll-Expr Name (ExprNode ℕ) (Expr ℕ) (resolved_node signals args)
      (λ e. roll-Expr ℕ (record { pos = e.pos; node = e.node })) x in
      let z : e.Expr-F ℕ (ExprNode ℕ) (Expr ℕ) = record { pos = y.pos; node = resolve_node y.node.0 } in
      let expression = ap expression_of tree ∙ fold-roll-Expr ℕ (Pos → Expression) Expression
      node_expression expression_at z in
      let read' = ap (λ (x : Expr ℕ). signals_read x) tree ∙ fold-roll-Expr ℕ (Pos → List (NameAt ℕ))
      (List (NameAt ℕ)) read_step (λ x. x.node x.pos) z in
      let taken' = ap (λ (x : Expr ℕ). parameters_read x) tree ∙ fold-roll-Expr ℕ (Pos → List (NameAt ℕ))
      (List (NameAt ℕ)) parameter_step (λ x. x.node x.pos) z in
      let whole : IsResolved (roll-Expr Name x)
      ≡ Facts (size_of_node y.node.0) (reads Name y.node.0 y.pos) (parameters Name y.node.0 y.pos)
      (λ ks ka. judged_at ks ka y.node.0 y.pos) (of_node (resolve_node y.node.0) y.pos)
      (reads ℕ (resolve_node y.node.0) y.pos) (parameters ℕ (resolve_node y.node.0) y.pos) =
      λ i. Facts (sizes i) (read i) (taken i) (λ ks ka. judges ks ka i) (expression i) (read' i) (taken' i) in
      subst (λ (X : Type 0). X) (sym whole) (y.node.1 y.pos)

  pub expressions_resolved : (x : Expr Name) → IsResolved x
  expressions_resolved =
      ind-Expr Name IsResolvedNode IsResolved
      (λ x y is. subst (λ (z : SourceLayer). IsResolvedNode (roll-ExprNode Name z)) is (node_resolved y))
      (λ x y is. subst (λ (z : e.Expr-F Name (ExprNode Name) (Expr Name)). IsResolved (roll-Expr Name z)) is
      (part_resolved y))
