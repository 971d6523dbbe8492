-- What is judged node by node, with the first faults alone, is what is judged of the expression.
use Rattle.std.proofs.Common.{◌≡◌, ◌&&◌, Bool, true, false, cond, Some, None, Option, List, [], ◌∷◌, ◌++◌, refl}
use Rattle.std.proofs.Common.{sym, ◌∙◌, ap, subst}
use Rattle.std.specs.Prelude.{is_some, is_none, map}
use Rattle.hh_base.specs.declared.value.Pos.{Pos}
use Rattle.hh_base.specs.declared.value.Kind.{Kind}
use Rattle.hh_base.specs.declared.value.Kind.TheVariants as kind
use Rattle.host_expr.specs.declared.expr.Expr.{Expr, roll-Expr}
use Rattle.host_expr.specs.declared.expr.ExprNode.{ExprNode, roll-ExprNode}
use Rattle.host_expr.specs.declared.expr.ExprNode.TheOpen as layer
use Rattle.host_expr.specs.declared.expr.ExprNode.TheFolds.{fold-ExprNode, fold-roll-Expr}
use Rattle.host_expr.specs.declared.expr.ExprNode.TheFolds.{fold-roll-ExprNode, ind-Expr, map-ExprNode}
use Rattle.host_expr.specs.declared.expr.ExprNode.TheFolds.{map-Expr}
use Rattle.host_expr.specs.Kinds.{status_kind, value_kind, only_int, only_bool, both_bool, arith_kind}
use Rattle.host_expr.specs.Kinds.{one_valued, compare_kind, choose_kind}
use Rattle.host_expr.specs.Misfit.{Judged, judged, all_fit, all_misfits}
use Rattle.module_tree.specs.declared.source.NameAt.{NameAt}
use Rattle.module_tree.specs.Parts.{signals_read, parameters_read, read_step, parameter_step}
use Rattle.link_faults.specs.declared.fault.LinkKind.TheVariants as fault
use Rattle.link_faults.specs.declared.fault.LinkFault.{LinkFault}
use Rattle.link_faults.specs.declared.judge.Judgement.{Judgement}
use Rattle.link_faults.specs.Faults.{earlier}
use Rattle.link_faults.specs.Earliest.{first_at, first_by}
use Rattle.link_faults.specs.Named.{Name}
use Rattle.link_faults.specs.SourceKinds.{Kinds, judged_source, judged_name, judged_node}
use Rattle.link_faults.specs.Judgements.{Judges, IsJudgement, first_unknown, unknown_at, over, read}
use Rattle.link_faults.specs.Judgements.{judgement_node, judgement_of, all_have_kinds}
use Rattle.link_faults.proofs.EarlierLaws.{earlier_none, earlier_paired, earlier_grouped, first_at_joined, first_by_joined}

abbrev Names : Type 0
Names = List (NameAt Name)

-- ---- the parts of a node

-- a part of a node, what is judged of it, and what it reads
record PartOf (s g : Kinds) : Type 0 where
  part : Judgement
  of : Judged
  read : Names
  taken : Names
  judges : Judges s g part of read taken

module _ (s g : Kinds) where
  abbrev parts_in : List (PartOf s g) → List Judgement
  parts_in = map (λ (a : PartOf s g). a.part)

  abbrev judged_in : List (PartOf s g) → List Judged
  judged_in = map (λ (a : PartOf s g). a.of)

  abbrev unknown_in : PartOf s g → Option LinkFault
  unknown_in a = earlier (first_unknown s a.read) (first_unknown g a.taken)

  parts_fit : (parts : List (PartOf s g)) → all_have_kinds (parts_in parts) ≡ all_fit (judged_in parts)
  parts_fit [] = refl
  parts_fit (a ∷ parts) = ap (λ k. is_some k && all_have_kinds (parts_in parts)) a.judges.kind
      ∙ ap (λ b. is_some a.of.kind && b) (parts_fit parts)

  parts_misfit : (parts : List (PartOf s g))
      → first_by (λ (j : Judgement). j.misfit) (parts_in parts) ≡ first_at fault.KindWrong
      (all_misfits (judged_in parts))
  parts_misfit [] = refl
  parts_misfit (a ∷ parts) =
      ap (λ m. earlier m (first_by (λ (j : Judgement). j.misfit) (parts_in parts))) a.judges.misfit
      ∙ ap (earlier (first_at fault.KindWrong a.of.misfits)) (parts_misfit parts)
      ∙ sym (first_at_joined fault.KindWrong a.of.misfits (all_misfits (judged_in parts)))

  parts_unknown : (parts : List (PartOf s g))
      → first_by (λ (j : Judgement). j.unknown) (parts_in parts) ≡ first_by unknown_in parts
  parts_unknown [] = refl
  parts_unknown (a ∷ parts) =
      ap (λ m. earlier m (first_by (λ (j : Judgement). j.unknown) (parts_in parts))) a.judges.unknown
      ∙ ap (earlier (unknown_in a)) (parts_unknown parts)

  misfit : Pos → Option Kind → Bool → Option LinkFault → Option LinkFault
  misfit p k b m = cond (b && is_none k) (Some (record { pos = p; kind = fault.KindWrong })) m

  -- a node of this kind over its parts
  node_judges : (p : Pos) (k l : Option Kind) (parts : List (PartOf s g)) (q t : Names) → k ≡ l
      → first_by unknown_in parts ≡ earlier (first_unknown s q) (first_unknown g t)
      → Judges s g (over p k (parts_in parts)) (judged p l (judged_in parts)) q t
  unfolding misfit
  node_judges p k l parts q t e reads = record {
    kind = e;
    misfit = ap (λ k. misfit p k (all_have_kinds (parts_in parts))
        (first_by (λ (j : Judgement). j.misfit) (parts_in parts))) e
        ∙ ap (λ b. misfit p l b (first_by (λ (j : Judgement). j.misfit) (parts_in parts))) (parts_fit parts)
        ∙ ap (misfit p l (all_fit (judged_in parts))) (parts_misfit parts) ∙ by l (all_fit (judged_in parts));
    unknown = parts_unknown parts ∙ reads;
  }
    where
      by : (l : Option Kind) (b : Bool) → misfit p l b (first_at fault.KindWrong
          (all_misfits (judged_in parts)))
          ≡ first_at fault.KindWrong (cond (b && is_none l) (p ∷ []) (all_misfits (judged_in parts)))
      by None true = refl
      by None false = refl
      by (Some k) true = refl
      by (Some k) false = refl

  -- ---- node by node

  abbrev judged_at : ExprNode Name → Pos → Judged
  judged_at = fold-ExprNode Name (Pos → Judged) Judged (judged_node s g) (λ x. x.node x.pos)

  abbrev found_at : ExprNode Name → Pos → Judgement
  found_at = fold-ExprNode Name (Pos → Judgement) Judgement (judgement_node s g) (λ x. x.node x.pos)

  abbrev read_at : ExprNode Name → Pos → Names
  read_at = fold-ExprNode Name (Pos → Names) Names read_step (λ x. x.node x.pos)

  abbrev taken_at : ExprNode Name → Pos → Names
  taken_at = fold-ExprNode Name (Pos → Names) Names parameter_step (λ x. x.node x.pos)

  abbrev RightNode : ExprNode Name → Type 0
  RightNode x = (p : Pos) → Judges s g (found_at x p) (judged_at x p) (read_at x p) (taken_at x p)

  abbrev RightExpr : Expr Name → Type 0
  RightExpr e = IsJudgement s g e (judgement_of s g e)

  from_layer : (x : layer.ExprNode-F Name (ExprNode Name) (Expr Name))
      → ((p : Pos) → Judges s g
      (judgement_node s g (map-ExprNode Name (ExprNode Name) (Expr Name) (Pos → Judgement) Judgement
      found_at (judgement_of s g) x) p)
      (judged_node s g (map-ExprNode Name (ExprNode Name) (Expr Name) (Pos → Judged) Judged
      judged_at (judged_source s g) x) p)
      (read_step (map-ExprNode Name (ExprNode Name) (Expr Name) (Pos → Names) Names
      read_at signals_read x) p)
      (parameter_step (map-ExprNode Name (ExprNode Name) (Expr Name) (Pos → Names) Names
      taken_at parameters_read x) p))
      → RightNode (roll-ExprNode Name x)
  from_layer x h p =
      subst (λ (f : Pos → Judgement). Judges s g (f p) (judged_at (roll-ExprNode Name x) p)
      (read_at (roll-ExprNode Name x) p) (taken_at (roll-ExprNode Name x) p))
      (sym (fold-roll-ExprNode Name (Pos → Judgement) Judgement (judgement_node s g) (λ x. x.node x.pos) x))
      (subst (λ (f : Pos → Judged). Judges s g
      (judgement_node s g (map-ExprNode Name (ExprNode Name) (Expr Name) (Pos → Judgement) Judgement
      found_at (judgement_of s g) x) p) (f p)
      (read_at (roll-ExprNode Name x) p) (taken_at (roll-ExprNode Name x) p))
      (sym (fold-roll-ExprNode Name (Pos → Judged) Judged (judged_node s g) (λ x. x.node x.pos) x))
      (subst (λ (f : Pos → Names). Judges s g
      (judgement_node s g (map-ExprNode Name (ExprNode Name) (Expr Name) (Pos → Judgement) Judgement
      found_at (judgement_of s g) x) p)
      (judged_node s g (map-ExprNode Name (ExprNode Name) (Expr Name) (Pos → Judged) Judged
      judged_at (judged_source s g) x) p) (f p) (taken_at (roll-ExprNode Name x) p))
      (sym (fold-roll-ExprNode Name (Pos → Names) Names read_step (λ x. x.node x.pos) x))
      (subst (λ (f : Pos → Names). Judges s g
      (judgement_node s g (map-ExprNode Name (ExprNode Name) (Expr Name) (Pos → Judgement) Judgement
      found_at (judgement_of s g) x) p)
      (judged_node s g (map-ExprNode Name (ExprNode Name) (Expr Name) (Pos → Judged) Judged
      judged_at (judged_source s g) x) p)
      (read_step (map-ExprNode Name (ExprNode Name) (Expr Name) (Pos → Names) Names
      read_at signals_read x) p) (f p))
      (sym (fold-roll-ExprNode Name (Pos → Names) Names parameter_step (λ x. x.node x.pos) x)) (h p))))

  abbrev Node : Type 0
  Node = (x : ExprNode Name) × RightNode x

  abbrev Part : Type 0
  Part = (e : Expr Name) × RightExpr e

  abbrev part_of : Part → PartOf s g
  part_of a = record {
    part = judgement_of s g a.0;
    of = judged_source s g a.0;
    read = signals_read a.0;
    taken = parameters_read a.0;
    judges = a.1;
  }

  -- a leaf that reads no name
  literal : (p : Pos) (k : Kind) → Judges s g (over p (Some k) []) (judged p (Some k) []) [] []
  literal p k = node_judges p (Some k) (Some k) [] [] [] refl refl

  read_signal : (p : Pos) (n : Name) (k : Option Kind) → Judges s g (read p (s n) k)
      (judged_name (s n) k p) (record { pos = p; name = n } ∷ []) []
  read_signal p n k = by (s n) refl
    where
      by : (m : Option Kind) → s n ≡ m → Judges s g (read p m k) (judged_name m k p)
          (record { pos = p; name = n } ∷ []) []
      by None e = record {
        kind = refl;
        misfit = refl;
        unknown = ap (λ m. earlier (earlier
            (unknown_at p m) None) None) (sym e);
      }
      by (Some m) e = node_judges p k k [] (record { pos = p; name = n } ∷ []) [] refl
          (ap (λ m. earlier (earlier (unknown_at p m) None) None) (sym e))

  read_parameter : (p : Pos) (n : Name) (k : Option Kind) → Judges s g (read p (g n) k)
      (judged_name (g n) k p) [] (record { pos = p; name = n } ∷ [])
  read_parameter p n k = by (g n) refl
    where
      by : (m : Option Kind) → g n ≡ m → Judges s g (read p m k) (judged_name m k p) []
          (record { pos = p; name = n } ∷ [])
      by None e = record {
        kind = refl;
        misfit = refl;
        unknown = ap (λ m. earlier (unknown_at p m) None)
            (sym e);
      }
      by (Some m) e = node_judges p k k [] [] (record { pos = p; name = n } ∷ []) refl
          (ap (λ m. earlier (unknown_at p m) None) (sym e))

  one : (p : Pos) (k : Option Kind → Option Kind) (a : Part)
      → Judges s g (over p (k (judgement_of s g a.0).kind) (judgement_of s g a.0 ∷ []))
      (judged p (k (judged_source s g a.0).kind) (judged_source s g a.0 ∷ []))
      (signals_read a.0) (parameters_read a.0)
  one p k a = node_judges p _ _ (part_of a ∷ []) (signals_read a.0) (parameters_read a.0)
      (ap k a.1.kind) (earlier_none (unknown_in (part_of a)))

  both : (q r t u : Names) → earlier (earlier (first_unknown s q) (first_unknown g t))
      (earlier (first_unknown s r) (first_unknown g u))
      ≡ earlier (first_unknown s (q ++ r)) (first_unknown g (t ++ u))
  both q r t u = earlier_paired (first_unknown s q) (first_unknown g t) (first_unknown s r)
      (first_unknown g u)
      ∙ ap (λ m. earlier m (earlier (first_unknown g t) (first_unknown g u)))
      (sym (first_by_joined (λ (n : NameAt Name). unknown_at n.pos (s n.name)) q r))
      ∙ ap (earlier (first_unknown s (q ++ r)))
      (sym (first_by_joined (λ (n : NameAt Name). unknown_at n.pos (g n.name)) t u))

  two : (p : Pos) (k : Option Kind → Option Kind → Option Kind) (a b : Part)
      → Judges s g (over p (k (judgement_of s g a.0).kind (judgement_of s g b.0).kind)
      (judgement_of s g a.0 ∷ judgement_of s g b.0 ∷ []))
      (judged p (k (judged_source s g a.0).kind (judged_source s g b.0).kind)
      (judged_source s g a.0 ∷ judged_source s g b.0 ∷ []))
      (signals_read a.0 ++ signals_read b.0) (parameters_read a.0 ++ parameters_read b.0)
  two p k a b = node_judges p _ _ (part_of a ∷ part_of b ∷ [])
      (signals_read a.0 ++ signals_read b.0) (parameters_read a.0 ++ parameters_read b.0)
      (ap (λ i. k i (judgement_of s g b.0).kind) a.1.kind ∙ ap (k (judged_source s g a.0).kind) b.1.kind)
      (ap (earlier (unknown_in (part_of a))) (earlier_none (unknown_in (part_of b)))
      ∙ both (signals_read a.0) (signals_read b.0) (parameters_read a.0) (parameters_read b.0))

  three : (p : Pos) (k : Option Kind → Option Kind → Option Kind → Option Kind) (a b c : Part)
      → Judges s g (over p
      (k (judgement_of s g a.0).kind (judgement_of s g b.0).kind (judgement_of s g c.0).kind)
      (judgement_of s g a.0 ∷ judgement_of s g b.0 ∷ judgement_of s g c.0 ∷ []))
      (judged p (k (judged_source s g a.0).kind (judged_source s g b.0).kind (judged_source s g c.0).kind)
      (judged_source s g a.0 ∷ judged_source s g b.0 ∷ judged_source s g c.0 ∷ []))
      (signals_read a.0 ++ signals_read b.0 ++ signals_read c.0)
      (parameters_read a.0 ++ parameters_read b.0 ++ parameters_read c.0)
  three p k a b c = node_judges p _ _ (part_of a ∷ part_of b ∷ part_of c ∷ [])
      (signals_read a.0 ++ signals_read b.0 ++ signals_read c.0)
      (parameters_read a.0 ++ parameters_read b.0 ++ parameters_read c.0)
      (ap (λ i. k i (judgement_of s g b.0).kind (judgement_of s g c.0).kind) a.1.kind
      ∙ ap (λ i. k (judged_source s g a.0).kind i (judgement_of s g c.0).kind) b.1.kind
      ∙ ap (k (judged_source s g a.0).kind (judged_source s g b.0).kind) c.1.kind)
      (ap (λ m. earlier (unknown_in (part_of a)) (earlier (unknown_in (part_of b)) m))
      (earlier_none (unknown_in (part_of c)))
      ∙ sym (earlier_grouped (unknown_in (part_of a)) (unknown_in (part_of b)) (unknown_in (part_of c)))
      ∙ ap (λ m. earlier m (unknown_in (part_of c)))
      (both (signals_read a.0) (signals_read b.0) (parameters_read a.0) (parameters_read b.0))
      ∙ both (signals_read a.0 ++ signals_read b.0) (signals_read c.0)
      (parameters_read a.0 ++ parameters_read b.0) (parameters_read c.0))

  right_node : (y : layer.ExprNode-F Name Node Part)
      → RightNode (roll-ExprNode Name
      (map-ExprNode Name Node Part (ExprNode Name) (Expr Name) (λ n. n.0) (λ n. n.0) y))
  right_node (layer.Int n) = from_layer (layer.Int n) (λ p. literal p kind.Int)
  right_node (layer.Bool b) = from_layer (layer.Bool b) (λ p. literal p kind.Bool)
  right_node (layer.Text t) = from_layer (layer.Text t) (λ p. literal p kind.Text)
  right_node (layer.Now n) = from_layer (layer.Now n) (λ p. read_signal p n (status_kind (s n)))
  right_node (layer.Pre n) = from_layer (layer.Pre n) (λ p. read_signal p n (status_kind (s n)))
  right_node (layer.NowVal n) = from_layer (layer.NowVal n) (λ p. read_signal p n (value_kind (s n)))
  right_node (layer.PreVal n) = from_layer (layer.PreVal n) (λ p. read_signal p n (value_kind (s n)))
  right_node (layer.Arg n) = from_layer (layer.Arg n) (λ p. read_parameter p n (value_kind (g n)))
  right_node (layer.Not a) = from_layer (layer.Not a.0) (λ p. one p only_bool a)
  right_node (layer.Neg a) = from_layer (layer.Neg a.0) (λ p. one p only_int a)
  right_node (layer.Arith o a b) = from_layer (layer.Arith o a.0 b.0) (λ p. two p (arith_kind o) a b)
  right_node (layer.Compare r a b) = from_layer (layer.Compare r a.0 b.0)
      (λ p. two p (compare_kind r) a b)
  right_node (layer.And a b) = from_layer (layer.And a.0 b.0) (λ p. two p both_bool a b)
  right_node (layer.Or a b) = from_layer (layer.Or a.0 b.0) (λ p. two p both_bool a b)
  right_node (layer.Choose a b c) = from_layer (layer.Choose a.0 b.0 c.0)
      (λ p. three p (λ i j k. choose_kind i (one_valued j k)) a b c)

  from_node : (x : layer.Expr-F Name (ExprNode Name) (Expr Name))
      → Judges s g (found_at x.node x.pos) (judged_at x.node x.pos) (read_at x.node x.pos)
      (taken_at x.node x.pos) → RightExpr (roll-Expr Name x)
  from_node x h =
      subst (λ (f : Judgement). Judges s g f (judged_source s g (roll-Expr Name x))
      (signals_read (roll-Expr Name x)) (parameters_read (roll-Expr Name x)))
      (sym (fold-roll-Expr Name (Pos → Judgement) Judgement (judgement_node s g) (λ x. x.node x.pos) x))
      (subst (λ (f : Judged). Judges s g (found_at x.node x.pos) f
      (signals_read (roll-Expr Name x)) (parameters_read (roll-Expr Name x)))
      (sym (fold-roll-Expr Name (Pos → Judged) Judged (judged_node s g) (λ x. x.node x.pos) x))
      (subst (λ (f : Names). Judges s g (found_at x.node x.pos) (judged_at x.node x.pos) f
      (parameters_read (roll-Expr Name x)))
      (sym (fold-roll-Expr Name (Pos → Names) Names read_step (λ x. x.node x.pos) x))
      (subst (λ (f : Names). Judges s g (found_at x.node x.pos) (judged_at x.node x.pos)
      (read_at x.node x.pos) f)
      (sym (fold-roll-Expr Name (Pos → Names) Names parameter_step (λ x. x.node x.pos) x)) h)))

  right_expr : (y : layer.Expr-F Name Node Part)
      → RightExpr (roll-Expr Name (map-Expr Name Node Part (ExprNode Name) (Expr Name) (λ n. n.0) (λ n. n.0) y))
  right_expr y = from_node (record { pos = y.pos; node = y.node.0 }) (y.node.1 y.pos)

  pub is_judged : (e : Expr Name) → IsJudgement s g e (judgement_of s g e)
  is_judged = ind-Expr Name RightNode RightExpr
      (λ x y is. subst
      (λ (z : layer.ExprNode-F Name (ExprNode Name) (Expr Name)). RightNode (roll-ExprNode Name z)) is
      (right_node y))
      (λ x y is. subst (λ (z : layer.Expr-F Name (ExprNode Name) (Expr Name)). RightExpr (roll-Expr Name z)) is
      (right_expr y))
