-- The kinds of an expression as it is written. A name that means nothing has no kind, and no node over it is
-- judged. This project's own.
use Rattle.std.specs.Prelude.{cond, Option, Some, None, List, [], ◌∷◌}
use Rattle.hh_base.specs.declared.value.Pos.{Pos}
use Rattle.hh_base.specs.declared.value.Kind.{Kind}
use Rattle.hh_base.specs.declared.value.Kind.TheVariants as kind
use Rattle.host_expr.specs.declared.expr.Expr.{Expr}
use Rattle.host_expr.specs.declared.expr.ExprNode.TheOpen as node
use Rattle.host_expr.specs.declared.expr.ExprNode.TheFolds.{fold-Expr}
use Rattle.host_expr.specs.Kinds.{status_kind, value_kind, only_int, only_bool, both_bool, arith_kind}
use Rattle.host_expr.specs.Kinds.{one_valued, compare_kind, choose_kind}
use Rattle.host_expr.specs.Misfit.{Judged, judged}
use Rattle.module_tree.specs.declared.source.ExprAt.{ExprAt}
use Rattle.module_tree.specs.LinkedFacts.{is_kind}
use Rattle.link_faults.specs.Named.{Name}

-- the kind of what a name means, if it means something
abbrev pub Kinds : Type 0
Kinds = Name → Option Kind

-- a leaf over a name
abbrev pub judged_name : Option Kind → Option Kind → Pos → Judged
judged_name None k p = record { kind = None; misfits = [] }
judged_name (Some meant) k p = judged p k []

abbrev pub judged_node : Kinds → Kinds → node.ExprNode-F Name (Pos → Judged) Judged → Pos → Judged
judged_node signals args (node.Int n) p = judged p (Some kind.Int) []
judged_node signals args (node.Bool b) p = judged p (Some kind.Bool) []
judged_node signals args (node.Text t) p = judged p (Some kind.Text) []
judged_node signals args (node.Now s) p = judged_name (signals s) (status_kind (signals s)) p
judged_node signals args (node.Pre s) p = judged_name (signals s) (status_kind (signals s)) p
judged_node signals args (node.NowVal s) p = judged_name (signals s) (value_kind (signals s)) p
judged_node signals args (node.PreVal s) p = judged_name (signals s) (value_kind (signals s)) p
judged_node signals args (node.Arg n) p = judged_name (args n) (value_kind (args n)) p
judged_node signals args (node.Not a) p = judged p (only_bool a.kind) (a ∷ [])
judged_node signals args (node.Neg a) p = judged p (only_int a.kind) (a ∷ [])
judged_node signals args (node.Arith op a b) p = judged p (arith_kind op a.kind b.kind) (a ∷ b ∷ [])
judged_node signals args (node.Compare rel a b) p = judged p (compare_kind rel a.kind b.kind) (a ∷ b ∷ [])
judged_node signals args (node.And a b) p = judged p (both_bool a.kind b.kind) (a ∷ b ∷ [])
judged_node signals args (node.Or a b) p = judged p (both_bool a.kind b.kind) (a ∷ b ∷ [])
judged_node signals args (node.Choose a b c) p = judged p (choose_kind a.kind (one_valued b.kind c.kind))
    (a ∷ b ∷ c ∷ [])

abbrev pub judged_source : Kinds → Kinds → Expr Name → Judged
judged_source signals args = fold-Expr Name (Pos → Judged) Judged (judged_node signals args)
    (λ x. x.node x.pos)

-- where its parts do not fit together
abbrev pub misfits_in : Kinds → Kinds → ExprAt Name → List Pos
misfits_in signals args x = (judged_source signals args x.expr).misfits

-- at this position, if an expression without misfits has another kind than its place needs
abbrev pub unless_kind : Kind → Pos → Option Kind → List Pos → List Pos
unless_kind k p None misfits = misfits
unless_kind k p (Some own) misfits = cond (is_kind k (Some own)) [] (p ∷ [])

-- the node where its parts do not fit together, or else its first token where its place needs another kind
abbrev pub wrong_for : Kinds → Kinds → Kind → ExprAt Name → List Pos
wrong_for signals args k x = unless_kind k x.pos (judged_source signals args x.expr).kind
    (misfits_in signals args x)

-- a value of a pure signal is wrong whatever its kind
abbrev pub wrong_value : List Pos → Pos → List Pos
wrong_value [] p = p ∷ []
wrong_value (q ∷ qs) p = q ∷ qs
