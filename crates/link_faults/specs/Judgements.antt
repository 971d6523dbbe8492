-- What is judged of an expression: its kind, the first node whose parts do not fit together, and the first
-- name that means nothing. This project's own.
use Rattle.std.specs.Prelude.{◌≡◌, ◌&&◌, Bool, is_some, is_none, cond, Option, Some, None, List}
use Rattle.std.specs.Prelude.{[], ◌∷◌}
use Rattle.std.specs.List.{list_all}
use Rattle.hh_base.specs.declared.value.Pos.{Pos}
use Rattle.hh_base.specs.declared.value.Kind.{Kind}
use Rattle.hh_base.specs.declared.value.Kind.TheVariants as kind
use Rattle.host_expr.specs.declared.expr.Expr.{Expr}
use Rattle.host_expr.specs.declared.expr.ExprNode.TheOpen as node
use Rattle.host_expr.specs.declared.expr.ExprNode.TheFolds.{fold-Expr}
use Rattle.host_expr.specs.Kinds.{status_kind, value_kind, only_int, only_bool, both_bool, arith_kind}
use Rattle.host_expr.specs.Kinds.{one_valued, compare_kind, choose_kind}
use Rattle.host_expr.specs.Misfit.{Judged}
use Rattle.module_tree.specs.declared.source.NameAt.{NameAt}
use Rattle.module_tree.specs.Parts.{signals_read, parameters_read}
use Rattle.link_faults.specs.declared.fault.LinkKind.TheVariants as fault
use Rattle.link_faults.specs.declared.fault.LinkFault.{LinkFault}
use Rattle.link_faults.specs.declared.judge.Judgement.{Judgement}
use Rattle.link_faults.specs.Faults.{earlier}
use Rattle.link_faults.specs.Earliest.{first_at, first_by}
use Rattle.link_faults.specs.Named.{Name}
use Rattle.link_faults.specs.SourceKinds.{Kinds, judged_source}

abbrev pub unknown_at : Pos → Option Kind → Option LinkFault
unknown_at p None = Some (record { pos = p; kind = fault.UnknownSignal })
unknown_at p (Some k) = None

abbrev pub first_unknown : Kinds → List (NameAt Name) → Option LinkFault
first_unknown kinds = first_by (λ (n : NameAt Name). unknown_at n.pos (kinds n.name))

-- of a piece with this kind and these misfits, which reads these signals and parameters
pub record Judges (signals args : Kinds) (j : Judgement) (of : Judged) (read : List (NameAt Name))
    (taken : List (NameAt Name)) : Type 0 where
  pub kind : j.kind ≡ of.kind
  pub misfit : j.misfit ≡ first_at fault.KindWrong of.misfits
  pub unknown : j.unknown ≡ earlier (first_unknown signals read) (first_unknown args taken)

abbrev pub IsJudgement : Kinds → Kinds → Expr Name → Judgement → Type 0
IsJudgement signals args x j = Judges signals args j (judged_source signals args x) (signals_read x)
    (parameters_read x)

-- ---- node by node, with the first faults alone

abbrev pub all_have_kinds : List Judgement → Bool
all_have_kinds = list_all (λ (j : Judgement). is_some j.kind)

-- a node of this kind at this position, over its parts
abbrev pub over : Pos → Option Kind → List Judgement → Judgement
over p k parts = record {
  kind = k;
  misfit = cond (all_have_kinds parts && is_none k) (Some (record { pos = p; kind = fault.KindWrong }))
      (first_by (λ (j : Judgement). j.misfit) parts);
  unknown = first_by (λ (j : Judgement). j.unknown) parts;
}

-- a leaf over a name that means this, and what is read of it
abbrev pub read : Pos → Option Kind → Option Kind → Judgement
read p None k = record { kind = None; misfit = None; unknown = unknown_at p None }
read p (Some meant) k = over p k []

abbrev pub judgement_node : Kinds → Kinds → node.ExprNode-F Name (Pos → Judgement) Judgement → Pos
    → Judgement
judgement_node signals args (node.Int n) p = over p (Some kind.Int) []
judgement_node signals args (node.Bool b) p = over p (Some kind.Bool) []
judgement_node signals args (node.Text t) p = over p (Some kind.Text) []
judgement_node signals args (node.Now s) p = read p (signals s) (status_kind (signals s))
judgement_node signals args (node.Pre s) p = read p (signals s) (status_kind (signals s))
judgement_node signals args (node.NowVal s) p = read p (signals s) (value_kind (signals s))
judgement_node signals args (node.PreVal s) p = read p (signals s) (value_kind (signals s))
judgement_node signals args (node.Arg n) p = read p (args n) (value_kind (args n))
judgement_node signals args (node.Not a) p = over p (only_bool a.kind) (a ∷ [])
judgement_node signals args (node.Neg a) p = over p (only_int a.kind) (a ∷ [])
judgement_node signals args (node.Arith op a b) p = over p (arith_kind op a.kind b.kind) (a ∷ b ∷ [])
judgement_node signals args (node.Compare rel a b) p = over p (compare_kind rel a.kind b.kind) (a ∷ b ∷ [])
judgement_node signals args (node.And a b) p = over p (both_bool a.kind b.kind) (a ∷ b ∷ [])
judgement_node signals args (node.Or a b) p = over p (both_bool a.kind b.kind) (a ∷ b ∷ [])
judgement_node signals args (node.Choose a b c) p = over p
    (choose_kind a.kind (one_valued b.kind c.kind)) (a ∷ b ∷ c ∷ [])

abbrev pub judgement_of : Kinds → Kinds → Expr Name → Judgement
judgement_of signals args = fold-Expr Name (Pos → Judgement) Judgement (judgement_node signals args)
    (λ x. x.node x.pos)
