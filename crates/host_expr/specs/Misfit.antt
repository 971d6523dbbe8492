-- Where the kinds of an expression do not fit: the first node, in the order of the text, whose parts fit
-- and which itself does not.
-- (This project's own.)
use Rattle.std.specs.Prelude.{◌≡◌, ℕ, Bool, true, ◌&&◌, cond, Option, Some, None, IsSome, is_none}
use Rattle.std.specs.Prelude.{is_some, ◌↔◌, List, [], ◌∷◌, ◌++◌, slice_get}
use Rattle.hh_base.specs.declared.value.Pos.{Pos}
use Rattle.hh_base.specs.declared.value.Kind.{Kind}
use Rattle.hh_base.specs.declared.value.Kind.TheVariants as kind
use Rattle.host_expr.specs.declared.expr.Expr.{Expr}
use Rattle.host_expr.specs.declared.expr.ExprNode.TheOpen as node
use Rattle.host_expr.specs.declared.expr.ExprNode.TheFolds.{fold-Expr}
use Rattle.host_expr.specs.Expression.{expression_of}
use Rattle.host_expr.specs.Kinds.{status_kind, value_kind, only_int, only_bool, both_bool, arith_kind}
use Rattle.host_expr.specs.Kinds.{one_valued, compare_kind, choose_kind, kind_of_expression}

-- a node's kind, where it fits, and the misfits in it: the positions of the nodes whose parts fit and
-- which themselves do not,
-- from left to right
pub record Judged : Type 0 where
  pub kind : Option Kind
  pub misfits : List Pos

abbrev pub all_fit : List Judged → Bool
all_fit [] = true
all_fit (a ∷ parts) = is_some a.kind && all_fit parts

abbrev pub all_misfits : List Judged → List Pos
all_misfits [] = []
all_misfits (a ∷ parts) = a.misfits ++ all_misfits parts

-- a node of this kind at this position, over its parts
abbrev pub judged : Pos → Option Kind → List Judged → Judged
judged p k parts =
    record { kind = k; misfits = cond (all_fit parts && is_none k) (p ∷ []) (all_misfits parts) }

abbrev pub judged_node : List Kind → List Kind → node.ExprNode-F ℕ (Pos → Judged) Judged → Pos → Judged
judged_node signals args (node.Int n) p = judged p (Some kind.Int) []
judged_node signals args (node.Bool b) p = judged p (Some kind.Bool) []
judged_node signals args (node.Text t) p = judged p (Some kind.Text) []
judged_node signals args (node.Now s) p = judged p (status_kind (slice_get signals s)) []
judged_node signals args (node.Pre s) p = judged p (status_kind (slice_get signals s)) []
judged_node signals args (node.NowVal s) p = judged p (value_kind (slice_get signals s)) []
judged_node signals args (node.PreVal s) p = judged p (value_kind (slice_get signals s)) []
judged_node signals args (node.Arg n) p = judged p (value_kind (slice_get args n)) []
judged_node signals args (node.Not a) p = judged p (only_bool a.kind) (a ∷ [])
judged_node signals args (node.Neg a) p = judged p (only_int a.kind) (a ∷ [])
judged_node signals args (node.Arith op a b) p = judged p (arith_kind op a.kind b.kind) (a ∷ b ∷ [])
judged_node signals args (node.Compare rel a b) p = judged p (compare_kind rel a.kind b.kind) (a ∷ b ∷ [])
judged_node signals args (node.And a b) p = judged p (both_bool a.kind b.kind) (a ∷ b ∷ [])
judged_node signals args (node.Or a b) p = judged p (both_bool a.kind b.kind) (a ∷ b ∷ [])
judged_node signals args (node.Choose a b c) p =
    judged p (choose_kind a.kind (one_valued b.kind c.kind)) (a ∷ b ∷ c ∷ [])

abbrev pub judged_here : node.Expr-F ℕ (Pos → Judged) Judged → Judged
judged_here e = e.node e.pos

abbrev pub judged_expr : List Kind → List Kind → Expr ℕ → Judged
judged_expr signals args = fold-Expr ℕ (Pos → Judged) Judged (judged_node signals args) judged_here

abbrev pub first_of : List Pos → Option Pos
first_of [] = None
first_of (p ∷ ps) = Some p

-- the first misfit; one never lies inside another, so from left to right is the order of the text
abbrev pub first_misfit : List Kind → List Kind → Expr ℕ → Option Pos
first_misfit signals args e = first_of (judged_expr signals args e).misfits

-- Law: the kind here is the kind of the expression.
abbrev pub JudgedByKind : Type 0
JudgedByKind =
    (signals args : List Kind) (e : Expr ℕ)
    → (judged_expr signals args e).kind ≡ kind_of_expression signals args (expression_of e)

-- Law: there is a misfit exactly where there is no kind.
abbrev pub MisfitWithoutKind : Type 0
MisfitWithoutKind =
    (signals args : List Kind) (e : Expr ℕ)
    → IsSome (first_misfit signals args e) ↔ (kind_of_expression signals args (expression_of e) ≡ None)
