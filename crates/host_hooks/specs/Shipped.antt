-- The hooks of the program as it is shipped: the number of bytes of a text, and whether two texts are the
-- same. (This project's own.)
use Rattle.std.specs.Prelude.{◌≡◌, ℕ, pos, List, [], ◌∷◌}
use Rattle.hh_base.specs.declared.text.TheConstants.{TEXT_LIMIT}
use Rattle.hh_base.specs.declared.value.Kind.{Kind}
use Rattle.hh_base.specs.declared.value.Kind.TheVariants.{Text}
use Rattle.host_expr.specs.declared.expr.Expr.{Expr}
use Rattle.host_expr.specs.declared.expr.Rel.TheVariants.{Eq}
use Rattle.host_expr.specs.Expression.{Expression, Arg, Compare, expression_of}
use Rattle.host_hooks.specs.declared.law.HookLaw.{HookLaw}
use Rattle.host_hooks.specs.declared.law.HookLaw.TheVariants.{Within, Equals}

abbrev pub one_text : List Kind
one_text = Text ∷ []

abbrev pub two_texts : List Kind
two_texts = Text ∷ Text ∷ []

-- no text has more bytes than the limit
abbrev pub size_law : HookLaw
size_law = Within (pos 0) (pos TEXT_LIMIT)

-- the first parameter equals the second
abbrev pub are_same : Expression
are_same = Compare Eq (Arg 0) (Arg 1)

abbrev pub IsSameLaw : HookLaw → Type 0
IsSameLaw law = (e : Expr ℕ) × (law ≡ Equals e) × (expression_of e ≡ are_same)
