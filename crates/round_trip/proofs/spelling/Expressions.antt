-- The words of values and expressions.
use Rattle.std.proofs.Common.{◌≡◌, ℕ, suc, ◌^◌, Bool, true, false, List, refl, sym, subst, ◌∙◌, arith}
use Rattle.std.specs.Prelude.{ℤ, pos, negsuc, codes, if◌then◌else◌}
use Rattle.std.proofs.lemmas.Bool.{ltb-true}
use Rattle.hh_base.specs.Keyword.{is_keyword}
use Rattle.hh_base.specs.declared.value.Value.{Value}
use Rattle.hh_base.specs.declared.value.Value.TheVariants as value
use Rattle.host_expr.specs.declared.expr.Op.{Op}
use Rattle.host_expr.specs.declared.expr.Op.TheVariants as op
use Rattle.host_expr.specs.declared.expr.Rel.{Rel}
use Rattle.host_expr.specs.declared.expr.Rel.TheVariants as rel
use Rattle.host_expr.specs.declared.expr.Expr.{Expr, roll-Expr}
use Rattle.host_expr.specs.declared.expr.ExprNode.{ExprNode, roll-ExprNode}
use Rattle.host_expr.specs.declared.expr.ExprNode.TheOpen as e
use Rattle.host_expr.specs.declared.expr.ExprNode.TheFolds.{fold-ExprNode, fold-roll-Expr, fold-roll-ExprNode, ind-Expr, map-ExprNode, map-Expr}
use Rattle.module_tree.specs.declared.level.Level.{Level}
use Rattle.module_tree.specs.declared.level.Level.TheVariants as level
use Rattle.module_tree.specs.Parentheses.{Levelled, is_looser, level_of_op, right_of_op, levelled_step, at}
use Rattle.module_tree.specs.SourceExpressions.{words_step, has_written_words, is_written_expression}
use Rattle.module_tree.specs.SourceWords.{is_written_name, is_written_number, is_written_integer, is_written_value}
use Rattle.hh_base.specs.declared.keyword.Keyword.TheVariants as k
use Rattle.module_token.specs.declared.punct.Punct.TheVariants as p
use Rattle.module_printer.specs.ExpressionTokens.{Lexemes, in_parentheses, tokens_of_integer, token_of_truth, tokens_of_value, token_of_op, token_of_rel, tokens_of_read, node_step, written, written_node, tokens_of_expression}
use Rattle.round_trip.proofs.spelling.Blanks.{and_true}
use Rattle.round_trip.proofs.spelling.Words.{IsSpelt, Spelt, name, plain, keyword, mark, number, text, more, single, both, enclosed}

-- ---- values

pub integer : (n : ℤ) → is_written_integer n ≡ true → Spelt (tokens_of_integer n)
integer (pos n) h = let small = ltb-true n (2 ^ 63) h in single (number n (omega (arith, small)))
integer (negsuc n) h = let small = ltb-true n (2 ^ 63) h in more (mark p.Minus)
    (single (number (suc n) (omega (arith, small))))

truth : (b : Bool) → IsSpelt (token_of_truth b)
truth true = keyword k.True
truth false = keyword k.False

pub first_value : (v : Value) → is_written_value v ≡ true → Spelt (tokens_of_value v)
first_value value.Unit h = absurd (let never : ⊥ = cc in never)
first_value (value.Int n) h = integer n h
first_value (value.Bool b) h = single (truth b)
first_value (value.Text t) h = single (text t h)

-- ---- expressions

operator : (o : Op) → IsSpelt (token_of_op o)
operator op.Add = mark p.Plus
operator op.Sub = mark p.Minus
operator op.Mul = mark p.Star
operator op.Div = mark p.Slash
operator op.Rem = mark p.Percent

relation : (r : Rel) → IsSpelt (token_of_rel r)
relation rel.Eq = mark p.EqualEqual
relation rel.Ne = mark p.NotEqual
relation rel.Lt = mark p.Less
relation rel.Le = mark p.LessEqual
relation rel.Gt = mark p.Greater
relation rel.Ge = mark p.GreaterEqual

-- a signal's name, and a word that is no keyword
read : (n word : List ℕ) → IsSpelt word → is_written_name n ≡ true → Spelt (tokens_of_read n word)
read n word w h = more (name n h) (more (mark p.Dot) (single w))

now : IsSpelt (codes "now")
unfolding is_keyword
now = plain (codes "now") refl

pre : IsSpelt (codes "pre")
unfolding is_keyword
pre = plain (codes "pre") refl

nowval : IsSpelt (codes "nowval")
unfolding is_keyword
nowval = plain (codes "nowval") refl

preval : IsSpelt (codes "preval")
unfolding is_keyword
preval = plain (codes "preval") refl

abbrev Name : Type 0
Name = List ℕ

abbrev Layer : Type 0
Layer = e.ExprNode-F Name (ExprNode Name) (Expr Name)

node_has_words : ExprNode Name → Bool
node_has_words = fold-ExprNode Name Bool Bool words_step (λ x. x.node)

-- where its words can be written, they are spelt
abbrev IsRightNode : ExprNode Name → Type 0
IsRightNode x = node_has_words x ≡ true → Spelt (written_node x).value

abbrev IsRight : Expr Name → Type 0
IsRight x = has_written_words x ≡ true → Spelt (written x).value

-- an operand, in parentheses where its place wants them
part : (least : Level) (x : Expr Name) → IsRight x → has_written_words x ≡ true
    → Spelt (at in_parentheses least (written x))
part least x f h = elim (is_looser (written x).level least) as
    (λ t. Spelt (if t then in_parentheses (written x).value else (written x).value)) [
      | true ↦
          enclosed (f h)
      | false ↦ f h
    ]

abbrev Node : Type 0
Node = (x : ExprNode Name) × IsRightNode x

abbrev Part : Type 0
Part = (x : Expr Name) × IsRight x

-- what the recursions make of a layer
words_in : Layer → e.ExprNode-F Name Bool Bool
words_in = map-ExprNode Name (ExprNode Name) (Expr Name) Bool Bool node_has_words has_written_words

written_in : Layer → e.ExprNode-F Name (Levelled Lexemes) (Levelled Lexemes)
written_in = map-ExprNode Name (ExprNode Name) (Expr Name) (Levelled Lexemes)
    (Levelled Lexemes) written_node written

by_layer : (y : Layer)
    → (words_step (words_in y) ≡ true → Spelt (levelled_step in_parentheses node_step (written_in y)).value)
    → IsRightNode (roll-ExprNode Name y)
unfolding node_has_words words_in written_in
by_layer y f h =
    subst (λ (l : Levelled Lexemes). Spelt l.value)
    (sym (fold-roll-ExprNode Name (Levelled Lexemes) (Levelled Lexemes)
    (levelled_step in_parentheses node_step) (λ x. x.node) y))
    (f (sym (fold-roll-ExprNode Name Bool Bool words_step (λ x. x.node) y) ∙ h))

right_node : (y : e.ExprNode-F Name Node Part) → IsRightNode
    (roll-ExprNode Name (map-ExprNode Name Node Part (ExprNode Name) (Expr Name) (λ n. n.0) (λ n. n.0) y))
unfolding words_in written_in
right_node (e.Int n) = by_layer (e.Int n) (integer_word n)
  where
    integer_word : (n : ℤ) → is_written_number n ≡ true → Spelt (tokens_of_integer n)
    integer_word (pos n) h = integer (pos n) h
    integer_word (negsuc n) h = absurd (let never : ⊥ = cc in never)
right_node (e.Bool b) = by_layer (e.Bool b) (λ h. single (truth b))
right_node (e.Text t) = by_layer (e.Text t) (λ h. single (text t h))
right_node (e.Now n) = by_layer (e.Now n) (read n (codes "now") now)
right_node (e.Pre n) = by_layer (e.Pre n) (read n (codes "pre") pre)
right_node (e.NowVal n) = by_layer (e.NowVal n) (read n (codes "nowval") nowval)
right_node (e.PreVal n) = by_layer (e.PreVal n) (read n (codes "preval") preval)
right_node (e.Arg n) = by_layer (e.Arg n) (λ h. single (name n h))
right_node (e.Not a) = by_layer (e.Not a.0) (λ h. more (mark p.Not) (part level.Operand a.0 a.1 h))
right_node (e.Neg a) = by_layer (e.Neg a.0) (λ h. more (mark p.Minus) (part level.Operand a.0 a.1 h))
right_node (e.Arith o a b) = by_layer (e.Arith o a.0 b.0) (λ h. let q = and_true _ _ h in
    both (part (level_of_op o) a.0 a.1 q.0) (more (operator o) (part (right_of_op o) b.0 b.1 q.1)))
right_node (e.Compare r a b) = by_layer (e.Compare r a.0 b.0) (λ h. let q = and_true _ _ h in
    both (part level.Sum a.0 a.1 q.0) (more (relation r) (part level.Sum b.0 b.1 q.1)))
right_node (e.And a b) = by_layer (e.And a.0 b.0) (λ h. let q = and_true _ _ h in
    both (part level.Both a.0 a.1 q.0) (more (mark p.And) (part level.Comparison b.0 b.1 q.1)))
right_node (e.Or a b) = by_layer (e.Or a.0 b.0) (λ h. let q = and_true _ _ h in
    both (part level.Either a.0 a.1 q.0) (more (mark p.Or) (part level.Both b.0 b.1 q.1)))
right_node (e.Choose a b c) =
    by_layer (e.Choose a.0 b.0 c.0)
    (λ h. let q = and_true _ _ h in let r = and_true _ _ q.0 in
    both (both (part level.Either a.0 a.1 r.0) (more (mark p.Question) (part level.Either b.0 b.1 r.1)))
    (more (mark p.Colon) (part level.Either c.0 c.1 q.1)))

right_part : (y : e.Expr-F Name Node Part)
    → IsRight (roll-Expr Name (map-Expr Name Node Part (ExprNode Name) (Expr Name) (λ n. n.0) (λ n. n.0) y))
unfolding node_has_words
right_part y h =
    let x : e.Expr-F Name (ExprNode Name) (Expr Name) = record { pos = y.pos; node = y.node.0 } in
    subst (λ (l : Levelled Lexemes). Spelt l.value)
    (sym (fold-roll-Expr Name (Levelled Lexemes) (Levelled Lexemes)
    (levelled_step in_parentheses node_step) (λ x. x.node) x))
    (y.node.1 (sym (fold-roll-Expr Name Bool Bool words_step (λ x. x.node) x) ∙ h))

is_right : (x : Expr Name) → IsRight x
is_right =
    ind-Expr Name IsRightNode IsRight
    (λ x y is. subst (λ (z : Layer). IsRightNode (roll-ExprNode Name z)) is (right_node y))
    (λ x y is. subst (λ (z : e.Expr-F Name (ExprNode Name) (Expr Name)). IsRight (roll-Expr Name z)) is
    (right_part y))

pub expression : (x : Expr Name) → is_written_expression x ≡ true → Spelt (tokens_of_expression x)
expression x h = is_right x (and_true _ _ h).0
