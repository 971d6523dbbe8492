-- The words of expressions with operands, from those of the operands, and so of all expressions.
use Rattle.std.proofs.Common.{◌≡◌, ℕ, ◌≤◌, max, true, List, [], ◌∷◌, ◌++◌, codes, Option, Some, refl, sym, subst, ◌∙◌, append_assoc, le_trans}
use Rattle.std.specs.Prelude.{◌&&◌, pos, negsuc}
use Rattle.std.proofs.Math.Nat.{le-max_left, le-max_right}
use Rattle.host_expr.specs.declared.expr.Op.{Op}
use Rattle.host_expr.specs.declared.expr.Op.TheVariants as arith_op
use Rattle.host_expr.specs.declared.expr.Rel.{Rel}
use Rattle.host_expr.specs.declared.expr.Rel.TheVariants as rel
use Rattle.host_expr.specs.declared.expr.Expr.{Expr, roll-Expr}
use Rattle.host_expr.specs.declared.expr.ExprNode.{ExprNode, roll-ExprNode}
use Rattle.host_expr.specs.declared.expr.ExprNode.TheVariants as x
use Rattle.host_expr.specs.declared.expr.ExprNode.TheOpen as e
use Rattle.host_expr.specs.declared.expr.ExprNode.TheFolds.{ind-Expr, map-ExprNode, map-Expr}
use Rattle.module_tree.specs.declared.level.Level.TheVariants as level
use Rattle.module_tree.specs.SourceExpressions.{has_written_words, words_step}
use Rattle.grammar.proofs.KindSets.{both as parts}
use Rattle.module_token.specs.declared.punct.Punct.{Punct}
use Rattle.module_token.specs.declared.punct.Punct.TheVariants as punct
use Rattle.module_token.specs.Spelling.{punct_text}
use Rattle.expression_reader.specs.declared.operator.Operator.{Operator}
use Rattle.expression_reader.specs.declared.operator.Operator.TheVariants as o
use Rattle.expression_reader.specs.declared.operator.Access.TheVariants as reading
use Rattle.expression_reader.specs.declared.terminal.Terminal.TheVariants as t
use Rattle.expression_reader.specs.Trees.{Name, node, binary_node, Term, Branches, applied, compared, chosen}
use Rattle.module_printer.specs.ExpressionTokens.{Lexemes, token_of_rel}
use Rattle.expression_reader.specs.Rules as g
use Rattle.expression_reader.specs.Rules.{Lang}
use Rattle.round_trip.specs.Places.{placeless_expr}
use Rattle.expression_reader.proofs.written.Layers.{of_parts}
use Rattle.round_trip.proofs.lifting.Lifting.{Lifts, Same, lifts_then, lifts_made, lifts_left, lifts_right, lifts_words}
use Rattle.round_trip.proofs.lifting.OneToken.{lifts_punct, lifts_punct_mark, lifts_now, lifts_pre, lifts_nowval, lifts_preval}
use Rattle.round_trip.proofs.lifting.Nodes.{Parts, placeless_parts, same_node, same_joined}
use Rattle.round_trip.proofs.lifting.Chains.{lifts_chain}
use Rattle.round_trip.proofs.lifting.Expressions.{nesting_at, words_at, filled_append, Prints, by_parts, words_of, an_integer, a_truth, a_text, a_signal, integer_lifts, truth_lifts, text_lifts, access_lifts, signal_lifts, parameter_lifts}

abbrev IsSign : Operator → ℕ × Operator → Type 0
IsSign op z = z.1 ≡ op

sign_lifts : (mark : Punct) (op : Operator) → Lifts (IsSign op) (g.binary mark op) (punct_text mark ∷ [])
sign_lifts mark op = lifts_made (lifts_punct_mark mark) (λ n u. refl)

relation_lifts : (r : Rel) → Lifts (IsSign (o.Compare r)) g.relation (token_of_rel r ∷ [])
relation_lifts rel.Eq = lifts_left (sign_lifts punct.EqualEqual (o.Compare rel.Eq))
relation_lifts rel.Ne = lifts_right (lifts_left (sign_lifts punct.NotEqual (o.Compare rel.Ne)))
relation_lifts rel.Lt = lifts_right (lifts_right (lifts_left (sign_lifts punct.Less (o.Compare rel.Lt))))
relation_lifts rel.Le =
    lifts_right (lifts_right (lifts_right (lifts_left (sign_lifts punct.LessEqual (o.Compare rel.Le)))))
relation_lifts rel.Gt =
    lifts_right (lifts_right
    (lifts_right (lifts_right (lifts_left (sign_lifts punct.Greater (o.Compare rel.Gt))))))
relation_lifts rel.Ge =
    lifts_right (lifts_right
    (lifts_right (lifts_right (lifts_right (sign_lifts punct.GreaterEqual (o.Compare rel.Ge))))))

-- ---- two operands

-- an operator, as a node of a tree
record IsBinary (op : Operator) (layer : Expr Name → Expr Name → Parts) : Type 0 where
  rolls : (a b : Expr Name) → roll-ExprNode Name (layer a b) ≡ binary_node op a b
  maps : (a b : Expr Name) → placeless_parts (layer a b) ≡ layer (placeless_expr a) (placeless_expr b)

module _ {op : Operator} {layer : Expr Name → Expr Name → Parts} (binary : IsBinary op layer) (place : ℕ)
    (a b : Expr Name) where
  abbrev whole : Expr Name
  whole = node place (roll-ExprNode Name (layer a b))

  is_same : (c d : Expr Name) (z : ℕ × Operator) → Same placeless_expr a c → z.1 ≡ op
      → Same placeless_expr b d → Same placeless_expr whole (applied c (z, d))
  is_same c d z h s k = same_joined op layer binary.rolls binary.maps place a b c d z s h k

  chain_lifts : {sign : Lang (ℕ × Operator)} {operand : Lang (Expr Name)} {xs ys : Lexemes} {w : List ℕ}
      → Lifts (Same placeless_expr a) (g.chain sign operand) xs → Lifts (IsSign op) sign (w ∷ [])
      → Lifts (Same placeless_expr b) operand ys
      → Lifts (Same placeless_expr whole) (g.chain sign operand) (xs ++ w ∷ ys)
  chain_lifts f z h = lifts_chain f z h is_same

  comparison_lifts : {inside : Lang (Expr Name)} {xs ys : Lexemes} {w : List ℕ}
      → Lifts (Same placeless_expr a) (g.sum inside) xs → Lifts (IsSign op) g.relation (w ∷ [])
      → Lifts (Same placeless_expr b) (g.sum inside) ys
      → Lifts (Same placeless_expr whole) (g.comparison inside) (xs ++ w ∷ ys)
  comparison_lifts {inside} {xs} {ys} {w} f z h =
      lifts_then f (λ c e. lifts_made {P = Behind c} (lifts_left (lifts_made (one c e) (λ b k. k)))
      (λ b k. k))
    where
      Behind : Expr Name → Option Term → Type 0
      Behind c b = Same placeless_expr whole (compared c b)

      one : (c : Expr Name) → Same placeless_expr a c → Lifts (λ b. Behind c (Some b))
          (g.term g.relation (g.sum inside)) (w ∷ ys)
      one c e = lifts_then z (λ n s. lifts_made h (λ d k. is_same c d n e s k))

or_binary : IsBinary o.Or (λ a b. e.Or a b)
or_binary = record { rolls = x.rolls-Or; maps = λ a b. refl }

and_binary : IsBinary o.And (λ a b. e.And a b)
and_binary = record { rolls = x.rolls-And; maps = λ a b. refl }

arith_binary : (z : Op) → IsBinary (o.Arith z) (λ a b. e.Arith z a b)
arith_binary z = record { rolls = x.rolls-Arith z; maps = λ a b. refl }

compare_binary : (r : Rel) → IsBinary (o.Compare r) (λ a b. e.Compare r a b)
compare_binary r = record { rolls = x.rolls-Compare r; maps = λ a b. refl }

-- ---- three operands

module _ (place : ℕ) (a b c : Expr Name) where
  abbrev choice : Expr Name
  choice = node place (roll-ExprNode Name (e.Choose a b c))

  choice_lifts : {inside : Lang (Expr Name)} {xs ys zs : Lexemes}
      → Lifts (Same placeless_expr a) (g.either inside) xs → Lifts (Same placeless_expr b)
      (g.either inside) ys → Lifts (Same placeless_expr c) (g.either inside) zs
      → Lifts (Same placeless_expr choice) (g.expression inside) (xs ++ codes "?" ∷ (ys ++ codes ":" ∷ zs))
  choice_lifts {inside} {xs} {ys} {zs} f h k = lifts_then f (λ d e. lifts_made {P = Behind d}
      (lifts_left (lifts_made (both d e) (λ b s. s))) (λ b s. s))
    where
      Behind : Expr Name → Option Branches → Type 0
      Behind d b = Same placeless_expr choice (chosen d b)

      both : (d : Expr Name) → Same placeless_expr a d → Lifts (λ b. Behind d (Some b)) (g.branches inside)
          (codes "?" ∷ (ys ++ codes ":" ∷ zs))
      both d q =
          lifts_then (lifts_punct_mark punct.Question)
          (λ n u. lifts_then h
          (λ m r. lifts_then (lifts_punct punct.Colon)
          (λ v z. lifts_made k
          (λ w s. same_node n place (e.Choose d m w) (e.Choose a b c) (x.rolls-Choose d m w)
          (λ i. e.Choose (q i) (r i) (s i))))))

-- ---- all expressions

abbrev IsPrinted : Expr Name → Type 0
IsPrinted a = has_written_words a ≡ true → Prints a

abbrev IsPrintedNode : ExprNode Name → Type 0
IsPrintedNode n = (place : ℕ) → IsPrinted (node place n)

abbrev Node : Type 0
Node = (n : ExprNode Name) × IsPrintedNode n

abbrev Part : Type 0
Part = (a : Expr Name) × IsPrinted a

-- within the greater of two, within each
first_of : (a b : ℕ) {n : ℕ} → max a b ≤ n → a ≤ n
first_of a b le = le_trans (le-max_left a b) le

second_of : (a b : ℕ) {n : ℕ} → max a b ≤ n → b ≤ n
second_of a b le = le_trans (le-max_right a b) le

both_words : (place : ℕ) (layer : Parts) (a b : Part) → words_step (of_parts words_step layer)
    ≡ (has_written_words a.0 && has_written_words b.0)
    → has_written_words (node place (roll-ExprNode Name layer)) ≡ true → Prints a.0 × Prints b.0
both_words place layer a b same h = let q = parts _ _ (sym same ∙ words_of place layer h) in
    (a.1 q.0, b.1 q.1)

node_printed : (y : e.ExprNode-F Name Node Part) → IsPrintedNode
    (roll-ExprNode Name (map-ExprNode Name Node Part (ExprNode Name) (Expr Name) (λ z. z.0) (λ z. z.0) y))
node_printed (e.Int (pos n)) place h =
    by_parts place (e.Int (pos n)) level.Operand _ 0 refl refl (_, _, refl)
    (λ room le. an_integer (g.inside room) (integer_lifts place n (words_of place (e.Int (pos n)) h)))
node_printed (e.Int (negsuc n)) place h = absurd (let e = words_of place (e.Int (negsuc n)) h in
    let no : ⊥ = cc in no)
node_printed (e.Bool b) place h = by_parts place (e.Bool b) level.Operand _ 0 refl refl (_, _, refl)
    (λ room le. a_truth (g.inside room) b (truth_lifts place b))
node_printed (e.Text t) place h = by_parts place (e.Text t) level.Operand _ 0 refl refl (_, _, refl)
    (λ room le. a_text (g.inside room) (text_lifts place t (words_of place (e.Text t) h)))
node_printed (e.Now n) place h =
    by_parts place (e.Now n) level.Operand _ 0 refl refl (_, _, refl)
    (λ room le. a_signal (g.inside room) (signal_lifts place n (words_of place (e.Now n) h) reading.Now
    (codes "now") (λ m. e.Now m) x.rolls-Now (λ m. refl)
    (lifts_left (access_lifts t.Now reading.Now (codes "now") lifts_now))))
node_printed (e.Pre n) place h =
    by_parts place (e.Pre n) level.Operand _ 0 refl refl (_, _, refl)
    (λ room le. a_signal (g.inside room) (signal_lifts place n (words_of place (e.Pre n) h) reading.Pre
    (codes "pre") (λ m. e.Pre m) x.rolls-Pre (λ m. refl)
    (lifts_right (lifts_left (access_lifts t.Pre reading.Pre (codes "pre") lifts_pre)))))
node_printed (e.NowVal n) place h =
    by_parts place (e.NowVal n) level.Operand _ 0 refl refl (_, _, refl)
    (λ room le. a_signal (g.inside room)
    (signal_lifts place n (words_of place (e.NowVal n) h) reading.NowVal (codes "nowval")
    (λ m. e.NowVal m) x.rolls-NowVal (λ m. refl) (lifts_right
    (lifts_right (lifts_left (access_lifts t.NowVal reading.NowVal (codes "nowval") lifts_nowval))))))
node_printed (e.PreVal n) place h =
    by_parts place (e.PreVal n) level.Operand _ 0 refl refl (_, _, refl)
    (λ room le. a_signal (g.inside room)
    (signal_lifts place n (words_of place (e.PreVal n) h) reading.PreVal (codes "preval")
    (λ m. e.PreVal m) x.rolls-PreVal (λ m. refl) (lifts_right
    (lifts_right (lifts_right (access_lifts t.PreVal reading.PreVal (codes "preval") lifts_preval))))))
node_printed (e.Arg n) place h = by_parts place (e.Arg n) level.Operand _ 0 refl refl (_, _, refl)
    (λ room le. a_signal (g.inside room) (parameter_lifts place n (words_of place (e.Arg n) h)))
node_printed (e.Not a) place h =
    let f = a.1 (words_of place (e.Not a.0) h) in
    by_parts place (e.Not a.0) level.Factor _ (nesting_at level.Operand a.0) refl refl (_, _, refl)
    (λ room le. lifts_left (lifts_then (lifts_punct_mark punct.Not)
    (λ n u. lifts_made (f.lifts room level.Operand le) (λ c k. same_node n place (e.Not c) (e.Not a.0)
    (x.rolls-Not c) (λ i. e.Not (k i))))))
node_printed (e.Neg a) place h =
    let f = a.1 (words_of place (e.Neg a.0) h) in
    by_parts place (e.Neg a.0) level.Factor _ (nesting_at level.Operand a.0) refl refl (_, _, refl)
    (λ room le. lifts_right
    (lifts_left (lifts_then (lifts_punct_mark punct.Minus)
    (λ n u. lifts_made (f.lifts room level.Operand le) (λ c k. same_node n place (e.Neg c) (e.Neg a.0)
    (x.rolls-Neg c) (λ i. e.Neg (k i)))))))
node_printed (e.Arith arith_op.Add a b) place h =
    let f = both_words place (e.Arith arith_op.Add a.0 b.0) a b refl h in
    by_parts place (e.Arith arith_op.Add a.0 b.0) level.Sum _
    (max (nesting_at level.Sum a.0) (nesting_at level.Product b.0)) refl refl
    (filled_append _ _ (f.0.filled level.Sum))
    (λ room le. chain_lifts (arith_binary arith_op.Add) place a.0 b.0
    (f.0.lifts room level.Sum (first_of _ _ le)) (lifts_left
    (sign_lifts punct.Plus (o.Arith arith_op.Add))) (f.1.lifts room level.Product (second_of _ _ le)))
node_printed (e.Arith arith_op.Sub a b) place h =
    let f = both_words place (e.Arith arith_op.Sub a.0 b.0) a b refl h in
    by_parts place (e.Arith arith_op.Sub a.0 b.0) level.Sum _
    (max (nesting_at level.Sum a.0) (nesting_at level.Product b.0)) refl refl
    (filled_append _ _ (f.0.filled level.Sum))
    (λ room le. chain_lifts (arith_binary arith_op.Sub) place a.0 b.0
    (f.0.lifts room level.Sum (first_of _ _ le)) (lifts_right
    (sign_lifts punct.Minus (o.Arith arith_op.Sub))) (f.1.lifts room level.Product (second_of _ _ le)))
node_printed (e.Arith arith_op.Mul a b) place h =
    let f = both_words place (e.Arith arith_op.Mul a.0 b.0) a b refl h in
    by_parts place (e.Arith arith_op.Mul a.0 b.0) level.Product _
    (max (nesting_at level.Product a.0) (nesting_at level.Factor b.0)) refl refl
    (filled_append _ _ (f.0.filled level.Product))
    (λ room le. chain_lifts (arith_binary arith_op.Mul) place a.0 b.0
    (f.0.lifts room level.Product (first_of _ _ le)) (lifts_left
    (sign_lifts punct.Star (o.Arith arith_op.Mul))) (f.1.lifts room level.Factor (second_of _ _ le)))
node_printed (e.Arith arith_op.Div a b) place h =
    let f = both_words place (e.Arith arith_op.Div a.0 b.0) a b refl h in
    by_parts place (e.Arith arith_op.Div a.0 b.0) level.Product _
    (max (nesting_at level.Product a.0) (nesting_at level.Factor b.0)) refl refl
    (filled_append _ _ (f.0.filled level.Product))
    (λ room le. chain_lifts (arith_binary arith_op.Div) place a.0 b.0
    (f.0.lifts room level.Product (first_of _ _ le)) (lifts_right
    (lifts_left (sign_lifts punct.Slash (o.Arith arith_op.Div))))
    (f.1.lifts room level.Factor (second_of _ _ le)))
node_printed (e.Arith arith_op.Rem a b) place h =
    let f = both_words place (e.Arith arith_op.Rem a.0 b.0) a b refl h in
    by_parts place (e.Arith arith_op.Rem a.0 b.0) level.Product _
    (max (nesting_at level.Product a.0) (nesting_at level.Factor b.0)) refl refl
    (filled_append _ _ (f.0.filled level.Product))
    (λ room le. chain_lifts (arith_binary arith_op.Rem) place a.0 b.0
    (f.0.lifts room level.Product (first_of _ _ le)) (lifts_right
    (lifts_right (sign_lifts punct.Percent (o.Arith arith_op.Rem))))
    (f.1.lifts room level.Factor (second_of _ _ le)))
node_printed (e.Compare r a b) place h =
    let f = both_words place (e.Compare r a.0 b.0) a b refl h in
    by_parts place (e.Compare r a.0 b.0) level.Comparison _ (max (nesting_at level.Sum a.0)
    (nesting_at level.Sum b.0)) refl refl (filled_append _ _ (f.0.filled level.Sum))
    (λ room le. comparison_lifts (compare_binary r) place a.0 b.0 (f.0.lifts room level.Sum (first_of _ _ le))
    (relation_lifts r) (f.1.lifts room level.Sum (second_of _ _ le)))
node_printed (e.And a b) place h =
    let f = both_words place (e.And a.0 b.0) a b refl h in
    by_parts place (e.And a.0 b.0) level.Both _ (max (nesting_at level.Both a.0)
    (nesting_at level.Comparison b.0)) refl refl (filled_append _ _ (f.0.filled level.Both))
    (λ room le. chain_lifts and_binary place a.0 b.0 (f.0.lifts room level.Both (first_of _ _ le))
    (sign_lifts punct.And o.And) (f.1.lifts room level.Comparison (second_of _ _ le)))
node_printed (e.Or a b) place h =
    let f = both_words place (e.Or a.0 b.0) a b refl h in
    by_parts place (e.Or a.0 b.0) level.Either _ (max (nesting_at level.Either a.0)
    (nesting_at level.Both b.0)) refl refl (filled_append _ _ (f.0.filled level.Either))
    (λ room le. chain_lifts or_binary place a.0 b.0 (f.0.lifts room level.Either (first_of _ _ le))
    (sign_lifts punct.Or o.Or) (f.1.lifts room level.Both (second_of _ _ le)))
node_printed (e.Choose a b c) place h =
    let q = parts (has_written_words a.0 && has_written_words b.0) (has_written_words c.0)
    (words_of place (e.Choose a.0 b.0 c.0) h) in
    let r = parts (has_written_words a.0) (has_written_words b.0) q.0 in
    let f = a.1 r.0 in
    let k = b.1 r.1 in
    let j = c.1 q.1 in
    by_parts place (e.Choose a.0 b.0 c.0) level.Expression _
    (max (nesting_at level.Either a.0) (max (nesting_at level.Either b.0) (nesting_at level.Either c.0)))
    refl refl (filled_append _ _ (filled_append _ _ (f.filled level.Either)))
    (λ room le. lifts_words
    (sym (append_assoc (words_at level.Either a.0) (codes "?" ∷ words_at level.Either b.0)
    (codes ":" ∷ words_at level.Either c.0)))
    (choice_lifts place a.0 b.0 c.0 (f.lifts room level.Either (first_of _ _ le))
    (k.lifts room level.Either (first_of _ _ (second_of _ _ le)))
    (j.lifts room level.Either (second_of _ _ (second_of _ _ le)))))

expr_printed : (y : e.Expr-F Name Node Part)
    → IsPrinted (roll-Expr Name (map-Expr Name Node Part (ExprNode Name) (Expr Name) (λ z. z.0) (λ z. z.0) y))
expr_printed y = y.node.1 y.pos.0

pub is_printed : (a : Expr Name) → IsPrinted a
is_printed =
    ind-Expr Name IsPrintedNode IsPrinted
    (λ n y is. subst (λ (z : e.ExprNode-F Name (ExprNode Name) (Expr Name)). IsPrintedNode
    (roll-ExprNode Name z)) is (node_printed y))
    (λ n y is. subst (λ (z : e.Expr-F Name (ExprNode Name) (Expr Name)). IsPrinted (roll-Expr Name z)) is
    (expr_printed y))
