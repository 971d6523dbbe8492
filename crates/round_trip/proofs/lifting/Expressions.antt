-- The words of an expression are a text of the rule of its place, with the same tree but for places.
use Rattle.std.proofs.Common.{◌≡◌, ℕ, suc, ◌<◌, ◌≤◌, ◌^◌, cond, Bool, true, false, List, [], ◌∷◌, ◌++◌, codes, refl, sym, ap, subst, ◌∙◌, arith}
use Rattle.std.specs.Prelude.{◌&&◌, nat_lt, pos}
use Rattle.std.proofs.lemmas.Bool.{ltb-true, leb-true}
use Rattle.hh_base.specs.Text.{IsText, has_text_bytes}
use Rattle.std.specs.Str.{is_utf8}
use Rattle.host_expr.specs.declared.expr.Expr.{Expr}
use Rattle.host_expr.specs.declared.expr.ExprNode.{roll-ExprNode}
use Rattle.host_expr.specs.declared.expr.ExprNode.TheVariants as x
use Rattle.host_expr.specs.declared.expr.ExprNode.TheOpen as e
use Rattle.module_tree.specs.declared.level.Level.{Level}
use Rattle.module_tree.specs.Parentheses.{Levelled, levelled, levelled_step, is_looser}
use Rattle.module_tree.specs.Parentheses as p
use Rattle.module_tree.specs.SourceWords.{is_written_name, is_written_text}
use Rattle.module_tree.specs.SourceExpressions.{words_step, nesting_step, has_written_words}
use Rattle.grammar.specs.Language as l
use Rattle.grammar.specs.Language.{◌or◌}
use Rattle.grammar.proofs.KindSets.{both as parts}
use Rattle.hh_base.specs.declared.keyword.Keyword.TheVariants as w
use Rattle.module_token.specs.declared.punct.Punct.TheVariants as punct
use Rattle.expression_reader.specs.declared.operator.Access.{Access}
use Rattle.expression_reader.specs.declared.operator.Access.TheVariants as reading
use Rattle.expression_reader.specs.declared.terminal.Terminal.{Terminal}
use Rattle.expression_reader.specs.Trees.{Name, node, accessed}
use Rattle.module_printer.specs.ExpressionTokens.{Lexemes, in_parentheses, node_step, written}
use Rattle.expression_reader.specs.Rules as g
use Rattle.expression_reader.specs.Rules.{Lang}
use Rattle.round_trip.specs.Places.{placeless_expr}
use Rattle.expression_reader.proofs.written.Layers.{expr_layer, of_parts}
use Rattle.round_trip.proofs.lifting.Lifting.{Lifts, Same, lifts_then, lifts_made, lifts_left, lifts_right, lifts_pure}
use Rattle.round_trip.proofs.lifting.OneToken.{Any, lifts_punct, lifts_keyword_mark, lifts_name_mark, lifts_quoted_mark, lifts_number_mark}
use Rattle.round_trip.proofs.lifting.Nodes.{Parts, placeless_parts, same_node}
use Rattle.round_trip.proofs.lifting.Looser.{rule, placed}

-- ---- what is to be told of an expression

abbrev pub nesting_at : Level → Expr Name → ℕ
nesting_at least a = p.at suc least (levelled suc nesting_step a)

abbrev pub words_at : Level → Expr Name → Lexemes
words_at least a = p.at in_parentheses least (written a)

-- there is a first word
abbrev pub Filled : Lexemes → Type 0
Filled ws = (w : List ℕ) × (rest : Lexemes) × (ws ≡ w ∷ rest)

pub filled_append : (xs ys : Lexemes) → Filled xs → Filled (xs ++ ys)
filled_append xs ys h = (h.0, h.1 ++ ys, ap (λ z. z ++ ys) h.2)

filled_place : (b : Bool) (ws : Lexemes) → Filled ws → Filled (cond b (in_parentheses ws) ws)
filled_place true ws h = (codes "(", ws ++ codes ")" ∷ [], refl)
filled_place false ws h = h

pub record Prints (a : Expr Name) : Type 0 where
  pub lifts : (room : ℕ) (least : Level) → nesting_at least a ≤ room
      → Lifts (Same placeless_expr a) (rule least (g.inside room)) (words_at least a)
  pub filled : (least : Level) → Filled (words_at least a)

-- ---- from the parts of a node

abbrev printed_parts : Parts → Levelled Lexemes
printed_parts parts = levelled_step in_parentheses node_step
    (of_parts (levelled_step in_parentheses node_step) parts)

abbrev nested_parts : Parts → Levelled ℕ
nested_parts parts = levelled_step suc nesting_step (of_parts (levelled_step suc nesting_step) parts)

-- a node of this level, of these words and with so many open at once
module _ (place : ℕ) (parts : Parts) (own : Level) (ws : Lexemes) (n : ℕ) where
  abbrev whole : Expr Name
  whole = node place (roll-ExprNode Name parts)

  pub by_parts : printed_parts parts ≡ record { level = own; value = ws }
      → nested_parts parts ≡ record { level = own; value = n } → Filled ws
      → ((room : ℕ) → n ≤ room → Lifts (Same placeless_expr whole) (rule own (g.inside room)) ws)
      → Prints whole
  by_parts words_are nesting_is some h =
      let words : written whole ≡ record { level = own; value = ws } =
      expr_layer (levelled_step in_parentheses node_step) place parts refl ∙ words_are in
      let nesting : levelled suc nesting_step whole ≡ record { level = own; value = n } =
      expr_layer (levelled_step suc nesting_step) place parts refl ∙ nesting_is in
      record {
        lifts = λ room least le.
            subst (λ (z : Levelled Lexemes). Lifts (Same placeless_expr whole) (rule least (g.inside room))
            (p.at in_parentheses least z)) (sym words)
            (placed own n ws h room least (subst (λ (z : Levelled ℕ). p.at suc least z ≤ room) nesting le));
        filled = λ least. subst (λ (z : Levelled Lexemes). Filled (p.at in_parentheses least z)) (sym words)
            (filled_place (is_looser own least) ws some);
      }

pub words_of : (place : ℕ) (parts : Parts) → has_written_words (node place (roll-ExprNode Name parts)) ≡ true
    → words_step (of_parts words_step parts) ≡ true
words_of place parts h = sym (expr_layer words_step place parts refl) ∙ h

-- ---- leaves

module _ (inside : Lang (Expr Name)) {P : Expr Name → Type 0} {ws : Lexemes} where
  pub an_integer : Lifts P g.number_leaf ws → Lifts P (g.operand inside) ws
  an_integer h = lifts_left h

  pub a_truth : (b : Bool) → Lifts P (cond b (g.truth_leaf w.True true) (g.truth_leaf w.False false)) ws
      → Lifts P (g.operand inside) ws
  a_truth true h = lifts_right (lifts_left h)
  a_truth false h = lifts_right (lifts_right (lifts_left h))

  pub a_text : Lifts P g.text_leaf ws → Lifts P (g.operand inside) ws
  a_text h = lifts_right (lifts_right (lifts_right (lifts_left h)))

  pub a_signal : Lifts P g.name_leaf ws → Lifts P (g.operand inside) ws
  a_signal h = lifts_right (lifts_right (lifts_right (lifts_right (lifts_left h))))

pub text_of : (t : List ℕ) → is_written_text t ≡ true → IsText t
text_of t h =
    let outer = parts (is_utf8 t && has_text_bytes t) _ h in
    let inner = parts (is_utf8 t) (has_text_bytes t) outer.0 in
    record { utf8 = inner.0; bytes = inner.1; short = leb-true _ 4096 outer.1 }

pub integer_lifts : (place n : ℕ) → nat_lt n (2 ^ 63) ≡ true
    → Lifts (Same placeless_expr (node place (roll-ExprNode Name (e.Int (pos n))))) g.number_leaf
    (node_step (e.Int (pos n)))
integer_lifts place n h =
    let small : n < 2 ^ 63 = ltb-true n (2 ^ 63) h in
    lifts_made (lifts_number_mark 0 g.largest n (omega arith) (omega (arith, small)) (omega (arith, small)))
    (λ z q. same_node z.0 place (e.Int (pos z.1)) (e.Int (pos n)) (x.rolls-Int (pos z.1))
    (ap (λ (m : ℕ). e.Int (pos m)) q))

pub truth_lifts : (place : ℕ) (b : Bool)
    → Lifts (Same placeless_expr (node place (roll-ExprNode Name (e.Bool b))))
    (cond b (g.truth_leaf w.True true) (g.truth_leaf w.False false)) (node_step (e.Bool b))
truth_lifts place true = lifts_made (lifts_keyword_mark w.True)
    (λ n u. same_node n place (e.Bool true) (e.Bool true) (x.rolls-Bool true) refl)
truth_lifts place false = lifts_made (lifts_keyword_mark w.False)
    (λ n u. same_node n place (e.Bool false) (e.Bool false) (x.rolls-Bool false) refl)

pub text_lifts : (place : ℕ) (t : List ℕ) → is_written_text t ≡ true
    → Lifts (Same placeless_expr (node place (roll-ExprNode Name (e.Text t)))) g.text_leaf
    (node_step (e.Text t))
text_lifts place t h = lifts_made (lifts_quoted_mark t (text_of t h))
    (λ z q. same_node z.0 place (e.Text z.1) (e.Text t) (x.rolls-Text z.1) (ap (λ (m : List ℕ). e.Text m) q))

-- a name, and what stands behind it
pub access_lifts : (a : Terminal) (what : Access) (word : List ℕ) → Lifts Any (l.token a) (word ∷ [])
    → Lifts (λ z. z ≡ what) (g.access_by a what) (word ∷ [])
access_lifts a what word h = lifts_made h (λ n u. refl)

module _ (place : ℕ) (n : Name) (h : is_written_name n ≡ true) where
  pub signal_lifts : (what : Access) (word : List ℕ) (leaf : Name → Parts)
      → ((m : Name) → roll-ExprNode Name (leaf m) ≡ accessed what m)
      → ((m : Name) → placeless_parts (leaf m) ≡ leaf m)
      → Lifts (λ z. z ≡ what) g.access (word ∷ [])
      → Lifts (Same placeless_expr (node place (roll-ExprNode Name (leaf n)))) g.name_leaf
      (n ∷ codes "." ∷ word ∷ [])
  signal_lifts what word leaf rolls maps f =
      lifts_then (lifts_name_mark n h)
      (λ q same. lifts_made (lifts_left (lifts_then (lifts_punct punct.Dot) (λ d u. f)))
      (λ a is. ap (λ z. placeless_expr (node q.0 (accessed z q.1))) is
      ∙ same_node q.0 place (leaf q.1) (leaf n) (rolls q.1) (ap (λ m. placeless_parts (leaf m)) same)))

  pub parameter_lifts : Lifts (Same placeless_expr (node place (roll-ExprNode Name (e.Arg n)))) g.name_leaf
      (n ∷ [])
  parameter_lifts =
      lifts_then (lifts_name_mark n h)
      (λ q same. lifts_made (lifts_right (lifts_pure {P = λ z. z ≡ reading.Parameter} refl))
      (λ a is. ap (λ z. placeless_expr (node q.0 (accessed z q.1))) is
      ∙ same_node q.0 place (e.Arg q.1) (e.Arg n) (x.rolls-Arg q.1) (ap (λ (m : Name). e.Arg m) same)))
