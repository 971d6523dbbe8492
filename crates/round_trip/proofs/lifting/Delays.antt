-- The words of outermost expressions, of tests and of delays are texts of their rules.
use Rattle.std.proofs.Common.{◌≡◌, ℕ, zero, suc, ◌≤◌, cond, true, false, List, [], ◌∷◌, ◌++◌, map, codes, decimal, Option, Some, None, refl, sym, ap, subst, ◌∙◌, arith}
use Rattle.std.specs.Prelude.{◌&&◌, nat_le, option_map}
use Rattle.std.proofs.lemmas.Bool.{leb-true}
use Rattle.host_expr.specs.declared.expr.Expr.{Expr}
use Rattle.module_tree.specs.declared.level.Level.{Level}
use Rattle.module_tree.specs.declared.level.Level.TheVariants as level
use Rattle.module_tree.specs.Parentheses.{Levelled, levelled, is_looser}
use Rattle.module_tree.specs.Parentheses as p
use Rattle.module_tree.specs.SourceExpressions.{nesting_step, has_written_words, size_of, nesting_of}
use Rattle.module_tree.specs.SourceForms as tests
use Rattle.module_tree.specs.SourceForms.{fits_expression, fits_later, fits_delay}
use Rattle.module_tree.specs.SourceNesting as nests
use Rattle.module_tree.specs.SourceNesting.{nesting_of_value, nesting_of_later, nesting_of_delay}
use Rattle.module_tree.specs.declared.source.ExprAt.{ExprAt}
use Rattle.module_tree.specs.declared.source.Later.{Later}
use Rattle.module_tree.specs.declared.source.Later.TheVariants as plain
use Rattle.module_tree.specs.declared.source.Delay.{Delay}
use Rattle.module_tree.specs.declared.source.Delay.TheVariants as delay
use Rattle.grammar.specs.Language as l
use Rattle.grammar.specs.Language.{ranks}
use Rattle.grammar.proofs.KindSets.{both as parts}
use Rattle.grammar.proofs.Levels.{marked, few_ranks}
use Rattle.module_token.specs.Tokens.{TextToken}
use Rattle.hh_base.specs.declared.keyword.Keyword.TheVariants as w
use Rattle.module_token.specs.declared.punct.Punct.TheVariants as punct
use Rattle.expression_reader.specs.Terminals.{symbols}
use Rattle.expression_reader.specs.Trees.{Name, pos_at, expr_at}
use Rattle.round_trip.proofs.Lexemes.{Spells}
use Rattle.module_reader.specs.Reading.{to_grammar}
use Rattle.module_printer.specs.ExpressionTokens.{Lexemes, in_parentheses, written, tokens_of_expression}
use Rattle.module_printer.specs.SourceTokens.{if_there, tokens_of_outermost, tokens_of_test, tokens_of_later, tokens_of_delay}
use Rattle.expression_reader.specs.Rules as eg
use Rattle.module_reader.specs.Rules as g
use Rattle.expression_reader.specs.Rules.{Lang}
use Rattle.round_trip.specs.Places.{placeless_expr, placeless_outermost, placeless_later, placeless_delay}
use Rattle.expression_reader.proofs.written.Expressions.{expression}
use Rattle.round_trip.proofs.lifting.Lifting.{Lifts, Lifted, Same, lifts_then, lifts_made, lifts_left, lifts_right, lifts_pure}
use Rattle.round_trip.proofs.lifting.OneToken.{lifts_punct, lifts_keyword, lifts_number}
use Rattle.round_trip.proofs.lifting.LawfulTokens.{lawful}
use Rattle.round_trip.proofs.lifting.Nodes.{is_sized}
use Rattle.round_trip.proofs.lifting.Expressions.{Filled, Prints}
use Rattle.round_trip.proofs.lifting.Operators.{is_printed}

-- ---- brackets

module _ {A : Type 0} {P : A → Type 0} {part : ℕ → Lang A} {ws : Lexemes} (n : ℕ) (h : (left : ℕ) → n ≤ left
    → Lifts P (part left) ws) where
  pub lifts_round : (room : ℕ) → suc n ≤ room → Lifts P (eg.in_round part room) (in_parentheses ws)
  lifts_round zero le = absurd (let no : ⊥ = omega (arith, le) in no)
  lifts_round (suc room) le = lifts_then (lifts_punct punct.LeftParen)
      (λ place u. lifts_then (h room (omega (arith, le))) (λ a e. lifts_made (lifts_punct punct.RightParen)
      (λ z v. e)))

  pub lifts_curly : (room : ℕ) → suc n ≤ room → Lifts P (eg.in_curly part room)
      (codes "{" ∷ (ws ++ codes "}" ∷ []))
  lifts_curly zero le = absurd (let no : ⊥ = omega (arith, le) in no)
  lifts_curly (suc room) le = lifts_then (lifts_punct punct.LeftBrace)
      (λ place u. lifts_then (h room (omega (arith, le))) (λ a e. lifts_made (lifts_punct punct.RightBrace)
      (λ z v. e)))

-- ---- outermost expressions

-- in the loosest place nothing is looser
loosest : (a : Level) → is_looser a level.Expression ≡ false
loosest level.Expression = refl
loosest _ = refl

loosest_place : {A : Type 0} (par : A → A) (a : Levelled A) → p.at par level.Expression a ≡ a.value
loosest_place par a = ap (λ b. cond b (par a.value) a.value) (loosest a.level)

module _ (x : ExprAt Name) (room : ℕ) (fits : fits_expression x ≡ true) (le : nesting_of x.expr ≤ room) where
  written_parts : (has_written_words x.expr ≡ true) × (nat_le (size_of x.expr) 1024 ≡ true)
  written_parts = parts _ _ fits

  prints : Prints x.expr
  prints = is_printed x.expr written_parts.0

  expression_lifts : Lifts (Same placeless_expr x.expr) (eg.expression (eg.inside room))
      (tokens_of_expression x.expr)
  expression_lifts =
      subst (λ ws. Lifts (Same placeless_expr x.expr) (eg.expression (eg.inside room)) ws)
      (loosest_place in_parentheses (written x.expr))
      (prints.lifts room level.Expression (subst (λ n. n ≤ room)
      (sym (loosest_place suc (levelled suc nesting_step x.expr))) le))

  some_word : Filled (tokens_of_expression x.expr)
  some_word = subst Filled (loosest_place in_parentheses (written x.expr)) (prints.filled level.Expression)

  no_words : Spells (tokens_of_expression x.expr) [] → ⊥
  no_words h = subst (λ ws. Spells ws []) some_word.2 h

  few_marks : (ts : List TextToken) → Spells (tokens_of_expression x.expr) ts
      → (y : Lifted (Same placeless_expr x.expr) (eg.expression (eg.inside room)) ts) → marked y.marks ≤ 1024
  few_marks ts h y =
      let is = (expression room).of y.tree (map to_grammar ts) y.marks
      (lawful (tokens_of_expression x.expr) ts h) y.is_text in
      let same : size_of y.tree ≡ size_of x.expr = sym (is_sized y.tree) ∙ ap size_of y.told
      ∙ is_sized x.expr in
      omega (arith, is.size, same, leb-true (size_of x.expr) 1024 written_parts.1)

  outer_lifted : (ts : List TextToken) → Spells (tokens_of_expression x.expr) ts
      → Lifted (λ a. Same placeless_outermost x (expr_at a))
      (l.outer (l.placed (eg.expression (eg.inside room)))) ts
  outer_lifted [] h = absurd (no_words h)
  outer_lifted (t ∷ ts) h =
      let y = expression_lifts.lift (t ∷ ts) h in
      record {
        tree = (t.place, y.tree);
        marks = ranks 0 y.marks;
        is_text = (y.marks, (to_grammar t, map to_grammar ts, refl, refl, y.is_text), refl);
        few = few_ranks symbols 0 y.marks (omega (arith, few_marks (t ∷ ts) h y));
        told = ap (λ (a : Expr Name). let z : ExprAt Name = record { pos = pos_at 0; expr = a } in z) y.told;
      }

  pub outermost_lifts : Lifts (Same placeless_outermost x) (eg.outermost room) (tokens_of_outermost x)
  outermost_lifts = lifts_made (record { lift = outer_lifted }) (λ a e. e)

pub tested_lifts : (x : ExprAt Name) (room : ℕ) → fits_expression x ≡ true → nests.in_parentheses x ≤ room
    → Lifts (Same placeless_outermost x) (eg.test room) (tokens_of_test x)
tested_lifts x room fits le = lifts_round (nesting_of x.expr)
    (λ left h. outermost_lifts x left fits h) room le

pub value_lifts : (v : Option (ExprAt Name)) (room : ℕ) → tests.if_there fits_expression v ≡ true
    → nesting_of_value v ≤ room → Lifts (Same (option_map placeless_outermost) v) (eg.optional (eg.test room))
    (if_there tokens_of_test v)
value_lifts None room fits le = lifts_right (lifts_pure refl)
value_lifts (Some x) room fits le = lifts_left (lifts_made (tested_lifts x room fits le) (λ a e. ap Some e))

-- ---- delays

times_lifts : (n : ℕ) (x : ExprAt Name) (room : ℕ) → nat_le 1 n ≡ true → nat_le n 64 ≡ true
    → fits_expression x ≡ true → nesting_of x.expr ≤ room
    → Lifts (λ (c : ℕ × ExprAt Name). (c.0 ≡ n) × Same placeless_outermost x c.1) (g.times room)
    (decimal n ∷ codes "," ∷ tokens_of_outermost x)
times_lifts n x room some few fits le =
    let low : 1 ≤ n = leb-true 1 n some in
    let high : n ≤ 64 = leb-true n 64 few in
    lifts_then (lifts_number 1 64 n low high (omega (arith, high)))
    (λ z q. lifts_then (lifts_punct punct.Comma) (λ c u. lifts_made (outermost_lifts x room fits le)
    (λ a e. (q, e))))

pub plain_lifts : (d : Later Name) (room : ℕ) → fits_later d ≡ true → nesting_of_later d ≤ room
    → Lifts (Same placeless_later d) (g.later room) (tokens_of_later d)
plain_lifts (plain.Once x) room fits le = lifts_left (lifts_made (tested_lifts x room fits le)
    (λ a e. ap (λ (z : ExprAt Name). plain.Once z) e))
plain_lifts (plain.Count n x) room fits le =
    let q = parts (nat_le 1 n && nat_le n 64) _ fits in
    let r = parts (nat_le 1 n) (nat_le n 64) q.0 in
    lifts_right
    (lifts_then (lifts_keyword w.Count)
    (λ k u. lifts_made (lifts_round (nesting_of x.expr) (λ left h. times_lifts n x left r.0 r.1 q.1 h) room
    le) (λ c e. λ i. plain.Count (e.0 i) (e.1 i))))

pub delay_lifts : (d : Delay Name) (room : ℕ) → fits_delay d ≡ true → nesting_of_delay d ≤ room
    → Lifts (Same placeless_delay d) (g.delay room) (tokens_of_delay d)
delay_lifts (delay.Later d) room fits le = lifts_right (lifts_made (plain_lifts d room fits le)
    (λ a e. ap (λ (z : Later Name). delay.Later z) e))
delay_lifts (delay.Immediate x) room fits le =
    lifts_left (lifts_then (lifts_keyword w.Immediate) (λ k u. lifts_made (tested_lifts x room fits le)
    (λ a e. ap (λ (z : ExprAt Name). delay.Immediate z) e)))
