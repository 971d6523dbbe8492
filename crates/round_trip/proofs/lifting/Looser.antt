-- The rules of expressions by their levels: words of a tighter level are words of a looser one, and between
-- parentheses they may stand anywhere.
use Rattle.std.proofs.Common.{◌≡◌, ℕ, zero, suc, ◌≤◌, cond, Bool, true, false, refl, sym, subst, ⊎_elim, arith}
use Rattle.std.proofs.lemmas.Bool.{cases_eq, ltb-false}
use Rattle.host_expr.specs.declared.expr.Expr.{Expr}
use Rattle.module_tree.specs.declared.level.Level.{Level}
use Rattle.module_tree.specs.declared.level.Level.TheVariants as level
use Rattle.module_tree.specs.Parentheses.{tightness_of, is_looser}
use Rattle.module_tree.specs.Parentheses as p
use Rattle.module_token.specs.declared.punct.Punct.TheVariants as punct
use Rattle.expression_reader.specs.Trees.{Name, compared, chosen}
use Rattle.module_printer.specs.ExpressionTokens.{Lexemes, in_parentheses}
use Rattle.expression_reader.specs.Rules as g
use Rattle.expression_reader.specs.Rules.{Lang}
use Rattle.round_trip.proofs.lifting.Lifting.{Lifts, lifts_then, lifts_made, lifts_right}
use Rattle.round_trip.proofs.lifting.OneToken.{lifts_punct}
use Rattle.round_trip.proofs.lifting.Chains.{lifts_alone, lifts_without}

-- the rule of each rank, by what stands in round brackets
abbrev pub ranked : ℕ → Lang (Expr Name) → Lang (Expr Name)
ranked zero inside = g.expression inside
ranked (suc zero) inside = g.either inside
ranked (suc (suc zero)) inside = g.both inside
ranked (suc (suc (suc zero))) inside = g.comparison inside
ranked (suc (suc (suc (suc zero)))) inside = g.sum inside
ranked (suc (suc (suc (suc (suc zero))))) inside = g.product inside
ranked (suc (suc (suc (suc (suc (suc zero)))))) inside = g.factor inside
ranked (suc (suc (suc (suc (suc (suc (suc n))))))) inside = g.operand inside

abbrev pub rule : Level → Lang (Expr Name) → Lang (Expr Name)
rule l = ranked (tightness_of l)

module _ {P : Expr Name → Type 0} (inside : Lang (Expr Name)) {ws : Lexemes} where
  one_looser : (n : ℕ) → Lifts P (ranked (suc n) inside) ws → Lifts P (ranked n inside) ws
  one_looser zero h = lifts_without chosen (λ a. refl) h
  one_looser (suc zero) h = lifts_alone h
  one_looser (suc (suc zero)) h = lifts_alone h
  one_looser (suc (suc (suc zero))) h = lifts_without compared (λ a. refl) h
  one_looser (suc (suc (suc (suc zero)))) h = lifts_alone h
  one_looser (suc (suc (suc (suc (suc zero))))) h = lifts_alone h
  one_looser (suc (suc (suc (suc (suc (suc zero)))))) h = lifts_right (lifts_right h)
  one_looser (suc (suc (suc (suc (suc (suc (suc n))))))) h = h

  looser : (b a : ℕ) → a ≤ b → Lifts P (ranked b inside) ws → Lifts P (ranked a inside) ws
  looser b a le h = ⊎_elim (λ e. subst (λ n. Lifts P (ranked n inside) ws) (sym e) h) (λ n. below b n le h)
      (cases_eq a b)
    where
      below : (b : ℕ) → (a ≡ b → ⊥) → a ≤ b → Lifts P (ranked b inside) ws → Lifts P (ranked a inside) ws
      below zero n le h = absurd (n (omega (arith, le)))
      below (suc b) n le h = ⊎_elim (λ e. subst (λ n. Lifts P (ranked n inside) ws) (sym e) (one_looser b h))
          (λ m. below b m (omega (arith, le, n)) (one_looser b h)) (cases_eq a b)

-- ---- places

module _ {P : Expr Name → Type 0} (l : Level) (n : ℕ) (ws : Lexemes) (own : (room : ℕ) → n ≤ room
    → Lifts P (rule l (g.inside room)) ws) where
  parenthesized : (room : ℕ) → suc n ≤ room → Lifts P (g.inside room) (in_parentheses ws)
  parenthesized zero le = absurd (let no : ⊥ = omega (arith, le) in no)
  parenthesized (suc room) le =
      lifts_then (lifts_punct punct.LeftParen)
      (λ place u. lifts_then (looser (g.inside room) (tightness_of l) 0 (omega arith)
      (own room (omega (arith, le)))) (λ a h. lifts_made (lifts_punct punct.RightParen) (λ z v. h)))

  -- in a place that takes this level and tighter ones
  pub placed : (room : ℕ) (least : Level) → p.at suc least (record { level = l; value = n }) ≤ room
      → Lifts P (rule least (g.inside room)) (p.at in_parentheses least (record { level = l; value = ws }))
  placed room least = by (is_looser l least) refl
    where
      by : (b : Bool) → is_looser l least ≡ b → cond b (suc n) n ≤ room
          → Lifts P (rule least (g.inside room)) (cond b (in_parentheses ws) ws)
      by true e le = looser (g.inside room) 7 (tightness_of least) (most least)
          (lifts_right (lifts_right (lifts_right (lifts_right (lifts_right (parenthesized room le))))))
        where
          most : (a : Level) → tightness_of a ≤ 7
          most level.Expression = omega arith
          most level.Either = omega arith
          most level.Both = omega arith
          most level.Comparison = omega arith
          most level.Sum = omega arith
          most level.Product = omega arith
          most level.Factor = omega arith
          most level.Operand = omega arith
      by false e le = looser (g.inside room) (tightness_of l) (tightness_of least)
          (ltb-false (tightness_of l) (tightness_of least) e) (own room le)
