-- Parts that pass a test, in which no more brackets are open at once than may be: lists and expressions.
use Rattle.std.proofs.Common.{◌≡◌, ℕ, zero, suc, ◌+◌, ◌≤◌, true, Bool, List, [], ◌∷◌, map, refl, subst, arith}
use Rattle.std.specs.List.{AllByRecursion, list_all}
use Rattle.std.proofs.Math.Nat.{max-le}
use Rattle.std.proofs.lemmas.Bool.{le-leb}
use Rattle.host_expr.specs.declared.expr.Expr.{Expr}
use Rattle.module_tree.specs.declared.source.ExprAt.{ExprAt}
use Rattle.module_tree.specs.SourceExpressions.{nesting_of}
use Rattle.module_tree.specs.SourceForms.{if_there, fits_expression}
use Rattle.module_tree.specs.SourceNesting.{in_parentheses, nesting_of_value, largest}
use Rattle.grammar.specs.Texts.{Few}
use Rattle.grammar.specs.Language as l
use Rattle.grammar.specs.Language.{◌>>=◌, ◌>>◌, pure, ranks}
use Rattle.grammar.proofs.Levels.{marked}
use Rattle.expression_reader.specs.declared.terminal.Terminal.{Terminal}
use Rattle.expression_reader.specs.Terminals.{symbols}
use Rattle.expression_reader.specs.Trees.{Name, expr_at}
use Rattle.expression_reader.specs.Rules as g
use Rattle.expression_reader.specs.Rules.{Lang}
use Rattle.expression_reader.proofs.written.Keeping.{Keeps, keeps_then, keeps_after, keeps_pure, keeps_or}
use Rattle.expression_reader.proofs.written.Nodes.{both, nesting_is}
use Rattle.expression_reader.proofs.written.Expressions.{expression}

-- it passes the test, and so many brackets suffice for it
pub record Fits {A : Type 0} (test : A → Bool) (nesting : A → ℕ) (room : ℕ) (a : A) : Type 0 where
  pub passes : test a ≡ true
  pub within : nesting a ≤ room

-- ---- brackets

-- a part between brackets
pub keeps_bracketed : {A : Type 0} {test : A → Bool} {nesting : A → ℕ} {part : ℕ → Lang A}
    (left_one right_one : Terminal) → ((left : ℕ) → Keeps (Fits test nesting left) (part left))
    → (room : ℕ) → Keeps (Fits test (λ a. suc (nesting a)) room)
    (l.opened room left_one (λ left place. part left >>= (λ a. l.token right_one >> pure a)))
keeps_bracketed left_one right_one h zero = record { of = λ a text ks lawful few e. absurd e }
keeps_bracketed left_one right_one h (suc room) =
    keeps_after (λ place. keeps_then (h room) (λ a e. keeps_after
    (λ n. keeps_pure (record { passes = e.passes; within = omega (arith, e.within) }))))

pub keeps_round : {A : Type 0} {test : A → Bool} {nesting : A → ℕ} {part : ℕ → Lang A}
    → ((left : ℕ) → Keeps (Fits test nesting left) (part left))
    → (room : ℕ) → Keeps (Fits test (λ a. suc (nesting a)) room) (g.in_round part room)
keeps_round h room = keeps_bracketed _ _ h room

pub keeps_curly : {A : Type 0} {test : A → Bool} {nesting : A → ℕ} {part : ℕ → Lang A}
    → ((left : ℕ) → Keeps (Fits test nesting left) (part left))
    → (room : ℕ) → Keeps (Fits test (λ a. suc (nesting a)) room) (g.in_curly part room)
keeps_curly h room = keeps_bracketed _ _ h room

-- ---- lists

pub all_fit : {A : Type 0} (test : A → Bool) (nesting : A → ℕ) (room : ℕ) (xs : List A)
    → AllByRecursion (Fits test nesting room) xs → Fits (list_all test)
    (λ ys. largest (map nesting ys)) room xs
all_fit test nesting room [] h = record { passes = refl; within = omega arith }
all_fit test nesting room (a ∷ xs) h =
    let more = all_fit test nesting room xs h.1 in
    record { passes = both h.0.passes more.passes; within = max-le h.0.within more.within }

-- ---- expressions

abbrev pub nesting_at : ExprAt Name → ℕ
nesting_at x = nesting_of x.expr

few_marks : (c : ℕ) (ms : List ℕ) → c ≤ 1024 → Few symbols (ranks c ms) → c + marked ms ≤ 1024
few_marks c [] le few = omega (arith, le)
few_marks c (zero ∷ ms) le few = few_marks c ms le few.1
few_marks c (suc m ∷ ms) le few = omega (arith, few_marks (suc c) ms few.0 few.1)

expr_fits : (room : ℕ) → Keeps (λ (a : ℕ × Expr Name). Fits fits_expression nesting_at room (expr_at a))
    (l.outer (l.placed (g.expression (g.inside room))))
expr_fits room = record {
  of = λ a text ks lawful few h.
      let x = (expression room).of a.1 text h.0 lawful h.1.4 in
      let small = few_marks 0 h.0 (omega arith) (subst (Few symbols) h.2 few) in
      record {
        passes = both x.words (le-leb _ 1024 (omega (arith, small, x.size)));
        within = nesting_is room a.1 (marked h.0) x;
      };
}

pub outermost : (room : ℕ) → Keeps (Fits fits_expression nesting_at room) (g.outermost room)
outermost room = keeps_then (expr_fits room) (λ a h. keeps_pure h)

pub tested : (room : ℕ) → Keeps (Fits fits_expression in_parentheses room) (g.test room)
tested room = keeps_round outermost room

pub value : (room : ℕ) → Keeps (Fits (if_there fits_expression) nesting_of_value room)
    (g.optional (g.test room))
value room = keeps_or
    (keeps_then (tested room) (λ a h. keeps_pure (record { passes = h.passes; within = h.within })))
    (keeps_pure (record { passes = refl; within = omega arith }))
