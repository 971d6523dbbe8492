-- What a text has as an expression is one as they are written, rule by rule.
use Rattle.std.proofs.Common.{◌≡◌, ℕ, zero, suc, ◌+◌, ◌≤◌, true, false, Bool, List, [], ◌∷◌, Option, Some, None, refl, subst, arith}
use Rattle.std.specs.Prelude.{◌^◌, nat_le}
use Rattle.std.proofs.lemmas.Bool.{leb-true, le-leb}
use Rattle.hh_base.specs.Name.{IsName}
use Rattle.hh_base.specs.Text.{IsText}
use Rattle.hh_base.specs.Keyword.{is_keyword}
use Rattle.host_expr.specs.declared.expr.Op.TheVariants as op
use Rattle.host_expr.specs.declared.expr.Rel.TheVariants as rel
use Rattle.host_expr.specs.declared.expr.Rel.{Rel}
use Rattle.host_expr.specs.declared.expr.Expr.{Expr}
use Rattle.module_tree.specs.declared.level.Level.{Level}
use Rattle.module_tree.specs.declared.level.Level.TheVariants as level
use Rattle.module_tree.specs.Parentheses.{tightness_of}
use Rattle.std.specs.Str.{is_utf8}
use Rattle.module_tree.specs.SourceWords.{is_written_name, is_written_text}
use Rattle.grammar.specs.Language as l
use Rattle.grammar.proofs.KindSets.{both as parts}
use Rattle.hh_base.specs.declared.keyword.Keyword.{Keyword}
use Rattle.hh_base.specs.declared.keyword.Keyword.TheVariants as w
use Rattle.module_token.specs.declared.punct.Punct.{Punct}
use Rattle.module_token.specs.declared.punct.Punct.TheVariants as p
use Rattle.expression_reader.specs.declared.terminal.Terminal.{Terminal}
use Rattle.expression_reader.specs.declared.terminal.Terminal.TheVariants as t
use Rattle.expression_reader.specs.declared.operator.Grouping.TheVariants as grouping
use Rattle.expression_reader.specs.declared.operator.Operator.{Operator}
use Rattle.expression_reader.specs.declared.operator.Operator.TheVariants as o
use Rattle.expression_reader.specs.declared.operator.Access.{Access}
use Rattle.expression_reader.specs.declared.operator.Access.TheVariants as reading
use Rattle.expression_reader.specs.Trees.{Name, TextAt, Term, Branches, applied, chained, compared, chosen}
use Rattle.expression_reader.specs.Rules as g
use Rattle.expression_reader.specs.Rules.{Lang}
use Rattle.expression_reader.proofs.Lawful.{Lawful}
use Rattle.expression_reader.proofs.written.Keeping.{Tells, Counts, Sums, IfThere, counts_then, counts_after, counts_pure, counts_or, counts_more, counts_many, counts_optional, counts_counted}
use Rattle.expression_reader.proofs.written.Nodes.{both, IsWritten, Joins, sized, is_written_looser, is_written_inside, int_written, bool_written, text_written, signal_written, not_written, neg_written, choose_written, or_joins, and_joins, relation_joins, arith_joins}

-- ---- one token

written_name : (bs : List ℕ) → is_utf8 bs ≡ true → IsName bs → is_keyword bs ≡ false
    → is_written_name bs ≡ true
written_name bs u h e = both (both (both u h.word) (le-leb _ 255 h.short)) (rw e refl)

written_text : (bs : List ℕ) → IsText bs → is_written_text bs ≡ true
written_text bs h = both (both h.utf8 h.bytes) (le-leb _ 4096 h.short)

pub tells_name : Tells (λ (n : TextAt). is_written_name n.1 ≡ true) g.name
tells_name = record {
  of = λ a text ks lawful h. let t = (subst Lawful h.1 lawful).0 in
      rw h.3 (written_name h.0.text (t.utf8 h.2) (t.name h.2) (t.no_keyword h.2));
}

pub tells_quoted : Tells (λ (n : TextAt). is_written_text n.1 ≡ true) g.quoted
tells_quoted = record {
  of = λ a text ks lawful h. rw h.3 (written_text h.0.text
      ((subst Lawful h.1 lawful).0.quoted h.2));
}

pub tells_number : (least most : ℕ) → Tells (λ (n : ℕ × ℕ). (least ≤ n.1) × (n.1 ≤ most))
    (g.number least most)
tells_number least most = record {
  of = λ a text ks lawful h.
      let within = parts (nat_le least h.0.value) (nat_le h.0.value most) h.3 in
      rw h.4 (leb-true least h.0.value within.0, leb-true h.0.value most within.1);
}

tells_token : (k : Terminal) → Tells (λ n. Unit {0}) (l.token k)
tells_token k = record { of = λ a text ks lawful h. tt }

counts_mark : (k : Terminal) → Counts (λ a n. n ≡ 1) (l.counted_token k)
counts_mark k = counts_more (λ a n h. h.0) (counts_counted (tells_token k))

-- ---- leaves

module _ (room : ℕ) where
  integer : Counts (IsWritten level.Operand room) g.number_leaf
  integer = counts_then (counts_counted (tells_number 0 g.largest))
      (λ q n h. counts_pure (sized (int_written q.0 q.1 (le-leb (suc q.1) (2 ^ 63) (omega (arith, h.1.1))))
      (omega (arith, h.0))))

  truth : (word : Keyword) (b : Bool) → Counts (IsWritten level.Operand room) (g.truth_leaf word b)
  truth word b = counts_then (counts_mark (t.Keyword word)) (λ q n h. counts_pure
      (sized (bool_written q b) (omega (arith, h))))

  text : Counts (IsWritten level.Operand room) g.text_leaf
  text = counts_then (counts_counted tells_quoted) (λ q n h. counts_pure
      (sized (text_written q.0 q.1 h.1) (omega (arith, h.0))))

  access_by : (k : Terminal) (what : Access) → Counts (λ a n. n ≡ 0) (g.access_by k what)
  access_by k what = counts_after (λ n. counts_pure refl)

  behind_dot : Counts (λ a n. n ≡ 0) g.behind_dot
  behind_dot = counts_after (λ n. counts_or (access_by t.Now reading.Now)
      (counts_or (access_by t.Pre reading.Pre) (counts_or (access_by t.NowVal reading.NowVal)
      (access_by t.PreVal reading.PreVal))))

  signal : Counts (IsWritten level.Operand room) g.name_leaf
  signal = counts_then (counts_counted tells_name) (λ q n h. counts_then
      (counts_or behind_dot (counts_pure refl)) (λ a m e. counts_pure
      (sized (signal_written q.0 a q.1 h.1) (omega (arith, h.0, e)))))

-- ---- operators

-- an operator that joins so, as one leaf or operator
record IsSign (left own right : Level) (z : ℕ × Operator) (n : ℕ) : Type 0 where
  one : n ≡ 1
  joins : Joins left own right z.1

binary : {left own right : Level} (k : Punct) (z : Operator) → Joins left own right z
    → Counts (IsSign left own right) (g.binary k z)
binary k z h = counts_then (counts_mark (t.Punct k)) (λ q n e. counts_pure
    (record { one = omega (arith, e); joins = h }))

-- a level at which operators group to the left, and that of what stands between them
record IsGroup (own right : Level) (sign : Lang (ℕ × Operator)) : Type 0 where
  signs : Counts (IsSign own own right) sign
  tighter : tightness_of own ≤ tightness_of right

products : IsGroup level.Product level.Factor (g.operator grouping.Product)
products = record {
  signs = counts_or (binary p.Star (o.Arith op.Mul) (arith_joins op.Mul))
      (counts_or (binary p.Slash (o.Arith op.Div) (arith_joins op.Div))
      (binary p.Percent (o.Arith op.Rem) (arith_joins op.Rem)));
  tighter = omega arith;
}

sums : IsGroup level.Sum level.Product (g.operator grouping.Sum)
sums = record {
  signs = counts_or (binary p.Plus (o.Arith op.Add) (arith_joins op.Add))
      (binary p.Minus (o.Arith op.Sub) (arith_joins op.Sub));
  tighter = omega arith;
}

conjunctions : IsGroup level.Both level.Comparison (g.operator grouping.Both)
conjunctions = record { signs = binary p.And o.And and_joins; tighter = omega arith }

disjunctions : IsGroup level.Either level.Both (g.operator grouping.Either)
disjunctions = record { signs = binary p.Or o.Or or_joins; tighter = omega arith }

relations : Counts (IsSign level.Sum level.Comparison level.Sum) g.relation
relations =
    counts_or (relation p.EqualEqual rel.Eq) (counts_or (relation p.NotEqual rel.Ne)
    (counts_or (relation p.Less rel.Lt) (counts_or (relation p.LessEqual rel.Le)
    (counts_or (relation p.Greater rel.Gt) (relation p.GreaterEqual rel.Ge)))))
  where
    relation : (k : Punct) (r : Rel) → Counts (IsSign level.Sum level.Comparison level.Sum)
        (g.binary k (o.Compare r))
    relation k r = binary k (o.Compare r) (relation_joins r)

-- ---- operands

-- an operator and the operand behind it
record IsTerm (left own right : Level) (room : ℕ) (b : Term) (n : ℕ) : Type 0 where
  count : ℕ
  size : n ≡ 1 + count
  joins : Joins left own right b.0.1
  written : IsWritten right room b.1 count

module _ (room : ℕ) where
  term : {left own right : Level} {sign : Lang (ℕ × Operator)} {operand : Lang (Expr Name)}
      → Counts (IsSign left own right) sign → Counts (IsWritten right room) operand
      → Counts (IsTerm left own right room) (g.term sign operand)
  term f h = counts_then f
      (λ z n e. counts_then h
      (λ a k w. counts_pure (record {
        count = k;
        size = omega (arith, e.one);
        joins = e.joins;
        written = w;
      })))

  chained_written : (own right : Level) (a : Expr Name) (bs : List Term) (n m : ℕ) → IsWritten own room a n
      → Sums (IsTerm own own right room) bs m → IsWritten own room (chained a bs) (n + m)
  chained_written own right a [] n m h e = sized h (omega (arith, e))
  chained_written own right a (b ∷ bs) n m h e =
      let z = e.3 in
      let next = z.joins room b.0.0 a b.1 n z.count h z.written in
      sized (chained_written own right (applied a b) bs (n + (1 + z.count)) e.1 next e.4)
      (omega (arith, e.2, z.size))

  chain : {own right : Level} {sign : Lang (ℕ × Operator)} {operand : Lang (Expr Name)}
      → IsGroup own right sign → Counts (IsWritten right room) operand
      → Counts (IsWritten own room) (g.chain sign operand)
  chain {own} {right} f h =
      counts_then h
      (λ a n w. counts_then (counts_many (term f.signs h))
      (λ bs m s. counts_pure
      (sized (chained_written own right a bs n m (is_written_looser own right f.tighter w) s)
      (omega arith))))

-- ---- expressions, by what stands in round brackets

module _ (room : ℕ) (inside : Lang (Expr Name)) (written : Counts (IsWritten level.Operand room) inside) where
  atom : Counts (IsWritten level.Operand room) (g.operand inside)
  atom = counts_or (integer room) (counts_or (truth room w.True true)
      (counts_or (truth room w.False false) (counts_or (text room) (counts_or (signal room) written))))

  negated : Counts (IsWritten level.Factor room) (g.negated inside)
  negated = counts_then (counts_mark (t.Punct p.Not)) (λ q n e. counts_then atom
      (λ a k h. counts_pure (sized (not_written q h) (omega (arith, e)))))

  negative : Counts (IsWritten level.Factor room) (g.negative inside)
  negative = counts_then (counts_mark (t.Punct p.Minus)) (λ q n e. counts_then atom
      (λ a k h. counts_pure (sized (neg_written q h) (omega (arith, e)))))

  unary : Counts (IsWritten level.Factor room) (g.factor inside)
  unary = counts_or negated
      (counts_or negative (counts_more (λ a n h. is_written_looser level.Factor level.Operand (omega arith) h)
      atom))

  product : Counts (IsWritten level.Product room) (g.product inside)
  product = chain room products unary

  sum : Counts (IsWritten level.Sum room) (g.sum inside)
  sum = chain room sums product

  comparison : Counts (IsWritten level.Comparison room) (g.comparison inside)
  comparison = counts_then sum (λ a n h. counts_then (counts_optional (term room relations sum))
      (λ b m e. counts_pure (compared_written a n h b m e)))
    where
      compared_written : (a : Expr Name) (n : ℕ) → IsWritten level.Sum room a n → (b : Option Term) (m : ℕ)
          → IfThere (IsTerm level.Sum level.Comparison level.Sum room) b m
          → IsWritten level.Comparison room (compared a b) (n + (m + 0))
      compared_written a n h None m e = sized (is_written_looser level.Comparison level.Sum (omega arith) h)
          (omega (arith, e))
      compared_written a n h (Some b) m e = sized (e.joins room b.0.0 a b.1 n e.count h e.written)
          (omega (arith, e.size))

  conjunction : Counts (IsWritten level.Both room) (g.both inside)
  conjunction = chain room conjunctions comparison

  disjunction : Counts (IsWritten level.Either room) (g.either inside)
  disjunction = chain room disjunctions conjunction

  record AreBranches (b : Branches) (n : ℕ) : Type 0 where
    first_count : ℕ
    second_count : ℕ
    size : n ≡ 1 + first_count + second_count
    first : IsWritten level.Either room b.1 first_count
    second : IsWritten level.Either room b.2 second_count

  branches : Counts AreBranches (g.branches inside)
  branches = counts_then (counts_mark (t.Punct p.Question)) (λ q n e. counts_then disjunction
      (λ a k f. counts_after
      (λ c. counts_then disjunction
      (λ b m h. counts_pure (record {
        first_count = k;
        second_count = m;
        size = omega (arith, e);
        first = f;
        second = h;
      })))))

  expr : Counts (IsWritten level.Expression room) (g.expression inside)
  expr = counts_then disjunction (λ a n h. counts_then (counts_optional branches)
      (λ b m e. counts_pure (chosen_written a n h b m e)))
    where
      chosen_written : (a : Expr Name) (n : ℕ) → IsWritten level.Either room a n
          → (b : Option Branches) (m : ℕ) → IfThere AreBranches b m
          → IsWritten level.Expression room (chosen a b) (n + (m + 0))
      chosen_written a n h None m e = sized (is_written_looser level.Expression level.Either (omega arith) h)
          (omega (arith, e))
      chosen_written a n h (Some b) m e = sized (choose_written b.0 h e.first e.second)
          (omega (arith, e.size))

inside : (room : ℕ) → Counts (IsWritten level.Operand room) (g.inside room)
inside zero = record { of = λ a text ms lawful h. absurd h }
inside (suc room) =
    counts_after (λ q. counts_then (expr room (g.inside room) (inside room))
    (λ a n h. counts_after (λ c. counts_pure (sized (is_written_inside h) (omega arith)))))

pub expression : (room : ℕ) → Counts (IsWritten level.Expression room) (g.expression (g.inside room))
expression room = expr room (g.inside room) (inside room)
