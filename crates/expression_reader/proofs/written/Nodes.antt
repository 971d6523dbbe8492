-- Expressions as they are written, node by node: their words, their size, and their nesting in a place of a
-- level.
use Rattle.std.proofs.Common.{◌≡◌, ℕ, suc, ◌+◌, ◌<◌, ◌≤◌, cond, true, false, Bool, refl, sym, subst, ◌∙◌, arith}
use Rattle.std.specs.Prelude.{◌^◌, pos, nat_lt, ◌&&◌}
use Rattle.std.proofs.Math.Nat.{max-le}
use Rattle.std.proofs.lemmas.Bool.{ltb-true, le-leb}
use Rattle.host_expr.specs.declared.expr.Op.{Op}
use Rattle.host_expr.specs.declared.expr.Rel.{Rel}
use Rattle.host_expr.specs.declared.expr.Expr.{Expr}
use Rattle.host_expr.specs.declared.expr.ExprNode.{ExprNode, roll-ExprNode}
use Rattle.host_expr.specs.declared.expr.ExprNode.TheVariants as x
use Rattle.host_expr.specs.declared.expr.ExprNode.TheOpen as e
use Rattle.module_tree.specs.declared.level.Level.{Level}
use Rattle.module_tree.specs.declared.level.Level.TheVariants as level
use Rattle.module_tree.specs.Parentheses.{levelled, levelled_step, tightness_of, is_looser, level_of_op, right_of_op}
use Rattle.module_tree.specs.Parentheses as p
use Rattle.module_tree.specs.SourceWords.{is_written_name, is_written_text}
use Rattle.module_tree.specs.SourceExpressions.{words_step, size_step, nesting_step, has_written_words, size_of, nesting_of}
use Rattle.expression_reader.specs.declared.operator.Operator.{Operator}
use Rattle.expression_reader.specs.declared.operator.Operator.TheVariants as o
use Rattle.expression_reader.specs.declared.operator.Access.{Access}
use Rattle.expression_reader.specs.declared.operator.Access.TheVariants as reading
use Rattle.expression_reader.specs.Trees.{Name, node, accessed, applied}
use Rattle.expression_reader.proofs.written.Layers.{expr_layer, of_parts}

-- an expression with n leaves and operators, in a place that takes this level and tighter ones, where so many
-- brackets may be opened
pub record IsWritten (least : Level) (room : ℕ) (a : Expr Name) (n : ℕ) : Type 0 where
  pub words : has_written_words a ≡ true
  pub size : size_of a ≡ n
  pub nesting : p.at suc least (levelled suc nesting_step a) ≤ room

pub both : {a b : Bool} → a ≡ true → b ≡ true → (a && b) ≡ true
both h g = rw (h, g) refl

-- the same number, written in another way
pub sized : {least : Level} {room : ℕ} {a : Expr Name} {n m : ℕ} → IsWritten least room a n → n ≡ m
    → IsWritten least room a m
sized h e = record { words = h.words; size = h.size ∙ e; nesting = h.nesting }

-- ---- places

module _ (room : ℕ) (n : ℕ) where
  without : (b : Bool) → cond b (suc n) n ≤ room → n ≤ room
  without true h = omega (arith, h)
  without false h = h

  within_parentheses : (b : Bool) → n ≤ room → cond b (suc n) n ≤ suc room
  within_parentheses true h = omega (arith, h)
  within_parentheses false h = omega (arith, h)

  -- of an expression of rank r, in the places of ranks a and b
  looser_place : (r a b : ℕ) (t : Bool) → nat_lt r a ≡ t → a ≤ b → cond (nat_lt r b) (suc n) n ≤ room
      → cond t (suc n) n ≤ room
  looser_place r a b true lt le h =
      let under : r < a = ltb-true r a lt in
      let yes : nat_lt r b ≡ true = le-leb (suc r) b (omega (arith, under, le)) in
      rw yes at h
  looser_place r a b false lt le h = without (nat_lt r b) h

-- a place that takes looser ones too
pub is_written_looser : (a b : Level) → tightness_of a ≤ tightness_of b → {room : ℕ} {x : Expr Name} {n : ℕ}
    → IsWritten b room x n → IsWritten a room x n
is_written_looser a b le {room} {x} {n} h = record {
  words = h.words;
  size = h.size;
  nesting = let l = levelled suc nesting_step x in looser_place room l.value (tightness_of l.level)
      (tightness_of a) (tightness_of b) (nat_lt (tightness_of l.level) (tightness_of a)) refl le h.nesting;
}

pub nesting_is : (room : ℕ) (x : Expr Name) (n : ℕ) → IsWritten level.Expression room x n
    → nesting_of x ≤ room
nesting_is room x n h = let l = levelled suc nesting_step x in
    without room l.value (is_looser l.level level.Expression) h.nesting

-- between parentheses it may stand anywhere
pub is_written_inside : {room : ℕ} {x : Expr Name} {n : ℕ} → IsWritten level.Expression room x n
    → IsWritten level.Operand (suc room) x n
is_written_inside {room} {x} {n} h = record {
  words = h.words;
  size = h.size;
  nesting = let l = levelled suc nesting_step x in within_parentheses room l.value
      (is_looser l.level level.Operand) (nesting_is room x n h);
}

-- ---- one node

-- in a place of its own level nothing is looser
own_place : (l : Level) (n : ℕ) → p.at suc l (record { level = l; value = n }) ≡ n
own_place level.Expression n = refl
own_place level.Either n = refl
own_place level.Both n = refl
own_place level.Comparison n = refl
own_place level.Sum n = refl
own_place level.Product n = refl
own_place level.Factor n = refl
own_place level.Operand n = refl

-- by what is told of its parts
module _ {room n : ℕ} (place : ℕ) (parts : e.ExprNode-F Name (ExprNode Name) (Expr Name)) {x : ExprNode Name}
    (rolls : roll-ExprNode Name parts ≡ x) where
  of_node : words_step (of_parts words_step parts) ≡ true → size_step (of_parts size_step parts) ≡ n
      → (levelled_step suc nesting_step (of_parts (levelled_step suc nesting_step) parts)).value ≤ room
      → IsWritten (levelled_step suc nesting_step (of_parts (levelled_step suc nesting_step) parts)).level
      room (node place x) n
  of_node w s d =
      let l = levelled_step suc nesting_step (of_parts (levelled_step suc nesting_step) parts) in
      record {
        words = expr_layer words_step place parts rolls ∙ w;
        size = expr_layer size_step place parts rolls ∙ s;
        nesting = subst (λ k. p.at suc l.level k ≤ room) (sym
            (expr_layer (levelled_step suc nesting_step) place parts rolls))
            (rw (own_place l.level l.value) d);
      }

module _ {room : ℕ} (place : ℕ) where
  pub int_written : (n : ℕ) → nat_lt n (2 ^ 63) ≡ true → IsWritten level.Operand room
      (node place (x.Int (pos n))) 1
  int_written n h = of_node place (e.Int (pos n)) (x.rolls-Int (pos n)) h refl (omega arith)

  pub bool_written : (b : Bool) → IsWritten level.Operand room (node place (x.Bool b)) 1
  bool_written b = of_node place (e.Bool b) (x.rolls-Bool b) refl refl (omega arith)

  pub text_written : (z : Name) → is_written_text z ≡ true → IsWritten level.Operand room
      (node place (x.Text z)) 1
  text_written z h = of_node place (e.Text z) (x.rolls-Text z) h refl (omega arith)

  pub signal_written : (a : Access) (z : Name) → is_written_name z ≡ true
      → IsWritten level.Operand room (node place (accessed a z)) 1
  signal_written reading.Now z h = of_node place (e.Now z) (x.rolls-Now z) h refl (omega arith)
  signal_written reading.Pre z h = of_node place (e.Pre z) (x.rolls-Pre z) h refl (omega arith)
  signal_written reading.NowVal z h = of_node place (e.NowVal z) (x.rolls-NowVal z) h refl (omega arith)
  signal_written reading.PreVal z h = of_node place (e.PreVal z) (x.rolls-PreVal z) h refl (omega arith)
  signal_written reading.Parameter z h = of_node place (e.Arg z) (x.rolls-Arg z) h refl (omega arith)

  pub not_written : {a : Expr Name} {k : ℕ} → IsWritten level.Operand room a k
      → IsWritten level.Factor room (node place (x.Not a)) (1 + k)
  not_written {a} h = of_node place (e.Not a) (x.rolls-Not a) h.words (omega (arith, h.size)) h.nesting

  pub neg_written : {a : Expr Name} {k : ℕ} → IsWritten level.Operand room a k
      → IsWritten level.Factor room (node place (x.Neg a)) (1 + k)
  neg_written {a} h = of_node place (e.Neg a) (x.rolls-Neg a) h.words (omega (arith, h.size)) h.nesting

  pub choose_written : {a b c : Expr Name} {i j k : ℕ} → IsWritten level.Either room a i
      → IsWritten level.Either room b j → IsWritten level.Either room c k
      → IsWritten level.Expression room (node place (x.Choose a b c)) (1 + i + j + k)
  choose_written {a} {b} {c} f g h =
      of_node place (e.Choose a b c) (x.rolls-Choose a b c) (both (both f.words g.words) h.words)
      (omega (arith, f.size, g.size, h.size)) (max-le f.nesting (max-le g.nesting h.nesting))

-- ---- operators of two operands

-- an operator of the level `own`, whose operands have the levels `left` and `right` at least
abbrev pub Joins : Level → Level → Level → Operator → Type 0
Joins left own right z =
    (room : ℕ) (place : ℕ) (a b : Expr Name) (n k : ℕ) → IsWritten left room a n → IsWritten right room b k
    → IsWritten own room (applied a ((place, z), b)) (n + (1 + k))

pub or_joins : Joins level.Either level.Either level.Both o.Or
or_joins room place a b n k f g = of_node place (e.Or a b) (x.rolls-Or a b) (both f.words g.words)
    (omega (arith, f.size, g.size)) (max-le f.nesting g.nesting)

pub and_joins : Joins level.Both level.Both level.Comparison o.And
and_joins room place a b n k f g = of_node place (e.And a b) (x.rolls-And a b) (both f.words g.words)
    (omega (arith, f.size, g.size)) (max-le f.nesting g.nesting)

pub relation_joins : (rel : Rel) → Joins level.Sum level.Comparison level.Sum (o.Compare rel)
relation_joins rel room place a b n k f g = of_node place (e.Compare rel a b) (x.rolls-Compare rel a b)
    (both f.words g.words) (omega (arith, f.size, g.size)) (max-le f.nesting g.nesting)

pub arith_joins : (op : Op) → Joins (level_of_op op) (level_of_op op) (right_of_op op) (o.Arith op)
arith_joins op room place a b n k f g = of_node place (e.Arith op a b) (x.rolls-Arith op a b)
    (both f.words g.words) (omega (arith, f.size, g.size)) (max-le f.nesting g.nesting)
