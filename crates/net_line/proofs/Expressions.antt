-- An expression is read as it is written, and nothing else is.
use Rattle.std.proofs.Common.{◌≡◌, ℕ, zero, suc, ◌+◌, ◌-◌, ◌<◌, ◌≤◌, ◌^◌, Bool, true, false, List, [], ◌∷◌}
use Rattle.std.proofs.Common.{◌++◌, Option, Some, None}
use Rattle.std.proofs.Common.{refl, sym, ap, ◌∙◌, subst, arith, length, codes, append_assoc, inl, inr}
use Rattle.std.proofs.Common.{⊎_elim, ◌⊎◌}
use Rattle.std.specs.Prelude.{◌&&◌, ◌||◌, ◌==◌, if◌then◌else◌, decimal, ℤ, pos, negsuc}
use Rattle.std.specs.Str.{bytes_eq, all_ascii_digits}
use Rattle.std.proofs.lemmas.Bool.Decides.{nat_tests}
use Rattle.std.proofs.lemmas.Fmt.{decimal_nonempty, digits_decimal}
use Rattle.std.specs.Char.{is_ascii_digit}
use Rattle.std.specs.Fmt.{signed_decimal}
use Rattle.hh_base.specs.Bytes.{quote}
use Rattle.hh_base.specs.Literal.{printed, quoted}
use Rattle.hh_base.specs.declared.value.Pos.{Pos}
use Rattle.hh_base.specs.declared.value.Value.{Value}
use Rattle.hh_base.specs.declared.value.Value.TheVariants as value
use Rattle.host_expr.specs.declared.expr.Op.{Op}
use Rattle.host_expr.specs.declared.expr.Op.TheVariants as op
use Rattle.host_expr.specs.declared.expr.Rel.{Rel}
use Rattle.host_expr.specs.declared.expr.Rel.TheVariants as rel
use Rattle.host_expr.specs.declared.expr.Expr.{Expr}
use Rattle.host_expr.specs.declared.expr.ExprNode.TheVariants as node
use Rattle.host_expr.specs.Expression.{Expression, Int, Flag, Text, Now, Pre, NowVal, PreVal, Arg, Not, Neg}
use Rattle.host_expr.specs.Expression.{Arith, Compare, And, Or, Choose, expression_of}
use Rattle.host_expr.specs.Measures.{leaves_and_operators}
use Rattle.net_text.specs.Parts.{spaced, number as written_number}
use Rattle.net_text.specs.ExpressionText.{op_word, rel_word, placed_word as written_at, expression_text}
use Rattle.net_line.specs.declared.word.Access.{Access}
use Rattle.net_line.specs.declared.word.Access.TheVariants as access
use Rattle.net_line.specs.declared.word.Unary.{Unary}
use Rattle.net_line.specs.declared.word.Unary.TheVariants as unary
use Rattle.net_line.specs.declared.word.Binary.{Binary}
use Rattle.net_line.specs.declared.word.Binary.TheVariants as binary
use Rattle.net_line.specs.declared.word.NodeWord.{NodeWord}
use Rattle.net_line.specs.declared.word.NodeWord.TheVariants as word
use Rattle.net_line.specs.Decoding.{number_of}
use Rattle.net_line.specs.Literals.{literal_of, starts_number}
use Rattle.net_line.specs.Formed.{IsSmall, IsLiteralForm}
use Rattle.net_line.specs.ExpressionForm.{IsExpressionForm}
use Rattle.net_line.specs.ExpressionReading.{placed_word, at_place, placed_of, access_of, logic_of}
use Rattle.net_line.specs.ExpressionReading.{relation_of}
use Rattle.net_line.specs.ExpressionReading.{first_found, or_literal, starts_literal, spelled_node}
use Rattle.net_line.specs.ExpressionReading.{node_word, at_pos}
use Rattle.net_line.specs.ExpressionReading.{constant, constant_of, accessed, of_one, of_two, of_three}
use Rattle.net_line.specs.ExpressionReading.{Operand}
use Rattle.net_line.specs.ExpressionReading.{one_operand, two_operands, three_operands, with_operands}
use Rattle.net_line.specs.ExpressionReading.{expression}
use Rattle.net_line.specs.GateReading.{number}
use Rattle.net_line.specs.Reading.{Ends}
use Rattle.net_line.specs.Reading.{Reader, Read, and_then, ◌>>=◌, pure, lift, part, plain}
use Rattle.net_line.proofs.Chain.{between, same_read}
use Rattle.net_line.proofs.Parts.{is_quoted, IsPart, plain_part, part_only, lifted}
use Rattle.net_line.proofs.Gates.{reads_number, decimal_plain, numbers}
use Rattle.net_line.proofs.Literals.{literals, own, both, below, taken_true, taken_false}
use Rattle.net_line.proofs.Words.{literal_part}
use Rattle.net_line.proofs.Nodes.{deeper}
use Rattle.net_line.proofs.Numbers.{are_same}

-- the tree of the code for a tree without places in memory
abbrev pub expr_from : Expression → Expr ℕ
expr_from (Int z) = at_pos 0 (node.Int z)
expr_from (Flag b) = at_pos 0 (node.Bool b)
expr_from (Text t) = at_pos 0 (node.Text t)
expr_from (Now s) = at_pos 0 (node.Now s)
expr_from (Pre s) = at_pos 0 (node.Pre s)
expr_from (NowVal s) = at_pos 0 (node.NowVal s)
expr_from (PreVal s) = at_pos 0 (node.PreVal s)
expr_from (Arg n) = at_pos 0 (node.Arg n)
expr_from (Not a) = at_pos 0 (node.Not (expr_from a))
expr_from (Neg p a) = at_pos p.0 (node.Neg (expr_from a))
expr_from (Arith p op a b) = at_pos p.0 (node.Arith op (expr_from a) (expr_from b))
expr_from (Compare rel a b) = at_pos 0 (node.Compare rel (expr_from a) (expr_from b))
expr_from (And a b) = at_pos 0 (node.And (expr_from a) (expr_from b))
expr_from (Or a b) = at_pos 0 (node.Or (expr_from a) (expr_from b))
expr_from (Choose a b c) = at_pos 0 (node.Choose (expr_from a) (expr_from b) (expr_from c))

pub text_ends : (x : Expression) (c : List ℕ) → Ends (expression_text x ++ c)
text_ends (Int z) c = refl
text_ends (Flag b) c = refl
text_ends (Text t) c = refl
text_ends (Now s) c = refl
text_ends (Pre s) c = refl
text_ends (NowVal s) c = refl
text_ends (PreVal s) c = refl
text_ends (Arg n) c = refl
text_ends (Not a) c = refl
text_ends (Neg p a) c = refl
text_ends (Arith p o a b) c = refl
text_ends (Compare r a b) c = refl
text_ends (And a b) c = refl
text_ends (Or a b) c = refl
text_ends (Choose a b d) c = refl

node_read : (w rest : List ℕ) → IsPart w → Ends rest → (depth room : ℕ) → 0 < depth → 0 < room
    → expression depth room (spaced w ++ rest)
    ≡ with_operands (expression (depth - 1)) (node_word w) w (room - 1) rest
node_read w rest p e depth room d r =
    deeper depth room (spaced w ++ rest) d r
    ∙ ap (λ o. and_then o (λ w. with_operands (expression (depth - 1)) (node_word w) w (room - 1))) (p rest e)

-- what a tree is read as
abbrev pub ReadAs : Expression → ℕ → ℕ → List ℕ → Type 0
ReadAs x depth room c =
    expression depth room (expression_text x ++ c) ≡ Some ((expr_from x, room - leaves_and_operators x), c)

-- ---- leaves

digits_node : (w : List ℕ) → starts_literal w ≡ true → node_word w ≡ word.Literal
digits_node w h = taken_true (starts_literal w) word.Literal (spelled_node w) h

or_true : (a b : Bool) → b ≡ true → (a || b) ≡ true
or_true true b e = refl
or_true false b e = e

digit_starts : (b : ℕ) → is_ascii_digit b ≡ true → starts_number b ≡ true
digit_starts b h = grind (arith, nat_tests)

starts_digits : (ds : List ℕ) → 0 < length ds → all_ascii_digits ds ≡ true → starts_literal ds ≡ true
starts_digits [] some h = absurd (let clash : ⊥ = omega (arith, some) in clash)
starts_digits (b ∷ ds) some h =
    or_true (b == quote) (starts_number b) (digit_starts b (both (is_ascii_digit b) (all_ascii_digits ds)
    h).0)

no_place : (o : Option ℕ) → or_literal (at_place (codes "fals") o) ≡ word.Literal
no_place None = refl
no_place (Some p) = refl

no_place_true : (o : Option ℕ) → or_literal (at_place (codes "true") o) ≡ word.Literal
no_place_true None = refl
no_place_true (Some p) = refl

literal_node : (v : Value) → IsLiteralForm v → node_word (printed v) ≡ word.Literal
literal_node value.Unit f = absurd f
literal_node (value.Int (pos n)) f =
    let l : n < 2 ^ 64 = omega (arith, below n f) in
    digits_node (decimal n) (starts_digits (decimal n) (decimal_nonempty n l) (digits_decimal own n l))
literal_node (value.Int (negsuc n)) f = refl
literal_node (value.Bool true) f = no_place_true (number_of [])
literal_node (value.Bool false) f = no_place (number_of (codes "e"))
literal_node (value.Text t) f = refl

constant_read : (v : Value) (e : Expr ℕ) → IsLiteralForm v → constant v ≡ Some e → (c : List ℕ) → Ends c
    → (depth room : ℕ) → 0 < depth → 0 < room
    → expression depth room (spaced (printed v) ++ c) ≡ Some ((e, room - 1), c)
constant_read v e f is c end depth room d r =
    node_read (printed v) c (literal_part v f) end depth room d r
    ∙ ap (λ k. with_operands (expression (depth - 1)) k (printed v) (room - 1) c) (literal_node v f)
    ∙ ap (λ o. and_then (lift (constant_of o) c) (λ x. pure (x, room - 1))) (literals.complete v f)
    ∙ ap (λ o. and_then (lift o c) (λ x. pure (x, room - 1))) is

abbrev access_word : Access → List ℕ
access_word access.Now = codes "now"
access_word access.Pre = codes "pre"
access_word access.NowVal = codes "nowval"
access_word access.PreVal = codes "preval"
access_word access.Arg = codes "arg"

access_part : (a : Access) → IsPart (access_word a)
access_part access.Now = plain_part (codes "now") refl refl
access_part access.Pre = plain_part (codes "pre") refl refl
access_part access.NowVal = plain_part (codes "nowval") refl refl
access_part access.PreVal = plain_part (codes "preval") refl refl
access_part access.Arg = plain_part (codes "arg") refl refl

access_node : (a : Access) → node_word (access_word a) ≡ word.Reads a
access_node access.Now = refl
access_node access.Pre = refl
access_node access.NowVal = refl
access_node access.PreVal = refl
access_node access.Arg = refl

access_read : (a : Access) (n : ℕ) → IsSmall n → (c : List ℕ) → Ends c → (depth room : ℕ) → 0 < depth → 0 <
    room
    → expression depth room (spaced (access_word a ++ written_number n) ++ c) ≡ Some (
      (
        accessed a n,
        room -
            1,
      ),
      c,
    )
access_read a n f c e depth room d r =
    ap (expression depth room) (ap spaced (append_assoc (access_word a) (written_number n) c))
    ∙ node_read (access_word a) (written_number n ++ c) (access_part a) refl depth room d r
    ∙ ap (λ k. with_operands (expression (depth - 1)) k (access_word a) (room - 1) (written_number n ++ c))
    (access_node a)
    ∙ ap (λ o. and_then o (λ n. pure (accessed a n, room - 1))) (reads_number.complete n tt f c e)

-- ---- operators

abbrev unary_word : Unary → List ℕ
unary_word unary.Not = codes "not"
unary_word (unary.Neg p) = codes "neg@" ++ decimal p

abbrev binary_word : Binary → List ℕ
binary_word (binary.Arith o p) = op_word o ++ codes "@" ++ decimal p
binary_word (binary.Compare r) = rel_word r
binary_word binary.And = codes "all"
binary_word binary.Or = codes "any"

abbrev UnaryForm : Unary → Type 0
UnaryForm unary.Not = Unit {0}
UnaryForm (unary.Neg p) = IsSmall p

abbrev BinaryForm : Binary → Type 0
BinaryForm (binary.Arith o p) = IsSmall p
BinaryForm _ = Unit {0}

unary_part : (u : Unary) → UnaryForm u → IsPart (unary_word u)
unary_part unary.Not f = plain_part (codes "not") refl refl
unary_part (unary.Neg p) f = plain_part (codes "neg@" ++ decimal p) (decimal_plain p f) refl

unary_node : (u : Unary) → UnaryForm u → node_word (unary_word u) ≡ word.Unary u
unary_node unary.Not f = refl
unary_node (unary.Neg p) f = ap (λ o. or_literal (at_place (codes "neg@") o)) (numbers.complete p f)

binary_part : (o : Binary) → BinaryForm o → IsPart (binary_word o)
binary_part (binary.Arith op.Add p) f = plain_part (codes "add@" ++ decimal p) (decimal_plain p f) refl
binary_part (binary.Arith op.Sub p) f = plain_part (codes "sub@" ++ decimal p) (decimal_plain p f) refl
binary_part (binary.Arith op.Mul p) f = plain_part (codes "mul@" ++ decimal p) (decimal_plain p f) refl
binary_part (binary.Arith op.Div p) f = plain_part (codes "div@" ++ decimal p) (decimal_plain p f) refl
binary_part (binary.Arith op.Rem p) f = plain_part (codes "rem@" ++ decimal p) (decimal_plain p f) refl
binary_part (binary.Compare rel.Eq) f = plain_part (codes "eq") refl refl
binary_part (binary.Compare rel.Ne) f = plain_part (codes "ne") refl refl
binary_part (binary.Compare rel.Lt) f = plain_part (codes "lt") refl refl
binary_part (binary.Compare rel.Le) f = plain_part (codes "le") refl refl
binary_part (binary.Compare rel.Gt) f = plain_part (codes "gt") refl refl
binary_part (binary.Compare rel.Ge) f = plain_part (codes "ge") refl refl
binary_part binary.And f = plain_part (codes "all") refl refl
binary_part binary.Or f = plain_part (codes "any") refl refl

binary_node : (o : Binary) → BinaryForm o → node_word (binary_word o) ≡ word.Binary o
binary_node (binary.Arith op.Add p) f = ap (λ o. or_literal (at_place (codes "add@") o)) (numbers.complete
    p f)
binary_node (binary.Arith op.Sub p) f = ap (λ o. or_literal (at_place (codes "sub@") o)) (numbers.complete
    p f)
binary_node (binary.Arith op.Mul p) f = ap (λ o. or_literal (at_place (codes "mul@") o)) (numbers.complete
    p f)
binary_node (binary.Arith op.Div p) f = ap (λ o. or_literal (at_place (codes "div@") o)) (numbers.complete
    p f)
binary_node (binary.Arith op.Rem p) f = ap (λ o. or_literal (at_place (codes "rem@") o)) (numbers.complete
    p f)
binary_node (binary.Compare rel.Eq) f = refl
binary_node (binary.Compare rel.Ne) f = refl
binary_node (binary.Compare rel.Lt) f = refl
binary_node (binary.Compare rel.Le) f = refl
binary_node (binary.Compare rel.Gt) f = refl
binary_node (binary.Compare rel.Ge) f = refl
binary_node binary.And f = refl
binary_node binary.Or f = refl

-- an operator and its operands, which are read as they are
one_read : (u : Unary) → UnaryForm u → (a : Expression) (c : List ℕ) (depth room : ℕ) → 0 < depth → 0 < room
    → ReadAs a (depth - 1) (room - 1) c
    → expression depth room ((spaced (unary_word u) ++ expression_text a) ++ c)
    ≡ Some ((of_one u (expr_from a), room - 1 - leaves_and_operators a), c)
one_read u f a c depth room d r ra =
    ap (expression depth room) (append_assoc (spaced (unary_word u)) (expression_text a) c)
    ∙ node_read (unary_word u) (expression_text a ++ c) (unary_part u f) (text_ends a c) depth room d r
    ∙ ap (λ k. with_operands (expression (depth - 1)) k (unary_word u) (room - 1) (expression_text a ++ c))
    (unary_node u f)
    ∙ ap (λ o. and_then o (λ x. pure (of_one u x.0, x.1))) ra

two_read : (o : Binary) → BinaryForm o → (a b : Expression) (c : List ℕ) (depth room : ℕ) → 0 < depth → 0 <
    room
    → ReadAs a (depth - 1) (room - 1) (expression_text b ++ c)
    → ReadAs b (depth - 1) (room - 1 - leaves_and_operators a) c
    → expression depth room ((spaced (binary_word o) ++ expression_text a ++ expression_text b) ++ c)
    ≡ Some (
      (
        of_two o (expr_from a) (expr_from b),
        room - 1 - leaves_and_operators a - leaves_and_operators
            b,
      ),
      c,
    )
two_read o f a b c depth room d r ra rb =
    ap (expression depth room) (append_assoc (spaced (binary_word o) ++ expression_text a) (expression_text
    b) c
    ∙ append_assoc (spaced (binary_word o)) (expression_text a) (expression_text b ++ c))
    ∙ node_read (binary_word o) (expression_text a ++ (expression_text b ++ c)) (binary_part o f)
    (text_ends a (expression_text b ++ c)) depth room d r
    ∙ ap (λ k. with_operands (expression (depth - 1)) k (binary_word o) (room - 1)
    (expression_text a ++ (expression_text b ++ c))) (binary_node o f)
    ∙ ap (λ p. and_then p (λ x. expression (depth - 1) x.1 >>= λ y. pure (of_two o x.0 y.0, y.1))) ra
    ∙ ap (λ p. and_then p (λ y. pure (of_two o (expr_from a) y.0, y.1))) rb

three_read : (a b d : Expression) (c : List ℕ) (depth room : ℕ) → 0 < depth → 0 < room
    → ReadAs a (depth - 1) (room - 1) (expression_text b ++ (expression_text d ++ c))
    → ReadAs b (depth - 1) (room - 1 - leaves_and_operators a) (expression_text d ++ c)
    → ReadAs d (depth - 1) (room - 1 - leaves_and_operators a - leaves_and_operators b) c
    → expression depth room
    ((spaced (codes "choose") ++ expression_text a ++ expression_text b ++ expression_text d) ++ c)
    ≡ Some (
      (
        of_three (expr_from a) (expr_from b) (expr_from d),
        room - 1 - leaves_and_operators a - leaves_and_operators b - leaves_and_operators d,
      ),
      c,
    )
three_read a b d c depth room dp rm ra rb rd =
    let choose = spaced (codes "choose") in
    ap (expression depth room) (append_assoc (choose ++ expression_text a ++ expression_text b)
    (expression_text d) c
    ∙ append_assoc (choose ++ expression_text a) (expression_text b) (expression_text d ++ c)
    ∙ append_assoc choose (expression_text a) (expression_text b ++ (expression_text d ++ c)))
    ∙ node_read (codes "choose") (expression_text a ++ (expression_text b ++ (expression_text d ++ c)))
    (plain_part (codes "choose") refl refl) (text_ends a (expression_text b ++ (expression_text d ++ c)))
    depth room dp rm
    ∙ ap (λ p. and_then p (λ x. expression (depth - 1) x.1 >>= λ y. expression (depth - 1) y.1
    >>= λ z. pure (of_three x.0 y.0 z.0, z.1))) ra
    ∙ ap (λ p. and_then p (λ y. expression (depth - 1) y.1 >>= λ z. pure (
      of_three (expr_from a) y.0 z.0,
      z.1,
    ))) rb
    ∙ ap (λ p. and_then p (λ z. pure (of_three (expr_from a) (expr_from b) z.0, z.1))) rd

some_leaf : (x : Expression) → 1 ≤ leaves_and_operators x
some_leaf (Int z) = omega arith
some_leaf (Flag b) = omega arith
some_leaf (Text t) = omega arith
some_leaf (Now s) = omega arith
some_leaf (Pre s) = omega arith
some_leaf (NowVal s) = omega arith
some_leaf (PreVal s) = omega arith
some_leaf (Arg n) = omega arith
some_leaf (Not a) = omega arith
some_leaf (Neg p a) = omega arith
some_leaf (Arith p o a b) = omega arith
some_leaf (Compare r a b) = omega arith
some_leaf (And a b) = omega arith
some_leaf (Or a b) = omega arith
some_leaf (Choose a b c) = omega arith

left_at : (e : Expr ℕ) (m n : ℕ) (c : List ℕ) → m ≡ n
    → ◌≡◌ {A = Read (Expr ℕ × ℕ)} (Some ((e, m), c)) (Some ((e, n), c))
left_at e m n c is i = Some ((e, is i), c)

two_fall : (a b : Expression) (depth room : ℕ) → 1 + leaves_and_operators a + leaves_and_operators b ≤ depth
    → 1 + leaves_and_operators a + leaves_and_operators b ≤ room → (o : Binary) → BinaryForm o → (c : List ℕ)
    → ((depth room : ℕ) → leaves_and_operators a ≤ depth → leaves_and_operators a ≤ room → (c : List ℕ) →
    Ends c
    → ReadAs a depth room c)
    → ((depth room : ℕ) → leaves_and_operators b ≤ depth → leaves_and_operators b ≤ room → (c : List ℕ) →
    Ends c
    → ReadAs b depth room c) → Ends c
    → expression depth room ((spaced (binary_word o) ++ expression_text a ++ expression_text b) ++ c)
    ≡ Some (
      (
        of_two o (expr_from a) (expr_from b),
        room - (1 + leaves_and_operators a + leaves_and_operators b),
      ),
      c,
    )
two_fall a b depth room d r o f c ra rb e =
    two_read o f a b c depth room (omega (arith, d)) (omega (arith, r))
    (ra (depth - 1) (room - 1) (omega (arith, d)) (omega (arith, r)) (expression_text b ++ c) (text_ends b c))
    (rb (depth - 1) (room - 1 - leaves_and_operators a) (omega (arith, d)) (omega (arith, r)) c e)
    ∙ left_at (of_two o (expr_from a) (expr_from b)) (room - 1 - leaves_and_operators a -
    leaves_and_operators b)
    (room - (1 + leaves_and_operators a + leaves_and_operators b)) c (omega (arith, r))

-- a tree that fits is read, and nothing behind it
pub read_text : (x : Expression) → IsExpressionForm x → (depth room : ℕ) → leaves_and_operators x ≤ depth
    → leaves_and_operators x ≤ room → (c : List ℕ) → Ends c → ReadAs x depth room c
read_text (Int z) f depth room d r c e =
    constant_read (value.Int z) (at_pos 0 (node.Int z)) f refl c e depth room (omega (arith, d)) (omega
    (arith, r))
read_text (Flag b) f depth room d r c e =
    constant_read (value.Bool b) (at_pos 0 (node.Bool b)) f refl c e depth room (omega (arith, d)) (omega
    (arith, r))
read_text (Text t) f depth room d r c e =
    constant_read (value.Text t) (at_pos 0 (node.Text t)) f refl c e depth room (omega (arith, d)) (omega
    (arith, r))
read_text (Now s) f depth room d r c e = access_read access.Now s f c e depth room (omega (arith, d))
    (omega (arith, r))
read_text (Pre s) f depth room d r c e = access_read access.Pre s f c e depth room (omega (arith, d))
    (omega (arith, r))
read_text (NowVal s) f depth room d r c e =
    access_read access.NowVal s f c e depth room (omega (arith, d)) (omega (arith, r))
read_text (PreVal s) f depth room d r c e =
    access_read access.PreVal s f c e depth room (omega (arith, d)) (omega (arith, r))
read_text (Arg n) f depth room d r c e = access_read access.Arg n f c e depth room (omega (arith, d))
    (omega (arith, r))
read_text (Not a) f depth room d r c e =
    one_read unary.Not tt a c depth room (omega (arith, d)) (omega (arith, r))
    (read_text a f (depth - 1) (room - 1) (omega (arith, d)) (omega (arith, r)) c e)
    ∙ left_at (at_pos 0 (node.Not (expr_from a))) (room - 1 - leaves_and_operators a) (room - (1 +
    leaves_and_operators a))
    c (omega (arith, r))
read_text (Neg p a) f depth room d r c e =
    one_read (unary.Neg p.0) f.0 a c depth room (omega (arith, d)) (omega (arith, r))
    (read_text a f.1 (depth - 1) (room - 1) (omega (arith, d)) (omega (arith, r)) c e)
    ∙ left_at (at_pos p.0 (node.Neg (expr_from a))) (room - 1 - leaves_and_operators a) (room - (1 +
    leaves_and_operators a))
    c (omega (arith, r))
read_text (Arith p o a b) f depth room d r c e =
    two_fall a b depth room d r (binary.Arith o p.0) f.0 c (read_text a f.1) (read_text b f.2) e
read_text (Compare k a b) f depth room d r c e =
    two_fall a b depth room d r (binary.Compare k) tt c (read_text a f.0) (read_text b f.1) e
read_text (And a b) f depth room d r c e =
    two_fall a b depth room d r binary.And tt c (read_text a f.0) (read_text b f.1) e
read_text (Or a b) f depth room d r c e =
    two_fall a b depth room d r binary.Or tt c (read_text a f.0) (read_text b f.1) e
read_text (Choose a b k) f depth room d r c e =
    three_read a b k c depth room (omega (arith, d)) (omega (arith, r))
    (read_text a f.0 (depth - 1) (room - 1) (omega (arith, d)) (omega (arith, r))
    (expression_text b ++ (expression_text k ++ c)) (text_ends b (expression_text k ++ c)))
    (read_text b f.1 (depth - 1) (room - 1 - leaves_and_operators a) (omega (arith, d)) (omega (arith, r))
    (expression_text k ++ c) (text_ends k c))
    (read_text k f.2 (depth - 1) (room - 1 - leaves_and_operators a - leaves_and_operators b) (omega
    (arith, d))
    (omega (arith, r)) c e)
    ∙ left_at (of_three (expr_from a) (expr_from b) (expr_from k))
    (room - 1 - leaves_and_operators a - leaves_and_operators b - leaves_and_operators k)
    (room - (1 + leaves_and_operators a + leaves_and_operators b + leaves_and_operators k)) c (omega
    (arith, r))

-- ---- what is read is written so

abbrev WordIs : NodeWord → List ℕ → Type 0
WordIs word.Literal w = Unit {0}
WordIs (word.Reads a) w = w ≡ access_word a
WordIs (word.Unary u) w = (w ≡ unary_word u) × UnaryForm u
WordIs (word.Binary o) w = (w ≡ binary_word o) × BinaryForm o
WordIs word.Choose w = w ≡ codes "choose"

abbrev OptionIs : Option NodeWord → List ℕ → Type 0
OptionIs None w = Unit {0}
OptionIs (Some k) w = WordIs k w

step : (w x v : List ℕ) (k : NodeWord) (o : Option NodeWord) → (x ≡ v → WordIs k w) → OptionIs o w
    → OptionIs (if bytes_eq x v then Some k else o) w
step w x v k o here there = by_test (bytes_eq x v) refl
  where
    by_test : (t : Bool) → bytes_eq x v ≡ t → OptionIs (if t then Some k else o) w
    by_test true h = here (are_same x v h)
    by_test false h = there

first_is : (w : List ℕ) (a b : Option NodeWord) → OptionIs a w → OptionIs b w → OptionIs (first_found a b) w
first_is w None b ha hb = hb
first_is w (Some k) b ha hb = ha

access_is : (w : List ℕ) → OptionIs (access_of w) w
access_is w =
    step w w (codes "now") (word.Reads access.Now) _ (λ h. h)
    (step w w (codes "pre") (word.Reads access.Pre) _ (λ h. h)
    (step w w (codes "nowval") (word.Reads access.NowVal) _ (λ h. h)
    (step w w (codes "preval") (word.Reads access.PreVal) _ (λ h. h)
    (step w w (codes "arg") (word.Reads access.Arg) None (λ h. h) tt))))

logic_is : (w : List ℕ) → OptionIs (logic_of w) w
logic_is w =
    step w w (codes "not") (word.Unary unary.Not) _ (λ h. (h, tt))
    (step w w (codes "all") (word.Binary binary.And) _ (λ h. (h, tt))
    (step w w (codes "any") (word.Binary binary.Or) _ (λ h. (h, tt))
    (step w w (codes "choose") word.Choose None (λ h. h) tt)))

relation_is : (w : List ℕ) → OptionIs (relation_of w) w
relation_is w =
    step w w (codes "eq") (word.Binary (binary.Compare rel.Eq)) _ (λ h. (h, tt))
    (step w w (codes "ne") (word.Binary (binary.Compare rel.Ne)) _ (λ h. (h, tt))
    (step w w (codes "lt") (word.Binary (binary.Compare rel.Lt)) _ (λ h. (h, tt))
    (step w w (codes "le") (word.Binary (binary.Compare rel.Le)) _ (λ h. (h, tt))
    (step w w (codes "gt") (word.Binary (binary.Compare rel.Gt)) _ (λ h. (h, tt))
    (step w w (codes "ge") (word.Binary (binary.Compare rel.Ge)) None (λ h. (h, tt)) tt)))))

at_place_is : (x ds : List ℕ) (p : ℕ) → ds ≡ decimal p → IsSmall p → OptionIs (placed_word x p) (x ++ ds)
at_place_is x ds p is f =
    step (x ++ ds) x (codes "add@") (word.Binary (binary.Arith op.Add p)) _ (λ h. ((λ i. h i ++ is i), f))
    (step (x ++ ds) x (codes "sub@") (word.Binary (binary.Arith op.Sub p)) _ (λ h. ((λ i. h i ++ is i), f))
    (step (x ++ ds) x (codes "mul@") (word.Binary (binary.Arith op.Mul p)) _ (λ h. ((λ i. h i ++ is i), f))
    (step (x ++ ds) x (codes "div@") (word.Binary (binary.Arith op.Div p)) _ (λ h. ((λ i. h i ++ is i), f))
    (step (x ++ ds) x (codes "rem@") (word.Binary (binary.Arith op.Rem p)) _ (λ h. ((λ i. h i ++ is i), f))
    (step (x ++ ds) x (codes "neg@") (word.Unary (unary.Neg p)) None (λ h. ((λ i. h i ++ is i), f)) tt)))))

digits_is : (x ds : List ℕ) (o : Option ℕ) → number_of ds ≡ o → OptionIs (at_place x o) (x ++ ds)
digits_is x ds None h = tt
digits_is x ds (Some p) h = let k = numbers.sound ds p h in at_place_is x ds p k.0 k.1

placed_is : (w : List ℕ) → OptionIs (placed_of w) w
placed_is [] = tt
placed_is (a ∷ []) = tt
placed_is (a ∷ b ∷ []) = tt
placed_is (a ∷ b ∷ c ∷ []) = tt
placed_is (a ∷ b ∷ c ∷ d ∷ ds) = digits_is (a ∷ b ∷ c ∷ d ∷ []) ds (number_of ds) refl

or_literal_is : (w : List ℕ) (o : Option NodeWord) → OptionIs o w → WordIs (or_literal o) w
or_literal_is w None h = tt
or_literal_is w (Some k) h = h

word_only : (w : List ℕ) → WordIs (node_word w) w
word_only w = by_test (starts_literal w)
  where
    by_test : (t : Bool) → WordIs (if t then word.Literal else spelled_node w) w
    by_test true = tt
    by_test false =
        or_literal_is w (first_found (access_of w) (first_found (logic_of w) (first_found (relation_of w)
        (placed_of w))))
        (first_is w (access_of w) (first_found (logic_of w) (first_found (relation_of w) (placed_of w)))
        (access_is w)
        (first_is w (logic_of w) (first_found (relation_of w) (placed_of w)) (logic_is w)
        (first_is w (relation_of w) (placed_of w) (relation_is w) (placed_is w))))

-- what was read as this tree, of a room of which k is left
pub record Spelled (l : List ℕ) (room : ℕ) (e : Expr ℕ) (k : ℕ) (c : List ℕ) : Type 0 where
  pub tree : Expression
  pub is : e ≡ expr_from tree
  pub text : l ≡ expression_text tree ++ c
  pub form : IsExpressionForm tree
  pub counted : k + leaves_and_operators tree ≡ room

record Leaf (w : List ℕ) (e : Expr ℕ) : Type 0 where
  tree : Expression
  is : e ≡ expr_from tree
  text : spaced w ≡ expression_text tree
  form : IsExpressionForm tree
  counted : leaves_and_operators tree ≡ 1

leaf_only : (w : List ℕ) (o : Option Value) (e : Expr ℕ) → literal_of w ≡ o → constant_of o ≡ Some e → Leaf
    w e
leaf_only w None e h is = absurd cc
leaf_only w (Some value.Unit) e h is = absurd cc
leaf_only w (Some (value.Int z)) e h is =
    let k = literals.sound w (value.Int z) h in
    let same : at_pos 0 (node.Int z) ≡ e = cc in
    record { tree = Int z; is = sym same; text = ap spaced k.0; form = k.1; counted = refl }
leaf_only w (Some (value.Bool b)) e h is =
    let k = literals.sound w (value.Bool b) h in
    let same : at_pos 0 (node.Bool b) ≡ e = cc in
    record { tree = Flag b; is = sym same; text = ap spaced k.0; form = k.1; counted = refl }
leaf_only w (Some (value.Text t)) e h is =
    let k = literals.sound w (value.Text t) h in
    let same : at_pos 0 (node.Text t) ≡ e = cc in
    record { tree = Text t; is = sym same; text = ap spaced k.0; form = k.1; counted = refl }

access_tree : (a : Access) (n : ℕ) → IsSmall n → Leaf (access_word a ++ written_number n) (accessed a n)
access_tree access.Now n f = record { tree = Now n; is = refl; text = refl; form = f; counted = refl }
access_tree access.Pre n f = record { tree = Pre n; is = refl; text = refl; form = f; counted = refl }
access_tree access.NowVal n f = record { tree = NowVal n; is = refl; text = refl; form = f; counted = refl }
access_tree access.PreVal n f = record { tree = PreVal n; is = refl; text = refl; form = f; counted = refl }
access_tree access.Arg n f = record { tree = Arg n; is = refl; text = refl; form = f; counted = refl }

abbrev unary_tree : Unary → Expression → Expression
unary_tree unary.Not x = Not x
unary_tree (unary.Neg p) x = Neg (record { 0 = p }) x

abbrev binary_tree : Binary → Expression → Expression → Expression
binary_tree (binary.Arith o p) x y = Arith (record { 0 = p }) o x y
binary_tree (binary.Compare r) x y = Compare r x y
binary_tree binary.And x y = And x y
binary_tree binary.Or x y = Or x y

unary_spelled : (u : Unary) → UnaryForm u → (x : Expression) → IsExpressionForm x → (room k : ℕ) (c : List ℕ)
    → k + leaves_and_operators x ≡ room
    → Spelled ((spaced (unary_word u) ++ expression_text x) ++ c) (1 + room) (of_one u (expr_from x)) k c
unary_spelled unary.Not f x fx room k c n =
    record { tree = Not x; is = refl; text = refl; form = fx; counted = omega (arith, n) }
unary_spelled (unary.Neg p) f x fx room k c n =
    record {
      tree = Neg (record { 0 = p }) x;
      is = refl;
      text = refl;
      form = (f, fx);
      counted = omega
          (arith, n);
    }

binary_spelled : (o : Binary) → BinaryForm o → (x y : Expression) → IsExpressionForm x → IsExpressionForm y
    → (room m k : ℕ) (c : List ℕ) → m + leaves_and_operators x ≡ room → k + leaves_and_operators y ≡ m
    → Spelled ((spaced (binary_word o) ++ expression_text x ++ expression_text y) ++ c) (1 + room)
    (of_two o (expr_from x) (expr_from y)) k c
binary_spelled (binary.Arith o p) f x y fx fy room m k c nx ny =
    record {
      tree = Arith (record { 0 = p }) o x y;
      is = refl;
      text = refl;
      form = (f, fx, fy);
      counted = omega (arith, nx, ny);
    }
binary_spelled (binary.Compare r) f x y fx fy room m k c nx ny =
    record { tree = Compare r x y; is = refl; text = refl; form = (fx, fy); counted = omega (arith, nx, ny) }
binary_spelled binary.And f x y fx fy room m k c nx ny =
    record { tree = And x y; is = refl; text = refl; form = (fx, fy); counted = omega (arith, nx, ny) }
binary_spelled binary.Or f x y fx fy room m k c nx ny =
    record { tree = Or x y; is = refl; text = refl; form = (fx, fy); counted = omega (arith, nx, ny) }

respelled : (l m : List ℕ) (room : ℕ) (e g : Expr ℕ) (k j : ℕ) (c d : List ℕ) → l ≡ m → e ≡ g → k ≡ j → c ≡ d
    → Spelled m room e k c → Spelled l room g j d
respelled l m room e g k j c d hl he hk hc s =
    record {
      tree = s.tree;
      is = sym he ∙ s.is;
      text = hl ∙ s.text ∙ ap (λ x. expression_text s.tree ++ x) hc;
      form = s.form;
      counted = sym (ap (λ n. n + leaves_and_operators s.tree) hk) ∙ s.counted;
    }

same_pair : (e g : Expr ℕ) (k j : ℕ) (c d : List ℕ)
    → ◌≡◌ {A = Read (Expr ℕ × ℕ)} (Some ((e, k), c)) (Some ((g, j), d)) → (e ≡ g) × (k ≡ j) × (c ≡ d)
same_pair e g k j c d is =
    let h = same_read {A = Expr ℕ × ℕ} (e, k) (g, j) c d is in
    (ap (λ (p : Expr ℕ × ℕ). p.0) h.0, ap (λ (p : Expr ℕ × ℕ). p.1) h.0, h.1)

abbrev OperandIs : Operand → Type 0
OperandIs operand =
    (room : ℕ) (l : List ℕ) (e : Expr ℕ) (k : ℕ) (c : List ℕ) → operand room l ≡ Some ((e, k), c) → Spelled
    l room e k c

one_only : (operand : Operand) → OperandIs operand → (u : Unary) → UnaryForm u → (w : List ℕ) → w ≡
    unary_word u
    → (room : ℕ) (l : List ℕ) (e : Expr ℕ) (k : ℕ) (c : List ℕ) → one_operand operand u room l ≡ Some (
      (
        e,
        k,
      ),
      c,
    )
    → Spelled (spaced w ++ l) (1 + room) e k c
one_only operand known u f w hw room l e k c is =
    let b = between (operand room l) (λ a. pure (of_one u a.0, a.1)) (e, k) c is in
    let s = known room l b.first.0 b.first.1 b.mid b.read in
    let p = same_pair (of_one u b.first.0) e b.first.1 k b.mid c b.then_read in
    respelled (spaced w ++ l) ((spaced (unary_word u) ++ expression_text s.tree) ++ b.mid) (1 + room)
    (of_one u (expr_from s.tree)) e b.first.1 k b.mid c
    ((λ i. spaced (hw i) ++ s.text i) ∙ sym (append_assoc (spaced (unary_word u)) (expression_text s.tree)
    b.mid))
    (ap (of_one u) (sym s.is) ∙ p.0) p.1 p.2
    (unary_spelled u f s.tree s.form room b.first.1 b.mid s.counted)

two_only : (operand : Operand) → OperandIs operand → (o : Binary) → BinaryForm o → (w : List ℕ) → w ≡
    binary_word o
    → (room : ℕ) (l : List ℕ) (e : Expr ℕ) (k : ℕ) (c : List ℕ) → two_operands operand o room l ≡ Some (
      (
        e,
        k,
      ),
      c,
    )
    → Spelled (spaced w ++ l) (1 + room) e k c
two_only operand known o f w hw room l e k c is =
    let b = between (operand room l) (λ a. operand a.1 >>= λ b. pure (of_two o a.0 b.0, b.1)) (e, k) c is in
    let d = between (operand b.first.1 b.mid) (λ y. pure (of_two o b.first.0 y.0, y.1)) (e, k) c
    b.then_read in
    let s = known room l b.first.0 b.first.1 b.mid b.read in
    let t = known b.first.1 b.mid d.first.0 d.first.1 d.mid d.read in
    let p = same_pair (of_two o b.first.0 d.first.0) e d.first.1 k d.mid c d.then_read in
    let word_is = spaced (binary_word o) in
    respelled (spaced w ++ l) ((word_is ++ expression_text s.tree ++ expression_text t.tree) ++ d.mid) (1 +
    room)
    (of_two o (expr_from s.tree) (expr_from t.tree)) e d.first.1 k d.mid c
    ((λ i. spaced (hw i) ++ s.text i) ∙ ap (λ x. word_is ++ (expression_text s.tree ++ x)) t.text
    ∙ sym (append_assoc (word_is ++ expression_text s.tree) (expression_text t.tree) d.mid
    ∙ append_assoc word_is (expression_text s.tree) (expression_text t.tree ++ d.mid)))
    ((λ i. of_two o (sym s.is i) (sym t.is i)) ∙ p.0) p.1 p.2
    (binary_spelled o f s.tree t.tree s.form t.form room b.first.1 d.first.1 d.mid s.counted t.counted)

three_only : (operand : Operand) → OperandIs operand → (w : List ℕ) → w ≡ codes "choose" → (room : ℕ) (l :
    List ℕ)
    (e : Expr ℕ) (k : ℕ) (c : List ℕ) → three_operands operand room l ≡ Some ((e, k), c)
    → Spelled (spaced w ++ l) (1 + room) e k c
three_only operand known w hw room l e k c is =
    let b = between (operand room l)
    (λ a. operand a.1 >>= λ b. operand b.1 >>= λ c. pure (of_three a.0 b.0 c.0, c.1)) (e, k) c is in
    let d = between (operand b.first.1 b.mid)
    (λ y. operand y.1 >>= λ c. pure (of_three b.first.0 y.0 c.0, c.1)) (e, k) c b.then_read in
    let g = between (operand d.first.1 d.mid) (λ z. pure (of_three b.first.0 d.first.0 z.0, z.1)) (e, k) c
    d.then_read in
    let s = known room l b.first.0 b.first.1 b.mid b.read in
    let t = known b.first.1 b.mid d.first.0 d.first.1 d.mid d.read in
    let v = known d.first.1 d.mid g.first.0 g.first.1 g.mid g.read in
    let p = same_pair (of_three b.first.0 d.first.0 g.first.0) e g.first.1 k g.mid c g.then_read in
    let choose = spaced (codes "choose") in
    record {
      tree = Choose s.tree t.tree v.tree;
      is = sym p.0 ∙ (λ i. of_three (s.is i) (t.is i) (v.is i));
      text = (λ i. spaced (hw i) ++ s.text i) ∙ ap (λ x. choose ++ (expression_text s.tree ++ x)) t.text
          ∙ ap (λ x. choose ++ (expression_text s.tree ++ (expression_text t.tree ++ x))) v.text
          ∙ sym (append_assoc (choose ++ expression_text s.tree ++ expression_text t.tree) (expression_text
          v.tree) g.mid
          ∙ append_assoc (choose ++ expression_text s.tree) (expression_text t.tree) (expression_text
          v.tree ++ g.mid)
          ∙ append_assoc choose (expression_text s.tree) (expression_text t.tree ++ (expression_text v.tree
          ++ g.mid)))
          ∙ ap (λ x. expression_text (Choose s.tree t.tree v.tree) ++ x) p.2;
      form = (s.form, t.form, v.form);
      counted = omega (arith, s.counted, t.counted, v.counted, p.1);
    }

leaf_spelled : (w l : List ℕ) (room : ℕ) (e g : Expr ℕ) (k : ℕ) (c : List ℕ) → Leaf w e → e ≡ g → room ≡ k
    → l ≡ c
    → Spelled (spaced w ++ l) (1 + room) g k c
leaf_spelled w l room e g k c leaf he hk hc =
    record {
      tree = leaf.tree;
      is = sym he ∙ leaf.is;
      text = (λ i. leaf.text i ++ hc i);
      form = leaf.form;
      counted = omega (arith, leaf.counted, hk);
    }

by_word : (operand : Operand) → OperandIs operand → (k : NodeWord) (w : List ℕ) → WordIs k w → (room : ℕ)
    (l : List ℕ)
    (e : Expr ℕ) (m : ℕ) (c : List ℕ) → with_operands operand k w room l ≡ Some ((e, m), c)
    → Spelled (spaced w ++ l) (1 + room) e m c
by_word operand known word.Literal w h room l e m c is =
    let b = between (lift (constant_of (literal_of w)) l) (λ e. pure (e, room)) (e, m) c is in
    let f = lifted (constant_of (literal_of w)) l b.first b.mid b.read in
    let p = same_pair b.first e room m b.mid c b.then_read in
    leaf_spelled w l room b.first e m c (leaf_only w (literal_of w) b.first refl f.0) p.0 p.1 (f.1 ∙ p.2)
by_word operand known (word.Reads a) w h room l e m c is =
    let b = between (number l) (λ n. pure (accessed a n, room)) (e, m) c is in
    let s = reads_number.sound l b.first b.mid b.read in
    let p = same_pair (accessed a b.first) e room m b.mid c b.then_read in
    respelled (spaced w ++ l) (spaced (access_word a ++ written_number b.first) ++ c) (1 + room) e e m m c c
    ((λ i. spaced (h i) ++ s.0 i) ∙ ap spaced (sym (append_assoc (access_word a) (written_number b.first)
    b.mid))
    ∙ ap (λ x. spaced (access_word a ++ written_number b.first) ++ x) p.2) refl refl refl
    (leaf_spelled (access_word a ++ written_number b.first) c room (accessed a b.first) e m c
    (access_tree a b.first s.1) p.0 p.1 refl)
by_word operand known (word.Unary u) w h room l e m c is = one_only operand known u h.1 w h.0 room l e m c is
by_word operand known (word.Binary o) w h room l e m c is = two_only operand known o h.1 w h.0 room l e m c is
by_word operand known word.Choose w h room l e m c is = three_only operand known w h room l e m c is

-- what is read is a tree's text
pub text_read : (depth : ℕ) → OperandIs (expression depth)
text_read zero room l e k c is = absurd cc
text_read (suc depth) zero l e k c is = absurd cc
text_read (suc depth) (suc room) l e k c is =
    let b = between (part l) (λ w. with_operands (expression depth) (node_word w) w room) (e, k) c is in
    let more : 1 + room ≡ suc room = omega arith in
    let s = by_word (expression depth) (text_read depth) (node_word b.first) b.first (word_only b.first)
    room b.mid e k c
    b.then_read in
    record {
      tree = s.tree;
      is = s.is;
      text = part_only l b.first b.mid b.read ∙ s.text;
      form = s.form;
      counted = s.counted ∙ more;
    }
