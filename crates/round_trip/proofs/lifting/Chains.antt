-- Chains of operators that group to the left: one term more, and none.
use Rattle.std.proofs.Common.{◌≡◌, ℕ, List, [], ◌∷◌, ◌++◌, map, Option, None, refl, sym, ap, ◌∙◌, inr, append_assoc, append-nil}
use Rattle.host_expr.specs.declared.expr.Expr.{Expr}
use Rattle.grammar.specs.Tokens.{Tok}
use Rattle.grammar.specs.Language.{◌>>=◌, pure, many}
use Rattle.expression_reader.specs.declared.terminal.Terminal.{Terminal}
use Rattle.expression_reader.specs.declared.operator.Operator.{Operator}
use Rattle.expression_reader.specs.Trees.{Name, Term, applied, chained}
use Rattle.module_printer.specs.ExpressionTokens.{Lexemes}
use Rattle.module_reader.specs.Reading.{to_grammar}
use Rattle.expression_reader.specs.Rules as g
use Rattle.expression_reader.specs.Rules.{Lang}
use Rattle.round_trip.proofs.lifting.Lifting.{Lifts, lifts_then, lifts_made}

-- ---- lists with one more

glue : {X : Type 0} (text x y u v v1 v2 y1 y2 : List X) → text ≡ x ++ y → x ≡ u ++ v → v ≡ v1 ++ v2 → v2 ≡ []
    → y ≡ y1 ++ y2 → y2 ≡ [] → text ≡ u ++ (v1 ++ y1)
glue text x y u v v1 v2 y1 y2 a b c d e f =
    let v_is : v ≡ v1 = c ∙ ap (λ z. v1 ++ z) d ∙ append-nil v1 in
    let y_is : y ≡ y1 = e ∙ ap (λ z. y1 ++ z) f ∙ append-nil y1 in
    a ∙ (λ i. b i ++ y_is i) ∙ ap (λ z. (u ++ z) ++ y1) v_is ∙ append_assoc u v1 y1

module _ {A : Type 0} (item : Lang A) where
  many_and_one : (xs : List A) (x : A) (t u : List (Tok Terminal)) (m n : List ℕ) → many item xs t m
      → item x u n → many item (xs ++ x ∷ []) (t ++ u) (m ++ n)
  many_and_one [] x t u m n h g = (
    u,
    [],
    n,
    [],
    ap (λ z. z ++ u) h.0
        ∙ sym (append-nil u),
    ap (λ z. z ++ n) h.1 ∙ sym (append-nil n),
    g,
    (refl, refl),
  )
  many_and_one (a ∷ xs) x t u m n h g = (
    h.0,
    h.1 ++ u,
    h.2,
    h.3 ++ n,
    ap (λ z. z ++ u) h.4 ∙ append_assoc h.0 h.1 u,
    ap (λ z. z ++ n) h.5 ∙ append_assoc h.2 h.3 n,
    h.6,
    many_and_one xs x h.1 u h.3 n h.7 g,
  )

chained_and_one : (a : Expr Name) (bs : List Term) (b : Term)
    → chained a (bs ++ b ∷ []) ≡ applied (chained a bs) b
chained_and_one a [] b = refl
chained_and_one a (c ∷ bs) b = chained_and_one (applied a c) bs b

-- ---- the language of a chain

module _ (sign : Lang (ℕ × Operator)) (operand : Lang (Expr Name)) where
  -- a chain, an operator and an operand
  abbrev and_one : Lang (Expr Name)
  and_one = g.chain sign operand >>= (λ a. g.term sign operand >>= (λ b. pure (applied a b)))

  record IsChain (tree : Expr Name) (text : List (Tok Terminal)) (ms : List ℕ) : Type 0 where
    first : Expr Name
    more : List Term
    front : List (Tok Terminal)
    back : List (Tok Terminal)
    front_marks : List ℕ
    back_marks : List ℕ
    is_text : text ≡ front ++ back
    are_marks : ms ≡ front_marks ++ back_marks
    is_first : operand first front front_marks
    are_more : many (g.term sign operand) more back back_marks
    is_tree : tree ≡ chained first more

  opened : (tree : Expr Name) (text : List (Tok Terminal)) (ms : List ℕ) → g.chain sign operand tree text ms
      → IsChain tree text ms
  opened tree text ms h =
      let d = h.8 in
      record {
        first = h.0;
        more = d.0;
        front = h.1;
        back = d.1;
        front_marks = h.3;
        back_marks = d.3;
        is_text = h.5 ∙ ap (λ z. h.1 ++ z) (d.5 ∙ ap (λ z. d.1 ++ z) d.8.1 ∙ append-nil d.1);
        are_marks = h.6 ∙ ap (λ z. h.3 ++ z) (d.6 ∙ ap (λ z. d.3 ++ z) d.8.2 ∙ append-nil d.3);
        is_first = h.7;
        are_more = d.7;
        is_tree = d.8.0;
      }

  closed : (tree : Expr Name) (text : List (Tok Terminal)) (ms : List ℕ) → IsChain tree text ms
      → g.chain sign operand tree text ms
  closed tree text ms c = (
    c.first,
    c.front,
    c.back,
    c.front_marks,
    c.back_marks,
    c.is_text,
    c.are_marks,
    c.is_first,
    (
      c.more,
      c.back,
      [],
      c.back_marks,
      [],
      sym (append-nil c.back),
      sym (append-nil c.back_marks),
      c.are_more,
      (c.is_tree, refl, refl),
    ),
  )

  longer : (tree : Expr Name) (text : List (Tok Terminal)) (ms : List ℕ) → and_one tree text ms
      → g.chain sign operand tree text ms
  longer tree text ms h =
      let c = opened h.0 h.1 h.3 h.7 in
      let e = h.8 in
      closed tree text ms (record {
        first = c.first;
        more = c.more ++ e.0 ∷ [];
        front = c.front;
        back = c.back ++ e.1;
        front_marks = c.front_marks;
        back_marks = c.back_marks ++ e.3;
        is_text = glue text h.1 h.2 c.front c.back c.back [] e.1 e.2 h.5 c.is_text
            (sym (append-nil c.back)) refl e.5 e.8.1;
        are_marks = glue ms h.3 h.4 c.front_marks c.back_marks c.back_marks [] e.3 e.4 h.6 c.are_marks
            (sym (append-nil c.back_marks)) refl e.6 e.8.2;
        is_first = c.is_first;
        are_more = many_and_one (g.term sign operand) c.more e.0 c.back e.1 c.back_marks e.3 c.are_more e.7;
        is_tree = e.8.0 ∙ ap (λ z. applied z e.0) c.is_tree ∙ sym (chained_and_one c.first c.more e.0);
      })

module _ {A : Type 0} {P : A → Type 0} {s r : Lang A} where
  pub lifts_into : {ws : Lexemes} → ((a : A) (text : List (Tok Terminal)) (ms : List ℕ) → s a text ms
      → r a text ms) → Lifts P s ws → Lifts P r ws
  lifts_into f h = record {
    lift = λ ts e. let x = h.lift ts e in
        record {
          tree = x.tree;
          marks = x.marks;
          is_text = f x.tree (map to_grammar ts) x.marks x.is_text;
          few = x.few;
          told = x.told;
        };
  }

-- ---- chains of words

module _ {sign : Lang (ℕ × Operator)} {operand : Lang (Expr Name)} where
  -- one operator and operand more
  pub lifts_chain : {P Q R : Expr Name → Type 0} {Z : ℕ × Operator → Type 0} {xs ys : Lexemes} {w : List ℕ}
      → Lifts P (g.chain sign operand) xs → Lifts Z sign (w ∷ []) → Lifts R operand ys
      → ((a b : Expr Name) (z : ℕ × Operator) → P a → Z z → R b → Q (applied a (z, b)))
      → Lifts Q (g.chain sign operand) (xs ++ w ∷ ys)
  lifts_chain {R = R} {Z = Z} f z h j =
      lifts_into (longer sign operand)
      (lifts_then f (λ a p. lifts_made (lifts_then {Q = λ (b : Term). Z b.0 × R b.1} z
      (λ n q. lifts_made h (λ b r. (q, r)))) (λ b e. j a b.1 b.0 p e.0 e.1)))

  -- an operand alone
  pub lifts_alone : {P : Expr Name → Type 0} {ws : Lexemes} → Lifts P operand ws
      → Lifts P (g.chain sign operand) ws
  lifts_alone h = lifts_into (λ a text ms x. closed sign operand a text ms (record {
    first = a;
    more = [];
    front = text;
    back = [];
    front_marks = ms;
    back_marks = [];
    is_text = sym (append-nil text);
    are_marks = sym (append-nil ms);
    is_first = x;
    are_more = (refl, refl);
    is_tree = refl;
  })) h

-- ---- what may stand behind

module _ {A B : Type 0} {P : A → Type 0} {s : Lang A} {part : Lang B} (make : A → Option B → A)
    (none : (a : A) → make a None ≡ a) where
  -- and does not
  pub lifts_without : {ws : Lexemes} → Lifts P s ws → Lifts P
      (s >>= (λ a. g.optional part >>= (λ b. pure (make a b)))) ws
  lifts_without h = lifts_into (λ a text ms x. (
    a,
    text,
    [],
    ms,
    [],
    sym (append-nil text),
    sym (append-nil ms),
    x,
    (None, [], [], [], [], refl, refl, inr (refl, refl, refl), (sym (none a), refl, refl)),
  )) h
