-- Two grammars, each text of the one being a text of the other, and each of the other being completed to one
-- of the first: their first faults are the same. And a text within the limits has no other tree, whatever
-- the limits.
use Rattle.std.proofs.Common.{◌≡◌, ℕ, suc, ◌+◌, Bool, List, [], ◌∷◌, ◌++◌, Option, Some, None, Ok, Err, refl}
use Rattle.std.proofs.Common.{sym, ap, subst, ◌∙◌, append_assoc}
use Rattle.std.proofs.lemmas.List.{append-nil}
use Rattle.grammar.specs.Tokens.{Tok, Alphabet}
use Rattle.grammar.specs.Fault.{Fault, Unexpected, EndOfText, Deep, Large, OutOfRange, Refusal}
use Rattle.grammar.specs.Language as l
use Rattle.grammar.specs.Language.{Lang}
use Rattle.grammar.specs.Parser.{Unread, Parser, Parsed, Reads, place, start, whole}
use Rattle.grammar.specs.Texts.{Counts, Text, Within, Viable, Clean, IsPastLimit, FaultAt, FirstFault}
use Rattle.grammar.proofs.Bundle.{Kept, Good}
use Rattle.grammar.proofs.Levels.{outer_level}
use Rattle.grammar.proofs.Nesting.{deeper, deeper-sum}
use Rattle.grammar.proofs.WholeTexts.{good_whole, is_read}

-- a list with more items
pub many-append : {K A : Type 0} (item : Lang K A) (xs ys : List A) (u w : List (Tok K)) (p q : List ℕ)
    → l.many item xs u p → l.many item ys w q → l.many item (xs ++ ys) (u ++ w) (p ++ q)
many-append item [] ys u w p q y z = subst (λ t. l.many item ys (t ++ w) (p ++ q)) (sym y.0)
    (subst (λ t. l.many item ys w (t ++ q)) (sym y.1) z)
many-append item (x ∷ xs) ys u w p q y z = (
  y.0,
  y.1 ++ w,
  y.2,
  y.3 ++ q,
  ap (λ t. t ++ w) y.4
      ∙ append_assoc y.0 y.1 w,
  ap (λ t. t ++ q) y.5 ∙ append_assoc y.2 y.3 q,
  y.6,
  many-append item xs ys y.1 w y.3 q y.7 z,
)

-- one item
pub many_one : {K A : Type 0} (item : Lang K A) (a : A) (u : List (Tok K)) (p : List ℕ) → item a u p
    → l.many item (a ∷ []) u p
many_one item a u p y = (u, [], p, [], sym (append-nil u), sym (append-nil p), y, (refl, refl))

-- what completes a text of one grammar to one of the other
abbrev pub Completed : {K A : Type 0} → Lang K A → List (Tok K) → List ℕ → Type 0
Completed {K} {A} t u ks = (b : A) × (more : List (Tok K)) × (back : List ℕ) × t b (u ++ more) (ks ++ back)

module _ {K A : Type 0} (al : Alphabet K) (s t : ℕ → Lang K A)
    (part : (n : ℕ) (a : A) (u : List (Tok K)) (ks : List ℕ) → t n a u ks → s n a u ks)
    (complete : (m : ℕ) (a : A) (u : List (Tok K)) (ks : List ℕ) → s (al.most_open + m) a u ks
    → Completed (t (al.most_open + m)) u ks) where
  counts_part : (a : A) (u : List (Tok K)) (ks : List ℕ) → Counts al t a u ks → Counts al s a u ks
  counts_part a u ks y = (y.0, part (al.most_open + y.0) a u ks y.1)

  text_part : (a : A) (u : List (Tok K)) → Text al t a u → Text al s a u
  text_part a u y = (y.0, counts_part a u y.0 y.1)

  viable_part : (u : List (Tok K)) → Viable al t u → Viable al s u
  viable_part u y = (y.0, y.1, text_part y.0 (u ++ y.1) y.2)

  -- the marks in front stay
  counts_complete : (before rest : List (Tok K)) (front back : List ℕ) (a : A)
      → Counts al s a (before ++ rest) (front ++ back) → (b : A) × (more : List (Tok K))
      × (others : List ℕ) × Counts al t b (before ++ (rest ++ more)) (front ++ (back ++ others))
  counts_complete before rest front back a y =
      let w = complete y.0 a (before ++ rest) (front ++ back) y.1 in (
        w.0,
        w.1,
        w.2,
        (
          y.0,
          subst (λ z. t (al.most_open + y.0) w.0 z (front ++ (back ++ w.2)))
              (append_assoc before rest w.1) (subst (λ z. t (al.most_open + y.0) w.0 ((before ++ rest) ++ w.1)
              z) (append_assoc front back w.2) w.3),
        ),
      )

  viable_complete : (u : List (Tok K)) → Viable al s u → Viable al t u
  viable_complete u y = let w = counts_complete u y.1 y.2.0 [] y.0
      (subst (λ z. Counts al s y.0 (u ++ y.1) z) (sym (append-nil y.2.0)) y.2.1) in
      (w.0, y.1 ++ w.1, (y.2.0 ++ ([] ++ w.2), w.3))

  past_complete : (before : List (Tok K)) (u : Tok K) → IsPastLimit al s before u → IsPastLimit al t before u
  past_complete before u y = let w = counts_complete before (u ∷ y.1) y.2 (suc al.most_counted ∷ y.3) y.0
      y.4 in (w.0, y.1 ++ w.1, y.2, y.3 ++ w.2, w.3, y.5)

  fault_at : (f : Fault) (before at : List (Tok K)) → FaultAt al s f before at → FaultAt al t f before at
  fault_at Unexpected before [] y = y
  fault_at Unexpected before (u ∷ at) y = (
    viable_complete before y.0,
    λ z. y.1 (viable_part (before ++ u ∷ []) z),
  )
  fault_at EndOfText before [] y = (viable_complete before y.0, λ a z. y.1 a (text_part a before z))
  fault_at EndOfText before (u ∷ at) y = y
  fault_at Deep before [] y = y
  fault_at Deep before (u ∷ at) y = (
    y.0,
    y.1,
    viable_complete (before ++ u ∷ []) y.2,
    λ a more z. y.3 a more (z.0, part al.most_open a ((before ++ u ∷ []) ++ more) z.0 z.1),
  )
  fault_at Large before [] y = y
  fault_at Large before (u ∷ at) y = (
    past_complete before u y.0,
    λ a more z. y.1 a more
        (z.0, part al.most_open a ((before ++ u ∷ []) ++ more) z.0 z.1, z.2),
  )
  fault_at (OutOfRange least most) before [] y = y
  fault_at (OutOfRange least most) before (u ∷ at) y = (
    y.0,
    λ o same. (
      λ inside. viable_complete (before ++ o ∷ []) ((y.1 o same).0 inside),
      λ outside z. (y.1 o same).1 outside (viable_part (before ++ o ∷ []) z),
    ),
  )

  clean : (before : List (Tok K)) → Clean al s before → Clean al t before
  clean before y = record {
    brackets = y.brackets;
    leaves = let h = y.leaves in let w = counts_complete before h.1 h.2 h.3 h.0 h.4 in
        (w.0, h.1 ++ w.1, h.2, h.3 ++ w.2, w.3, h.5, h.6);
  }

  pub fault_complete : (size : ℕ) (ts : List (Tok K)) (r : Refusal) → FirstFault al s size ts r
      → FirstFault al t size ts r
  fault_complete size ts r y = (y.0, y.1, y.2, y.3, clean y.0 y.4, fault_at r.fault y.0 y.1 y.5)

-- ---- one tree

module _ {K A : Type 0} (al : Alphabet K) (texts : ℕ → Lang K A) (p : Parser K A) {empty : Bool}
    {first cont : K → Bool}
    (g : (x : ℕ) → Good al x (outer_level al) al.most_open al.most_open p (texts (deeper al.most_open x))
    empty first cont) where
  kept_at : (ts : List (Tok K)) (b : A) (z : Text al texts b ts)
      → Kept z.1.0 (outer_level al) 0 z.0 (whole p (start ts 0)) b []
  kept_at ts b z = (good_whole (g z.1.0)).kept (start ts 0) b ts [] z.0 (sym (append-nil ts))
      (subst (λ n. texts n b ts z.0) (sym (deeper-sum al.most_open z.1.0)) z.1.1) refl

  alone_by : (ts : List (Tok K)) (a b : A) (o : Parsed K A) → whole p (start ts 0) ≡ o
      → Within al texts a ts → Text al texts b ts → b ≡ a
  unfolding place
  alone_by ts a b (Ok q) e y z =
      let read : q.0 ≡ a = is_read al texts p g {E = Refusal} (λ r. Some r) 0 ts (Ok q.0) q.1 e a y in
      sym (subst (λ o. Kept z.1.0 (outer_level al) 0 z.0 o b []) e (kept_at ts b z)).0 ∙ read
  alone_by ts a b (Err r) e y z = absurd (let h : ◌≡◌ {A = Option Refusal} (Some r) None = refused in
      let no : ⊥ = cc in no)
    where
      known : (s : Refusal) → ◌≡◌ {A = Option Refusal} (Some r) (Some s) → r ≡ s
      known s same = cc

      -- a reader at the end of a text of this size stands where the refusal does
      ended : Unread K
      ended = record { rest = []; count = 0; size = r.place }

      refuses : Reads {E = Refusal} (λ s. Some s) (whole p (start ts 0)) (Err r) ended
      refuses s same = record {
        refused = e ∙ ap (λ s. Err s) (known s same);
        stands =
            ap (λ (s : Refusal). s.place) (known s same);
      }

      refused : ◌≡◌ {A = Option Refusal} (Some r) None
      refused = is_read al texts p g {E = Refusal} (λ s. Some s) 0 ts (Err r) ended refuses a y

  -- a text within the limits has no other tree
  pub text_alone : (ts : List (Tok K)) (a b : A) → Within al texts a ts → Text al texts b ts → b ≡ a
  text_alone ts a b y z = alone_by ts a b (whole p (start ts 0)) refl y z
