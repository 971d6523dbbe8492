-- What holds of a reader and a language together: the bundle `Good`, which each rule of a grammar has.
use Rattle.std.proofs.Common.{◌≡◌, ℕ, suc, ◌+◌, ◌<◌, Bool, true, false, List, [], ◌∷◌, ◌++◌, length, Some, Ok}
use Rattle.std.proofs.Common.{Err, refl, sym, ap, subst, arith, cond, ◌⊎◌, inl, inr}
use Rattle.std.proofs.lemmas.List.{length-append}
use Rattle.grammar.specs.Tokens.{Tok, Alphabet, kind_of, place_of, passes, how_many, in_range}
use Rattle.grammar.specs.Fault.{Fault, Unexpected, EndOfText, Deep, Large, OutOfRange, Refusal}
use Rattle.grammar.specs.Language.{Lang}
use Rattle.grammar.specs.Parser.{Unread, Parser, Parsed}

-- the same input with other tokens
abbrev pub from : {K : Type 0} → Unread K → List (Tok K) → Unread K
from i ts = record i { rest = ts }

-- the first of a list, if there is one, is such
abbrev pub First : {X : Type 0} → (X → Type 0) → List X → Type 0
First P [] = ⊥
First P (x ∷ xs) = P x

-- the lists end both, or their first ones are so related
abbrev pub Firsts : {X : Type 0} → (X → X → Type 0) → List X → List X → Type 0
Firsts R [] [] = Unit {0}
Firsts R [] (y ∷ ys) = ⊥
Firsts R (x ∷ xs) [] = ⊥
Firsts R (x ∷ xs) (y ∷ ys) = R x y

-- What the count of leaves and operators is to the marks of a text: the limit is not passed in them and they
-- take the one count to the other; it is passed in them; at this count a token of this mark is the first
-- past it.
pub record Level : Type 1 where
  pub after : ℕ → List ℕ → ℕ → Type 0
  pub over : ℕ → List ℕ → Type 0
  pub full : ℕ → ℕ → Type 0
  pub after_nil : (c : ℕ) → after c [] c
  pub after_zero : (c : ℕ) → after c (0 ∷ []) c
  pub after_seq : (c d e : ℕ) (p q : List ℕ) → after c p d → after d q e → after c (p ++ q) e
  pub over_left : (c : ℕ) (p q : List ℕ) → over c p → over c (p ++ q)
  pub over_right : (c d : ℕ) (p q : List ℕ) → after c p d → over d q → over c (p ++ q)

-- ---- where reading stopped

-- what stands there
abbrev pub Here : {K : Type 0} → Alphabet K → Fault → List (Tok K) → Type 0
Here al Unexpected at = First (λ t. Unit {0}) at
Here al EndOfText at = at ≡ []
Here al Deep at = First (λ t. al.opens t.kind ≡ true) at
Here al Large at = First (λ t. Unit {0}) at
Here al (OutOfRange least most) at = First (λ t. (in_range least most t.value ≡ false) × (w : ℕ)
    × (in_range least most w ≡ true)) at

-- other tokens, at which it would stop in the same way
abbrev pub Alike : {K : Type 0} → Fault → List (Tok K) → List (Tok K) → Type 0
Alike Unexpected at r = Firsts (λ t u. t ≡ u) at r
Alike EndOfText at r = Firsts (λ t u. t ≡ u) at r
Alike Deep at r = Firsts (λ t u. t ≡ u) at r
Alike Large at r = Firsts (λ t u. t ≡ u) at r
Alike (OutOfRange least most) at r = Firsts (λ t u. (u.kind ≡ t.kind) × (in_range least most u.value ≡ false))
    at r

-- the tokens that a text of the language may go on with there
abbrev pub Starts : {K : Type 0} → Fault → List (Tok K) → List (Tok K) → Type 0
Starts Unexpected at start = start ≡ []
Starts EndOfText at start = start ≡ []
Starts Deep at start = First (λ t. start ≡ t ∷ []) at
Starts Large at start = First (λ t. start ≡ t ∷ []) at
Starts {K} (OutOfRange least most) at start = First (λ t. (u : Tok K) × (start ≡ u ∷ []) × (u.kind ≡ t.kind)
    × (in_range least most u.value ≡ true)) at

-- the marks behind it begin with the first past the limit, where that is the fault
abbrev pub Fills : Level → ℕ → Fault → List ℕ → Type 0
Fills v c Unexpected back = Unit {0}
Fills v c EndOfText back = Unit {0}
Fills v c Deep back = Unit {0}
Fills v c Large back = First (λ x. v.full c x) back
Fills v c (OutOfRange least most) back = Unit {0}

-- all brackets that may be are open, where one more is the fault
abbrev pub Bottom : {K : Type 0} → Alphabet K → ℕ → Fault → List (Tok K) → Type 0
Bottom al n Unexpected used = Unit {0}
Bottom al n EndOfText used = Unit {0}
Bottom al n Deep used = how_many al.opens used ≡ how_many al.closes used + n
Bottom al n Large used = Unit {0}
Bottom al n (OutOfRange least most) used = Unit {0}

-- each bracket that opens is one that may be opened, where n may be before
abbrev pub Nested : {K : Type 0} → Alphabet K → ℕ → List (Tok K) → Type 0
Nested {K} al n used = (b : List (Tok K)) (t : Tok K) (c : List (Tok K)) → used ≡ b ++ t ∷ c
    → al.opens t.kind ≡ true → how_many al.opens b < how_many al.closes b + n

-- ---- one run of a reader

-- What was read is a text of the language, and depends on no more than its tokens and the kind of the next
-- one. n: how many brackets may be opened before; m: how many behind.
pub record Took {K A : Type 0} (al : Alphabet K) (v : Level) (n m : ℕ) (p : Parser K A) (s : Lang K A)
    (i : Unread K) (a : A) (j : Unread K) : Type 0 where
  pub used : List (Tok K)
  pub marks : List ℕ
  pub split : i.rest ≡ used ++ j.rest
  pub size : j.size ≡ i.size
  pub aligned : length marks ≡ length used
  pub after : v.after i.count marks j.count
  pub nested : Nested al n used
  pub balance : how_many al.opens used + m ≡ how_many al.closes used + n
  pub spells : s a used marks
  pub local : (r : List (Tok K)) → kind_of r ≡ kind_of j.rest → p (from i (used ++ r)) ≡ Ok (a, from j r)

-- a text of the language that goes on with these tokens
pub record Completes {K A : Type 0} (v : Level) (s : Lang K A) (used : List (Tok K)) (front : List ℕ)
    (count : ℕ) (f : Fault) (start : List (Tok K)) : Type 0 where
  pub answer : A
  pub more : List (Tok K)
  pub back : List ℕ
  pub spells : s answer (used ++ (start ++ more)) (front ++ back)
  pub fills : Fills v count f back

-- Where reading stopped, texts of the language go on.
pub record Stopped {K A : Type 0} (al : Alphabet K) (v : Level) (n : ℕ) (p : Parser K A) (s : Lang K A)
    (i : Unread K) (e : Refusal) : Type 0 where
  pub used : List (Tok K)
  pub at : List (Tok K)
  pub front : List ℕ
  pub count : ℕ
  pub split : i.rest ≡ used ++ at
  pub place : e.place ≡ place_of i.size at
  pub aligned : length front ≡ length used
  pub after : v.after i.count front count
  pub nested : Nested al n used
  pub bottom : Bottom al n e.fault used
  pub stands : Here al e.fault at
  pub local : (r : List (Tok K)) → Alike e.fault at r → p (from i (used ++ r))
      ≡ Err (record { place = place_of i.size r; fault = e.fault })
  pub goes : (start : List (Tok K)) → Starts e.fault at start → Completes v s used front count e.fault start

-- x: how many more brackets the language may have open than are read. Where it may have more, texts go on
-- behind each fault.
abbrev pub Sound : {K A : Type 0} → Alphabet K → ℕ → Level → ℕ → ℕ → Parser K A → Lang K A → Unread K
    → Parsed K A → Type 0
Sound al x v n m p s i (Ok q) = Took al v n m p s i q.0 q.1
Sound al x v n m p s i (Err e) = 0 < x → Stopped al v n p s i e

-- ---- one text of a language

abbrev pub Begins : {K : Type 0} → Bool → (K → Bool) → List (Tok K) → Type 0
Begins empty first [] = empty ≡ true
Begins empty first (t ∷ ts) = first t.kind ≡ true

-- the faults that a text of the language may meet
abbrev pub IsLimit : ℕ → Level → ℕ → List ℕ → Fault → Type 0
IsLimit x v c ms Unexpected = ⊥
IsLimit x v c ms EndOfText = ⊥
IsLimit x v c ms Deep = 0 < x
IsLimit x v c ms Large = v.over c ms
IsLimit x v c ms (OutOfRange least most) = ⊥

-- a text of the language is read, or a limit is met in it
abbrev pub Kept : {K A : Type 0} → ℕ → Level → ℕ → List ℕ → Parsed K A → A → List (Tok K) → Type 0
Kept x v c ms (Ok q) a r = (q.0 ≡ a) × (q.1.rest ≡ r) × v.after c ms q.1.count
Kept x v c ms (Err e) a r = IsLimit x v c ms e.fault

abbrev pub Sample : {K A : Type 0} → Lang K A → Type 0
Sample {K} {A} s = (a : A) × (u : List (Tok K)) × (ms : List ℕ) × s a u ms

-- ---- the bundle

-- The reader p reads the language s. x: how many more brackets the language may have open than are read. n
-- and m: how many brackets may be opened before and behind. empty: whether a text may be empty. first: what
-- may begin one. cont: what may not stand behind one.
pub record Good {K A : Type 0} (al : Alphabet K) (x : ℕ) (v : Level) (n m : ℕ) (p : Parser K A) (s : Lang K A)
    (empty : Bool) (first cont : K → Bool) : Type 0 where
  -- what is read is a text of the language, and where reading stops one goes on
  pub sound : (i : Unread K) → Sound al x v n m p s i (p i)
  -- what completes the parts behind a fault
  pub sample : 0 < x → Sample s
  pub begins : (a : A) (u : List (Tok K)) (ms : List ℕ) → s a u ms → Begins empty first u
  -- each text of the language is read, or a limit is met
  pub kept : (i : Unread K) (a : A) (u r : List (Tok K)) (ms : List ℕ) → i.rest ≡ u ++ r → s a u ms
      → passes cont (kind_of r) ≡ false → Kept x v i.count ms (p i) a r

-- ---- small facts

pub kind_front : {K : Type 0} (v x y : List (Tok K)) → kind_of x ≡ kind_of y
    → kind_of (v ++ x) ≡ kind_of (v ++ y)
kind_front [] x y h = h
kind_front (t ∷ v) x y h = refl

module _ {K : Type 0} where
  firsts_kind : (R : Tok K → Tok K → Type 0) (same : (t u : Tok K) → R t u → u.kind ≡ t.kind)
      (x y : List (Tok K)) → Firsts R x y → kind_of y ≡ kind_of x
  firsts_kind R same [] [] h = refl
  firsts_kind R same [] (t ∷ ts) h = absurd h
  firsts_kind R same (s ∷ ss) [] h = absurd h
  firsts_kind R same (s ∷ ss) (t ∷ ts) h = ap (λ k. Some k) (same s t h)

  kind_equal : (t u : Tok K) → t ≡ u → u.kind ≡ t.kind
  kind_equal t u e = ap (λ (y : Tok K). y.kind) (sym e)

  -- where reading would stop in the same way, the next kind is the same
  pub alike_kind : (f : Fault) (at r : List (Tok K)) → Alike f at r → kind_of r ≡ kind_of at
  alike_kind Unexpected at r h = firsts_kind (λ t u. t ≡ u) kind_equal at r h
  alike_kind EndOfText at r h = firsts_kind (λ t u. t ≡ u) kind_equal at r h
  alike_kind Deep at r h = firsts_kind (λ t u. t ≡ u) kind_equal at r h
  alike_kind Large at r h = firsts_kind (λ t u. t ≡ u) kind_equal at r h
  alike_kind (OutOfRange least most) at r h = firsts_kind (λ t u. (u.kind ≡ t.kind)
      × (in_range least most u.value ≡ false)) (λ t u e. e.0) at r h

  firsts_end : (R : Tok K → Tok K → Type 0) (x y : List (Tok K)) → x ≡ [] → Firsts R x y → y ≡ []
  firsts_end R [] [] e h = refl
  firsts_end R [] (t ∷ ts) e h = absurd h
  firsts_end R (s ∷ ss) y e h = absurd (let no : ⊥ = cc in no)

-- ---- brackets

pub how_many-append : {K : Type 0} (test : K → Bool) (x y : List (Tok K))
    → how_many test (x ++ y) ≡ how_many test x + how_many test y
how_many-append test [] y = omega arith
how_many-append test (t ∷ x) y = by_test (test t.kind) (how_many test (x ++ y)) (how_many test x)
    (how_many test y) (how_many-append test x y)
  where
    by_test : (b : Bool) (n m k : ℕ) → n ≡ m + k → cond b (suc n) n ≡ cond b (suc m) m + k
    by_test true n m k e = omega (arith, e)
    by_test false n m k e = e

first_or : {X : Type 0} → X → List X → X
first_or z [] = z
first_or z (h ∷ hs) = h

rest_of : {X : Type 0} → List X → List X
rest_of [] = []
rest_of (h ∷ hs) = hs

module _ {X : Type 0} where
  -- a place in two lists, one after the other, is a place in the first or in the second
  pub split_in : (u w b : List X) (t : X) (c : List X) → u ++ w ≡ b ++ t ∷ c
      → ((d : List X) × (u ≡ b ++ t ∷ d)) ⊎ ((d : List X) × (b ≡ u ++ d) × (w ≡ d ++ t ∷ c))
  unfolding first_or rest_of
  split_in [] w b t c e = inr (b, refl, e)
  split_in (y ∷ u) w [] t c e = inl (u, ap (λ z. z ∷ u) (ap (first_or y) e))
  split_in (y ∷ u) w (z ∷ b) t c e = further (ap (first_or y) e) (split_in u w b t c (ap rest_of e))
    where
      further : y ≡ z → ((d : List X) × (u ≡ b ++ t ∷ d)) ⊎ ((d : List X) × (b ≡ u ++ d) × (w ≡ d ++ t ∷ c))
          → ((d : List X) × (y ∷ u ≡ (z ∷ b) ++ t ∷ d)) ⊎ ((d : List X) × (z ∷ b ≡ (y ∷ u) ++ d)
          × (w ≡ d ++ t ∷ c))
      further h (inl s) = inl (s.0, rw (h, s.1) refl)
      further h (inr s) = inr (s.0, rw (h, s.1) refl, s.2)

module _ {K : Type 0} (al : Alphabet K) where
  pub nested_nil : (n : ℕ) → Nested al n []
  nested_nil n [] t c e o = absurd (let no : ⊥ = cc in no)
  nested_nil n (y ∷ b) t c e o = absurd (let no : ⊥ = cc in no)

  pub nested-append : (n m : ℕ) (u w : List (Tok K)) → how_many al.opens u + m ≡ how_many al.closes u + n
      → Nested al n u → Nested al m w → Nested al n (u ++ w)
  nested-append n m u w balance nu nw b t c e o =
      elim (split_in u w b t c e) [ inl s ↦ nu b t s.0 s.1 o | inr s ↦ by_second s.0 s.1 (nw s.0 t c s.2 o) ]
    where
      by_second : (d : List (Tok K)) → b ≡ u ++ d → how_many al.opens d < how_many al.closes d + m
          → how_many al.opens b < how_many al.closes b + n
      by_second d e lt = rw e
          (omega (arith, how_many-append al.opens u d, how_many-append al.closes u d, balance, lt))

-- ---- what was read took a token

pub shorter_by : {K : Type 0} (first : K → Bool) (u : List (Tok K)) (i j : Unread K) → Begins false first u
    → i.rest ≡ u ++ j.rest → length j.rest < length i.rest
shorter_by first [] i j b e = absurd (let no : ⊥ = cc in no)
shorter_by first (y ∷ u) i j b e = omega (arith, ap length e, length-append u j.rest)

module _ {K A : Type 0} {al : Alphabet K} {x : ℕ} {v : Level} {n m : ℕ} {p : Parser K A} {s : Lang K A}
    {empty : Bool} {first cont : K → Bool} where
  pub took : Good al x v n m p s empty first cont → (i : Unread K) (q : A × Unread K) → p i ≡ Ok q
      → Took al v n m p s i q.0 q.1
  took g i q e = subst (λ o. Sound al x v n m p s i o) e (g.sound i)

module _ {K A : Type 0} {al : Alphabet K} {x : ℕ} {v : Level} {n m : ℕ} {p : Parser K A} {s : Lang K A}
    {first cont : K → Bool} where
  pub shorter : Good al x v n m p s false first cont → (i : Unread K) (q : A × Unread K) → p i ≡ Ok q
      → length q.1.rest < length i.rest
  shorter g i q e = let t = took g i q e in shorter_by first t.used i q.1
      (g.begins q.0 t.used t.marks t.spells) t.split
