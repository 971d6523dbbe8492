-- The readers of one token: of a kind, of a set of kinds, in a range, and counted.
use Rattle.std.proofs.Common.{◌≡◌, ℕ, suc, ◌+◌, ◌<◌, Bool, true, false, cond, List, [], ◌∷◌, ◌++◌, Result, Ok}
use Rattle.std.proofs.Common.{Err, refl, sym, ap, subst, ◌∙◌, arith}
use Rattle.std.specs.Prelude.{not, nat_lt}
use Rattle.std.proofs.lemmas.Bool.{ltb-true, ltb-false}
use Rattle.grammar.specs.Tokens.{Tok, Alphabet, is, is_plain, is_opening, is_closing, place_of, how_many}
use Rattle.grammar.specs.Tokens.{in_range, never}
use Rattle.grammar.specs.Fault.{Fault, Unexpected, EndOfText, Deep, Large, OutOfRange}
use Rattle.grammar.specs.Language as l
use Rattle.grammar.specs.Language.{Lang}
use Rattle.grammar.specs.Parser.{Unread, Parser, Parsed, one, take, name, ranged, counted, counted_token}
use Rattle.grammar.specs.Parser.{sees, kind, place, text, value, next, refusal, fail}
use Rattle.grammar.proofs.KindSets.{subset, both, not_true, implied, is_kind, is_self}
use Rattle.grammar.proofs.Bundle.{from, Firsts, Level, Here, Alike, Starts, Fills, Bottom, Nested, Completes}
use Rattle.grammar.proofs.Bundle.{Stopped, Sound, Begins, Kept, Good, nested_nil}
use Rattle.grammar.proofs.Levels.{inner_level}

-- ---- reading stops at the next token

pub stops_at : {K A : Type 0} (al : Alphabet K) (v : Level) (n : ℕ) (q : Parser K A) (s : Lang K A)
    (i : Unread K) (f : Fault) (ts : List (Tok K)) → i.rest ≡ ts → Here al f ts → Bottom al n f []
    → ((r : List (Tok K)) → Alike f ts r → q (from i r) ≡ Err
    (record { place = place_of i.size r; fault = f }))
    → ((start : List (Tok K)) → Starts f ts start → Completes v s [] [] i.count f start)
    → Stopped al v n q s i (record { place = place_of i.size ts; fault = f })
stops_at al v n q s i f ts split stands bottom local goes = record {
  used = [];
  at = ts;
  front = [];
  count = i.count;
  split = split;
  place = refl;
  aligned = refl;
  after = v.after_nil i.count;
  nested = nested_nil al n;
  bottom = bottom;
  stands = stands;
  local = local;
  goes = goes;
}

-- ---- readers of one token, by what each makes of it

abbrev judged : {K A : Type 0} → Result A Fault → Unread K → Tok K → List (Tok K) → Parsed K A
judged (Ok a) i t ts = Ok (a, from i ts)
judged (Err f) i t ts = Err (record { place = t.place; fault = f })

abbrev by_token_at : {K A : Type 0} → (Tok K → Result A Fault) → Unread K → List (Tok K) → Parsed K A
by_token_at judge i [] = Err (record { place = i.size; fault = EndOfText })
by_token_at judge i (t ∷ ts) = judged (judge t) i t ts

abbrev pub by_token : {K A : Type 0} → (Tok K → Result A Fault) → Parser K A
by_token judge i = by_token_at judge i i.rest

-- a fault of one token: any token is Unexpected; a number out of a range is one for which each number in the
-- range would be read, of which there are, and no other
abbrev pub Fair : {K A : Type 0} → (Tok K → Result A Fault) → Fault → Tok K → Type 0
Fair judge Unexpected t = Unit {0}
Fair judge EndOfText t = ⊥
Fair judge Deep t = ⊥
Fair judge Large t = ⊥
Fair {K} {A} judge (OutOfRange least most) t =
    (in_range least most t.value ≡ false) × ((u : Tok K) → u.kind ≡ t.kind
    → (in_range least most u.value ≡ true → (a : A) × (judge u ≡ Ok a))
    × (in_range least most u.value ≡ false → judge u ≡ Err (OutOfRange least most)))
    × (w : ℕ) × (in_range least most w ≡ true)

-- The reader takes one token or refuses it, and the language has the texts of one token that it takes.
pub record Single {K A : Type 0} (p : Parser K A) (s : Lang K A) (test : K → Bool) : Type 0 where
  pub judge : Tok K → Result A Fault
  pub reads : (i : Unread K) → p i ≡ by_token judge i
  pub spells : (t : Tok K) (a : A) → judge t ≡ Ok a → s a (t ∷ []) (0 ∷ [])
  pub is_one : (a : A) (u : List (Tok K)) (ms : List ℕ) → s a u ms → (t : Tok K) × (u ≡ t ∷ [])
      × (judge t ≡ Ok a) × (ms ≡ 0 ∷ [])
  pub in_test : (t : Tok K) (a : A) → judge t ≡ Ok a → test t.kind ≡ true
  pub fair : (t : Tok K) (f : Fault) → judge t ≡ Err f → Fair judge f t
  pub example : (t : Tok K) × (a : A) × (judge t ≡ Ok a)

-- how the tokens of a set change how many brackets may be opened
pub record Turns {K : Type 0} (al : Alphabet K) (n m : ℕ) (test : K → Bool) : Type 0 where
  pub balance : (t : Tok K) → test t.kind ≡ true → how_many al.opens (t ∷ []) + m ≡ how_many al.closes
      (t ∷ []) + n
  pub some : (t : Tok K) → test t.kind ≡ true → al.opens t.kind ≡ true → 0 < n

-- where such a reader refuses, for the language of one token with a mark
module _ {K A : Type 0} (al : Alphabet K) (v : Level) (n : ℕ) (q : Parser K A) (s : Lang K A) (w : ℕ)
    (judge : Tok K → Result A Fault) (put : (t : Tok K) (a : A) → judge t ≡ Ok a → s a (t ∷ []) (w ∷ []))
    (ends : (i : Unread K) → i.rest ≡ [] → q i ≡ Err (record { place = i.size; fault = EndOfText }))
    (refuses : (i : Unread K) (t : Tok K) (ts : List (Tok K)) (f : Fault) → i.rest ≡ t ∷ ts
    → judge t ≡ Err f → q i ≡ Err (record { place = t.place; fault = f }))
    (example : (t : Tok K) × (a : A) × (judge t ≡ Ok a)) where
  example_goes : (c : ℕ) (f : Fault) (start : List (Tok K)) → Fills v c f (w ∷ []) → start ≡ []
      → Completes v s [] [] c f start
  example_goes c f start fills e = record {
    answer = example.1;
    more = example.0 ∷ [];
    back = w ∷ [];
    spells = subst (λ z. s example.1 (z ++ (example.0 ∷ [])) (w ∷ [])) (sym e)
        (put example.0 example.1 example.2);
    fills = fills;
  }

  end_stops : (i : Unread K) → i.rest ≡ [] → Stopped al v n q s i
      (record { place = i.size; fault = EndOfText })
  end_stops i e = stops_at al v n q s i EndOfText [] e refl tt local
      (λ start c. example_goes i.count EndOfText start tt c)
    where
      local : (r : List (Tok K)) → Firsts (λ t u. t ≡ u) [] r
          → q (from i r) ≡ Err (record { place = place_of i.size r; fault = EndOfText })
      local [] h = ends (from i []) refl
      local (t ∷ r) h = absurd h

  token_stops : (i : Unread K) (t : Tok K) (ts : List (Tok K)) (f : Fault) → i.rest ≡ t ∷ ts
      → judge t ≡ Err f → Fair judge f t → Stopped al v n q s i (record { place = t.place; fault = f })
  token_stops i t ts Unexpected e j h = stops_at al v n q s i Unexpected (t ∷ ts) e tt tt local
      (λ start c. example_goes i.count Unexpected start tt c)
    where
      local : (r : List (Tok K)) → Firsts (λ t u. t ≡ u) (t ∷ ts) r
          → q (from i r) ≡ Err (record { place = place_of i.size r; fault = Unexpected })
      local [] c = absurd c
      local (u ∷ r) c = refuses (from i (u ∷ r)) u r Unexpected refl
          (subst (λ z. judge z ≡ Err Unexpected) c j)
  token_stops i t ts EndOfText e j h = absurd h
  token_stops i t ts Deep e j h = absurd h
  token_stops i t ts Large e j h = absurd h
  token_stops i t ts (OutOfRange least most) e j h = stops_at al v n q s i (OutOfRange least most)
      (t ∷ ts) e (h.0, h.2, h.3) tt local goes
    where
      local : (r : List (Tok K)) → Firsts (λ t u. (u.kind ≡ t.kind)
          × (in_range least most u.value ≡ false)) (t ∷ ts) r
          → q (from i r) ≡ Err (record { place = place_of i.size r; fault = OutOfRange least most })
      local [] c = absurd c
      local (u ∷ r) c = refuses (from i (u ∷ r)) u r (OutOfRange least most) refl ((h.1 u c.0).1 c.1)

      goes : (start : List (Tok K)) → ((u : Tok K) × (start ≡ u ∷ []) × (u.kind ≡ t.kind)
          × (in_range least most u.value ≡ true)) → Completes v s [] [] i.count (OutOfRange least most) start
      goes start c =
          let found = (h.1 c.0 c.2).0 c.3 in
          record {
            answer = found.0;
            more = [];
            back = w ∷ [];
            spells = subst (λ z. s found.0 (z ++ []) (w ∷ [])) (sym c.1) (put c.0 found.0 found.1);
            fills = tt;
          }

nested_one : {K : Type 0} (al : Alphabet K) (n : ℕ) (t : Tok K) → (al.opens t.kind ≡ true → 0 < n)
    → Nested al n (t ∷ [])
nested_one {K} al n t some b u c e o = only_first b u c e o
  where
    first_or : Tok K → List (Tok K) → Tok K
    first_or z [] = z
    first_or z (h ∷ hs) = h

    only_first : (b : List (Tok K)) (u : Tok K) (c : List (Tok K)) → t ∷ [] ≡ b ++ u ∷ c
        → al.opens u.kind ≡ true → how_many al.opens b < how_many al.closes b + n
    only_first [] u c e o = let same : t ≡ u = ap (first_or t) e in let lt =
        some (subst (λ (z : Tok K). al.opens z.kind ≡ true) (sym same) o) in omega (arith, lt)
    only_first (y ∷ []) u c e o = absurd (let no : ⊥ = cc in no)
    only_first (y ∷ z ∷ b) u c e o = absurd (let no : ⊥ = cc in no)

module _ {K A : Type 0} {p : Parser K A} {s : Lang K A} {test : K → Bool} (g : Single p s test) where
  reads_at : (i : Unread K) (ts : List (Tok K)) → i.rest ≡ ts → p i ≡ by_token_at g.judge i ts
  reads_at i ts e = g.reads i ∙ ap (by_token_at g.judge i) e

  reads_token : (i : Unread K) (t : Tok K) (ts : List (Tok K)) (o : Result A Fault) → i.rest ≡ t ∷ ts
      → g.judge t ≡ o → p i ≡ judged o i t ts
  reads_token i t ts o e j = reads_at i (t ∷ ts) e ∙ ap (λ z. judged z i t ts) j

  single_begins : (a : A) (u : List (Tok K)) (ms : List ℕ) → s a u ms → Begins false test u
  single_begins a u ms y = let t = g.is_one a u ms y in rw t.1 (g.in_test t.0 a t.2)

  module _ (al : Alphabet K) (x : ℕ) (v : Level) (n m : ℕ) (turns : Turns al n m test) where
    single_by : (i : Unread K) (t : Tok K) (ts : List (Tok K)) (o : Result A Fault) → i.rest ≡ t ∷ ts
        → g.judge t ≡ o → Sound al x v n m p s i (judged o i t ts)
    single_by i t ts (Ok a) e j = record {
      used = t ∷ [];
      marks = 0 ∷ [];
      split = e;
      size = refl;
      aligned = refl;
      after = v.after_zero i.count;
      nested = nested_one al n t (turns.some t (g.in_test t a j));
      balance = turns.balance t (g.in_test t a j);
      spells = g.spells t a j;
      local = λ r c. reads_token (from i (t ∷ r)) t r (Ok a) refl j;
    }
    single_by i t ts (Err f) e j = λ lt. token_stops al v n p s 0 g.judge g.spells (λ i e. reads_at i [] e)
        (λ i t ts f e j. reads_token i t ts (Err f) e j) g.example i t ts f e j (g.fair t f j)

    single_sound : (i : Unread K) (ts : List (Tok K)) → i.rest ≡ ts
        → Sound al x v n m p s i (by_token_at g.judge i ts)
    single_sound i [] e = λ lt. end_stops al v n p s 0 g.judge g.spells (λ i e. reads_at i [] e)
        (λ i t ts f e j. reads_token i t ts (Err f) e j) g.example i e
    single_sound i (t ∷ ts) e = single_by i t ts (g.judge t) e refl

    single_kept : (i : Unread K) (a : A) (u r : List (Tok K)) (ms : List ℕ) → i.rest ≡ u ++ r → s a u ms
        → Kept x v i.count ms (p i) a r
    single_kept i a u r ms e y =
        let t = g.is_one a u ms y in
        let split : i.rest ≡ t.0 ∷ r = e ∙ ap (λ z. z ++ r) t.1 in
        subst (λ o. Kept x v i.count ms o a r) (sym (reads_token i t.0 r (Ok a) split t.2))
        (refl, refl, subst (λ z. v.after i.count z i.count) (sym t.3) (v.after_zero i.count))

-- a reader of one token
pub good_single : {K A : Type 0} {al : Alphabet K} {x : ℕ} {v : Level} {n m : ℕ} {p : Parser K A}
    {s : Lang K A} {test : K → Bool} → Single p s test → Turns al n m test
    → Good al x v n m p s false test never
good_single {al = al} {x} {v} {n} {m} {p} {s} {test} g turns = record {
  sound = λ i. subst (λ o. Sound al x v n m p s i o) (sym (g.reads i))
      (single_sound g al x v n m turns i i.rest refl);
  sample = λ lt. (g.example.1, g.example.0 ∷ [], 0 ∷ [], g.spells g.example.0 g.example.1 g.example.2);
  begins = single_begins g;
  kept = λ i a u r ms e y c. single_kept g al x v n m turns i a u r ms e y;
}

-- ---- a leaf or an operator

module _ {K A : Type 0} {p : Parser K A} {s : Lang K A} {test : K → Bool} (g : Single p s test)
    (al : Alphabet K) where
  counted_at : (i : Unread K) (t : Tok K) (ts : List (Tok K)) (a : A) (b : Bool) → i.rest ≡ t ∷ ts
      → g.judge t ≡ Ok a → nat_lt i.count al.most_counted ≡ b
      → counted al p i ≡ cond b (Ok (a, record i { rest = ts; count = i.count + 1 }))
      (Err (record { place = t.place; fault = Large }))
  unfolding counted fail place
  counted_at i t ts a b e j h = rw (reads_token g i t ts (Ok a) e j, e, h) refl

  counted_refuses : (i : Unread K) (t : Tok K) (ts : List (Tok K)) (f : Fault) → i.rest ≡ t ∷ ts
      → g.judge t ≡ Err f → counted al p i ≡ Err (record { place = t.place; fault = f })
  unfolding counted
  counted_refuses i t ts f e j = rw (reads_token g i t ts (Err f) e j) refl

  counted_ends : (i : Unread K) → i.rest ≡ [] → counted al p i ≡ Err
      (record { place = i.size; fault = EndOfText })
  unfolding counted
  counted_ends i e = rw (reads_at g i [] e) refl

  put_one : (t : Tok K) (a : A) → g.judge t ≡ Ok a → l.counted s a (t ∷ []) (1 ∷ [])
  put_one t a j = (g.spells t a j, refl)

  module _ (x n : ℕ) (turns : Turns al n n test) where
    large_stops : (i : Unread K) (t : Tok K) (ts : List (Tok K)) (a : A) → i.rest ≡ t ∷ ts
        → g.judge t ≡ Ok a → nat_lt i.count al.most_counted ≡ false
        → Stopped al (inner_level al) n (counted al p) (l.counted s) i
        (record { place = t.place; fault = Large })
    unfolding inner_level
    large_stops i t ts a e j h = stops_at al (inner_level al) n (counted al p) (l.counted s) i Large
        (t ∷ ts) e tt tt local goes
      where
        local : (r : List (Tok K)) → Firsts (λ t u. t ≡ u) (t ∷ ts) r
            → counted al p (from i r) ≡ Err (record { place = place_of i.size r; fault = Large })
        local [] c = absurd c
        local (u ∷ r) c = counted_at (from i (u ∷ r)) u r a false refl (subst (λ z. g.judge z ≡ Ok a) c j) h

        goes : (start : List (Tok K)) → start ≡ t ∷ []
            → Completes (inner_level al) (l.counted s) [] [] i.count Large start
        goes start c = record {
          answer = a;
          more = [];
          back = 1 ∷ [];
          spells = subst (λ z. l.counted s a (z ++ []) (1 ∷ [])) (sym c) (put_one t a j);
          fills = (refl, ltb-false i.count al.most_counted h);
        }

    one_more : (i : Unread K) (t : Tok K) (ts : List (Tok K)) (a : A) (b : Bool) → i.rest ≡ t ∷ ts
        → g.judge t ≡ Ok a → nat_lt i.count al.most_counted ≡ b
        → Sound al x (inner_level al) n n (counted al p) (l.counted s) i
        (cond b (Ok (a, record i { rest = ts; count = i.count + 1 }))
        (Err (record { place = t.place; fault = Large })))
    unfolding inner_level
    one_more i t ts a true e j h = record {
      used = t ∷ [];
      marks = 1 ∷ [];
      split = e;
      size = refl;
      aligned = refl;
      after = (omega arith, λ le. omega (arith, ltb-true i.count al.most_counted h));
      nested = nested_one al n t (turns.some t (g.in_test t a j));
      balance = turns.balance t (g.in_test t a j);
      spells = put_one t a j;
      local = λ r c. counted_at (from i (t ∷ r)) t r a true refl j h;
    }
    one_more i t ts a false e j h = λ lt. large_stops i t ts a e j h

    counted_by : (i : Unread K) (t : Tok K) (ts : List (Tok K)) (o : Result A Fault) → i.rest ≡ t ∷ ts
        → g.judge t ≡ o → Sound al x (inner_level al) n n (counted al p) (l.counted s) i (counted al p i)
    counted_by i t ts (Ok a) e j = subst (λ o. Sound al x (inner_level al) n n (counted al p) (l.counted s)
        i o) (sym (counted_at i t ts a (nat_lt i.count al.most_counted) e j refl))
        (one_more i t ts a (nat_lt i.count al.most_counted) e j refl)
    counted_by i t ts (Err f) e j =
        subst (λ o. Sound al x (inner_level al) n n (counted al p) (l.counted s) i o)
        (sym (counted_refuses i t ts f e j))
        (λ lt. token_stops al (inner_level al) n (counted al p) (l.counted s) 1 g.judge put_one
        counted_ends counted_refuses g.example i t ts f e j (g.fair t f j))

    counted_sound : (i : Unread K) (ts : List (Tok K)) → i.rest ≡ ts
        → Sound al x (inner_level al) n n (counted al p) (l.counted s) i (counted al p i)
    counted_sound i [] e =
        subst (λ o. Sound al x (inner_level al) n n (counted al p) (l.counted s) i o) (sym (counted_ends i e))
        (λ lt. end_stops al (inner_level al) n (counted al p) (l.counted s) 1 g.judge put_one counted_ends
        counted_refuses g.example i e)
    counted_sound i (t ∷ ts) e = counted_by i t ts (g.judge t) e refl

    kept_by : (i : Unread K) (t : Tok K) (a : A) (r : List (Tok K)) (b : Bool)
        → nat_lt i.count al.most_counted ≡ b
        → Kept x (inner_level al) i.count (1 ∷ [])
        (cond b (Ok (a, record i { rest = r; count = i.count + 1 }))
        (Err (record { place = t.place; fault = Large }))) a r
    unfolding inner_level
    kept_by i t a r true h = (
      refl,
      refl,
      (
        omega arith,
        λ le. omega (arith, ltb-true i.count al.most_counted h),
      ),
    )
    kept_by i t a r false h = omega (arith, ltb-false i.count al.most_counted h)

    counted_kept : (i : Unread K) (a : A) (u r : List (Tok K)) (ms : List ℕ) → i.rest ≡ u ++ r
        → l.counted s a u ms → Kept x (inner_level al) i.count ms (counted al p i) a r
    counted_kept i a u r ms e y =
        let t = g.is_one a u (0 ∷ []) y.0 in
        let split : i.rest ≡ t.0 ∷ r = e ∙ ap (λ z. z ++ r) t.1 in
        subst (λ z. Kept x (inner_level al) i.count z (counted al p i) a r) (sym y.1)
        (subst (λ o. Kept x (inner_level al) i.count (1 ∷ []) o a r)
        (sym (counted_at i t.0 r a (nat_lt i.count al.most_counted) split t.2 refl))
        (kept_by i t.0 a r (nat_lt i.count al.most_counted) refl))

-- ---- how brackets turn

module _ {K : Type 0} (al : Alphabet K) where
  plain_of : (o c : Bool) (n : ℕ) → o ≡ false → c ≡ false → cond o 1 0 + n ≡ cond c 1 0 + n
  plain_of true c n e h = absurd (let no : ⊥ = cc in no)
  plain_of false true n e h = absurd (let no : ⊥ = cc in no)
  plain_of false false n e h = refl

  opening_of : (o c : Bool) (n : ℕ) → o ≡ true → c ≡ false → cond o 1 0 + n ≡ cond c 1 0 + suc n
  opening_of false c n e h = absurd (let no : ⊥ = cc in no)
  opening_of true true n e h = absurd (let no : ⊥ = cc in no)
  opening_of true false n e h = omega arith

  closing_of : (o c : Bool) (n : ℕ) → o ≡ false → c ≡ true → cond o 1 0 + suc n ≡ cond c 1 0 + n
  closing_of true c n e h = absurd (let no : ⊥ = cc in no)
  closing_of false false n e h = absurd (let no : ⊥ = cc in no)
  closing_of false true n e h = omega arith

  impossible : (o : Bool) (n : ℕ) → o ≡ false → o ≡ true → 0 < n
  impossible o n e h = absurd (let no : ⊥ = cc in no)

  plain_at : (test : K → Bool) → subset al test (is_plain al) ≡ true → (t : Tok K) → test t.kind ≡ true
      → (al.opens t.kind ≡ false) × (al.closes t.kind ≡ false)
  plain_at test e t h = let b = both (not (al.opens t.kind)) (not (al.closes t.kind))
      (implied al test (is_plain al) e t.kind h) in
      (not_true (al.opens t.kind) b.0, not_true (al.closes t.kind) b.1)

  turns_plain : (n : ℕ) (test : K → Bool) → subset al test (is_plain al) ≡ true → Turns al n n test
  turns_plain n test e = record {
    balance = λ t h. let p = plain_at test e t h in plain_of (al.opens t.kind) (al.closes t.kind) n p.0 p.1;
    some = λ t h o. impossible (al.opens t.kind) n (plain_at test e t h).0 o;
  }

  turns_kind : (n : ℕ) (a : K) → is_plain al a ≡ true → Turns al n n (is al a)
  turns_kind n a e = record {
    balance = λ t h. let p = kind_at t h in plain_of (al.opens t.kind) (al.closes t.kind) n p.0 p.1;
    some = λ t h o. impossible (al.opens t.kind) n (kind_at t h).0 o;
  }
    where
      kind_at : (t : Tok K) → is al a t.kind ≡ true → (al.opens t.kind ≡ false) × (al.closes t.kind ≡ false)
      kind_at t h = let b = both (not (al.opens t.kind)) (not (al.closes t.kind))
          (subst (λ k. is_plain al k ≡ true) (sym (is_kind al a t.kind h)) e) in
          (not_true (al.opens t.kind) b.0, not_true (al.closes t.kind) b.1)

  opens_at : (a : K) → is_opening al a ≡ true → (t : Tok K) → is al a t.kind ≡ true
      → (al.opens t.kind ≡ true) × (al.closes t.kind ≡ false)
  opens_at a e t h = let b = both (al.opens t.kind) (not (al.closes t.kind))
      (subst (λ k. is_opening al k ≡ true) (sym (is_kind al a t.kind h)) e) in
      (b.0, not_true (al.closes t.kind) b.1)

  turns_opening : (n : ℕ) (a : K) → is_opening al a ≡ true → Turns al (suc n) n (is al a)
  turns_opening n a e = record {
    balance = λ t h. let p = opens_at a e t h in opening_of (al.opens t.kind) (al.closes t.kind) n p.0 p.1;
    some = λ t h o. omega arith;
  }

  closes_at : (a : K) → is_closing al a ≡ true → (t : Tok K) → is al a t.kind ≡ true
      → (al.opens t.kind ≡ false) × (al.closes t.kind ≡ true)
  closes_at a e t h = let b = both (al.closes t.kind) (not (al.opens t.kind))
      (subst (λ k. is_closing al k ≡ true) (sym (is_kind al a t.kind h)) e) in
      (not_true (al.opens t.kind) b.1, b.0)

  turns_closing : (n : ℕ) (a : K) → is_closing al a ≡ true → Turns al n (suc n) (is al a)
  turns_closing n a e = record {
    balance = λ t h. let p = closes_at a e t h in closing_of (al.opens t.kind) (al.closes t.kind) n p.0 p.1;
    some = λ t h o. impossible (al.opens t.kind) n (closes_at a e t h).0 o;
  }

-- a leaf or an operator, by what it is of one token
pub good_counted_by : {K A : Type 0} {al : Alphabet K} {x n : ℕ} {p : Parser K A} {s : Lang K A} {test : K
    → Bool} → Single p s test → Turns al n n test → Good al x (inner_level al) n n (counted al p)
    (l.counted s) false test never
good_counted_by {al = al} {x} {n} {p} {s} {test} g turns = record {
  sound = λ i. counted_sound g al x n turns i i.rest refl;
  sample = λ lt. (g.example.1, g.example.0 ∷ [], 1 ∷ [], put_one g al g.example.0 g.example.1 g.example.2);
  begins = λ a u ms y. single_begins g a u (0 ∷ []) y.0;
  kept = λ i a u r ms f y c. counted_kept g al x n turns i a u r ms f y;
}

pub good_counted : {K A : Type 0} {al : Alphabet K} {x n : ℕ} {p : Parser K A} {s : Lang K A} {test : K
    → Bool} → Single p s test → subset al test (is_plain al) ≡ true
    → Good al x (inner_level al) n n (counted al p) (l.counted s) false test never
good_counted {al = al} {n = n} {test = test} g e = good_counted_by g (turns_plain al n test e)

-- ---- the steps of one token

same_answer : {A : Type 0} (a b : A) → ◌≡◌ {A = Result A Fault} (Ok a) (Ok b) → b ≡ a
same_answer {A} a b e = sym (ap (answer_or a) e)
  where
    answer_or : A → Result A Fault → A
    answer_or z (Ok y) = y
    answer_or z (Err f) = z

same_fault : {A : Type 0} (f g : Fault) → ◌≡◌ {A = Result A Fault} (Err f) (Err g) → f ≡ g
same_fault {A} f g e = ap (fault_or f) e
  where
    fault_or : Fault → Result A Fault → Fault
    fault_or z (Ok y) = z
    fault_or z (Err f) = f

module _ {K A : Type 0} (test : K → Bool) (make : ℕ → List ℕ → ℕ → A) where
  judge_one : (b : Bool) → Tok K → Result A Fault
  judge_one b t = cond b (Ok (make t.place t.text t.value)) (Err Unexpected)

  one_at : (i : Unread K) (ts : List (Tok K)) → i.rest ≡ ts
      → one test make i ≡ by_token_at (λ t. judge_one (test t.kind) t) i ts
  unfolding one sees kind place text value next refusal judge_one
  one_at i [] e = rw e refl
  one_at i (t ∷ ts) e = rw e (by_test (from i (t ∷ ts)) (test t.kind))
    where
      by_test : (j : Unread K) (b : Bool) → cond {A = Parsed K A} b
          (Ok (make t.place t.text t.value, from j ts))
          (Err (record { place = t.place; fault = Unexpected })) ≡ judged
          (cond {A = Result A Fault} b (Ok (make t.place t.text t.value)) (Err Unexpected)) j t ts
      by_test j true = refl
      by_test j false = refl

  one_taken : (t : Tok K) (b : Bool) (a : A) → judge_one b t ≡ Ok a
      → (b ≡ true) × (a ≡ make t.place t.text t.value)
  unfolding judge_one
  one_taken t true a j = (refl, same_answer (make t.place t.text t.value) a j)
  one_taken t false a j = absurd (let no : ⊥ = cc in no)

  one_refused : (t : Tok K) (b : Bool) (f : Fault) → judge_one b t ≡ Err f
      → Fair {K = K} {A = A} (λ t. judge_one (test t.kind) t) f t
  unfolding judge_one
  one_refused t true f j = absurd (let no : ⊥ = cc in no)
  one_refused t false f j = subst (λ z. Fair {K = K} {A = A} (λ t. judge_one (test t.kind) t) z t)
      (same_fault Unexpected f j) tt

  one_judge : (t : Tok K) → test t.kind ≡ true → judge_one (test t.kind) t ≡ Ok (make t.place t.text t.value)
  unfolding judge_one
  one_judge t h = rw h refl

  -- a token of a kind of the set, of which this is one
  pub single_one : (k : K) → test k ≡ true → Single (one test make) (l.one test make) test
  single_one k h = record {
    judge = λ t. judge_one (test t.kind) t;
    reads = λ i. one_at i i.rest refl;
    spells = λ t a j. let y = one_taken t (test t.kind) a j in (t, refl, y.0, y.1, refl);
    is_one = λ a u ms y. (y.0, y.1, one_judge y.0 y.2 ∙ ap (λ z. Ok z) (sym y.3), y.4);
    in_test = λ t a j. (one_taken t (test t.kind) a j).0;
    fair = λ t f j. one_refused t (test t.kind) f j;
    example = (
      record { place = 0; kind = k; text = []; value = 0 },
      make 0 [] 0,
      one_judge (record { place = 0; kind = k; text = []; value = 0 }) h,
    );
  }

-- a reader that answers alike, for a language of the same texts
pub single_as : {K A : Type 0} {test : K → Bool} (p q : Parser K A) (s t : Lang K A)
    → ((i : Unread K) → q i ≡ p i) → ((a : A) (u : List (Tok K)) (ms : List ℕ) → s a u ms → t a u ms)
    → ((a : A) (u : List (Tok K)) (ms : List ℕ) → t a u ms → s a u ms)
    → Single p s test → Single q t test
single_as p q s t same to back g = record {
  judge = g.judge;
  reads = λ i. same i ∙ g.reads i;
  spells = λ u a j. to a (u ∷ []) (0 ∷ []) (g.spells u a j);
  is_one = λ a u ms y. g.is_one a u ms (back a u ms y);
  in_test = g.in_test;
  fair = g.fair;
  example = g.example;
}

-- a token that may be a name, of which this is a kind
pub single_name : {K : Type 0} (test : K → Bool) (k : K) → test k ≡ true
    → Single (name test) (l.name test) test
unfolding name one
single_name test k h = single_as (one test (λ place text value. (place, text))) (name test) (l.name test)
    (l.name test) (λ i. refl) (λ a u ms y. y) (λ a u ms y. y)
    (single_one test (λ place text value. (place, text)) k h)

-- a token of this kind
pub single_take : {K : Type 0} (al : Alphabet K) (a : K) → Single (take al a) (l.token a) (is al a)
unfolding take one
single_take al a = single_as (one (is al a) (λ place text value. place)) (take al a)
    (l.one (is al a) (λ place text value. place)) (l.token a) (λ i. refl)
    (λ p u ms y. (y.0, y.1, is_kind al a y.0.kind y.2, y.3, y.4))
    (λ p u ms y. (y.0, y.1, subst (λ k. is al a k ≡ true) (sym y.2) (is_self al a), y.3, y.4))
    (single_one (is al a) (λ place text value. place) a (is_self al a))

-- the fault of a value out of a range: of this range, or Unexpected
abbrev pub OfRange : ℕ → ℕ → Fault → Type 0
OfRange least most Unexpected = Unit {0}
OfRange least most EndOfText = ⊥
OfRange least most Deep = ⊥
OfRange least most Large = ⊥
OfRange least most (OutOfRange low high) = (low ≡ least) × (high ≡ most)

module _ {K A : Type 0} (test : K → Bool) (least most : ℕ) (f : Fault) (make : ℕ → List ℕ → ℕ → A)
    (of_range : OfRange least most f) (w : ℕ) (fits : in_range least most w ≡ true) where
  judge_in : (b c : Bool) → Tok K → Result A Fault
  judge_in true true t = Ok (make t.place t.text t.value)
  judge_in true false t = Err f
  judge_in false c t = Err Unexpected

  judge_of : Tok K → Result A Fault
  judge_of t = judge_in (test t.kind) (in_range least most t.value) t

  ranged_at : (i : Unread K) (ts : List (Tok K)) → i.rest ≡ ts
      → ranged test least most f make i ≡ by_token_at judge_of i ts
  unfolding ranged sees kind place text value next refusal fail judge_of judge_in
  ranged_at i [] e = rw e refl
  ranged_at i (t ∷ ts) e = rw e (by_tests (from i (t ∷ ts)) (test t.kind) (in_range least most t.value))
    where
      by_tests : (j : Unread K) (b c : Bool) → cond {A = Parsed K A} b
          (cond {A = Parsed K A} c (Ok (make t.place t.text t.value, from j ts))
          (Err (record { place = t.place; fault = f })))
          (Err (record { place = t.place; fault = Unexpected })) ≡ judged (judge_in b c t) j t ts
      by_tests j true true = refl
      by_tests j true false = refl
      by_tests j false c = refl

  in_taken : (t : Tok K) (b c : Bool) (a : A) → judge_in b c t ≡ Ok a → (b ≡ true) × (c ≡ true)
      × (a ≡ make t.place t.text t.value)
  unfolding judge_in
  in_taken t true true a j = (refl, refl, same_answer (make t.place t.text t.value) a j)
  in_taken t true false a j = absurd (let no : ⊥ = cc in no)
  in_taken t false c a j = absurd (let no : ⊥ = cc in no)

  judge_fits : (t : Tok K) → test t.kind ≡ true → in_range least most t.value ≡ true
      → judge_of t ≡ Ok (make t.place t.text t.value)
  unfolding judge_of judge_in
  judge_fits t b c = rw (b, c) refl

  judge_outside : (t : Tok K) → test t.kind ≡ true → in_range least most t.value ≡ false → judge_of t ≡ Err f
  unfolding judge_of judge_in
  judge_outside t b c = rw (b, c) refl

  fair_as : (g : Fault) (t : Tok K) → f ≡ g → OfRange least most g → test t.kind ≡ true
      → in_range least most t.value ≡ false → Fair judge_of g t
  fair_as Unexpected t e o b c = tt
  fair_as EndOfText t e o b c = o
  fair_as Deep t e o b c = o
  fair_as Large t e o b c = o
  fair_as (OutOfRange low high) t e o b c =
      rw (o.0, o.1) (
        c,
        λ u same.
            let seen : test u.kind ≡ true = subst (λ k. test k ≡ true) (sym same) b in (
              λ inside. (make u.place u.text u.value, judge_fits u seen inside),
              λ outside. judge_outside u seen outside ∙ ap (λ z. Err z) e ∙ rw (o.0, o.1) refl,
            ),
        w,
        fits,
      )

  in_refused : (t : Tok K) (b c : Bool) (g : Fault) → test t.kind ≡ b → in_range least most t.value ≡ c
      → judge_in b c t ≡ Err g → Fair judge_of g t
  unfolding judge_in
  in_refused t true true g eb ec j = absurd (let no : ⊥ = cc in no)
  in_refused t true false g eb ec j = let same = same_fault f g j in
      fair_as g t same (subst (OfRange least most) same of_range) eb ec
  in_refused t false c g eb ec j = subst (λ z. Fair judge_of z t) (same_fault Unexpected g j) tt

  -- a token whose value is in a range, in which is w: of this kind is one
  pub single_ranged : (k : K) → test k ≡ true → Single (ranged test least most f make)
      (l.ranged test least most make) test
  unfolding judge_of
  single_ranged k h = record {
    judge = judge_of;
    reads = λ i. ranged_at i i.rest refl;
    spells = λ t a j. let y = in_taken t (test t.kind) (in_range least most t.value) a j in
        (t, refl, y.0, y.1, y.2, refl);
    is_one = λ a u ms y. (y.0, y.1, judge_fits y.0 y.2 y.3 ∙ ap (λ z. Ok z) (sym y.4), y.5);
    in_test = λ t a j. (in_taken t (test t.kind) (in_range least most t.value) a j).0;
    fair = λ t g j. in_refused t (test t.kind) (in_range least most t.value) g refl refl j;
    example = (
      record { place = 0; kind = k; text = []; value = w },
      make 0 [] w,
      judge_fits (record { place = 0; kind = k; text = []; value = w }) h fits,
    );
  }

-- ---- the steps, in a grammar

module _ {K : Type 0} {al : Alphabet K} {x n : ℕ} where
  -- one token of this kind, which is no bracket
  pub good_take : {v : Level} (a : K) → is_plain al a ≡ true
      → Good al x v n n (take al a) (l.token a) false (is al a) never
  good_take a e = good_single (single_take al a) (turns_kind al n a e)

  -- a bracket that opens, and one that closes
  pub good_open : {v : Level} (a : K) → is_opening al a ≡ true
      → Good al x v (suc n) n (take al a) (l.token a) false (is al a) never
  good_open a e = good_single (single_take al a) (turns_opening al n a e)

  pub good_close : {v : Level} (a : K) → is_closing al a ≡ true
      → Good al x v n (suc n) (take al a) (l.token a) false (is al a) never
  good_close a e = good_single (single_take al a) (turns_closing al n a e)

  -- a leaf or operator of this kind
  pub good_counted_token : (a : K) → is_plain al a ≡ true
      → Good al x (inner_level al) n n (counted_token al a) (l.counted_token a) false (is al a) never
  unfolding counted_token
  good_counted_token a e = good_counted_by (single_take al a) (turns_kind al n a e)

  -- a token by what it is of one token, of kinds that are no brackets
  pub good_one : {A : Type 0} {v : Level} {p : Parser K A} {s : Lang K A} {test : K → Bool}
      → Single p s test → subset al test (is_plain al) ≡ true → Good al x v n n p s false test never
  good_one {test = test} g e = good_single g (turns_plain al n test e)
