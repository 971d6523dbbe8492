-- The steps that look at the next token: a choice, a list, the end; and readers that answer alike.
use Rattle.std.proofs.Common.{◌≡◌, ℕ, zero, suc, ◌<◌, ◌≤◌, Bool, true, false, cond, List, [], ◌∷◌, ◌++◌}
use Rattle.std.proofs.Common.{length, Ok, Err, refl, sym, ap, subst, ◌∙◌, append_assoc, arith, ◌⊎◌, inl, inr}
use Rattle.std.specs.Prelude.{not, ◌||◌, ◌&&◌}
use Rattle.std.proofs.lemmas.List.{append-nil}
use Rattle.grammar.specs.Tokens.{Tok, Alphabet, kind_of, passes, never}
use Rattle.grammar.specs.Language as l
use Rattle.grammar.specs.Language.{Lang}
use Rattle.grammar.specs.Parser.{Unread, Parser, Parsed, and_then, ◌>>=◌, pure, if_next, many, sees, kind}
use Rattle.grammar.proofs.KindSets.{subset, disjoint, both, implies_of, or_left, or_right, implied, apart}
use Rattle.grammar.proofs.KindSets.{within, within_next}
use Rattle.grammar.proofs.Bundle.{from, Level, Took, Sound, Begins, Kept, Good, kind_front, alike_kind}
use Rattle.grammar.proofs.Bundle.{nested_nil, shorter}
use Rattle.grammar.proofs.Lists.{many_done, many_more, many_fails}
use Rattle.grammar.proofs.Sequences.{seq_sound, seq_kept, apart_next, good_pure}

-- ---- readers that answer alike

module _ {K A : Type 0} (al : Alphabet K) (x : ℕ) (v : Level) (n m : ℕ) (p q : Parser K A) (s t : Lang K A)
    (texts : (a : A) (u : List (Tok K)) (ms : List ℕ) → s a u ms → t a u ms) where
  -- where the next token is of the same kind
  pub sound_as : (i : Unread K) → ((r : List (Tok K)) → kind_of r ≡ kind_of i.rest
      → q (from i r) ≡ p (from i r)) → (o : Parsed K A) → Sound al x v n m p s i o → Sound al x v n m q t i o
  sound_as i same (Ok y) g = record {
    used = g.used;
    marks = g.marks;
    split = g.split;
    size = g.size;
    aligned = g.aligned;
    after = g.after;
    nested = g.nested;
    balance = g.balance;
    spells = texts y.0 g.used g.marks g.spells;
    local = λ r e. same (g.used ++ r) (kind_front g.used r y.1.rest e ∙ ap kind_of (sym g.split))
        ∙ g.local r e;
  }
  sound_as i same (Err e) later = λ lt. let g = later lt in record {
    used = g.used;
    at = g.at;
    front = g.front;
    count = g.count;
    split = g.split;
    place = g.place;
    aligned = g.aligned;
    after = g.after;
    nested = g.nested;
    bottom = g.bottom;
    stands = g.stands;
    local = λ r c. same (g.used ++ r) (kind_front g.used r g.at (alike_kind e.fault g.at r c)
        ∙ ap kind_of (sym g.split)) ∙ g.local r c;
    goes = λ start c. let w = g.goes start c in record {
      answer = w.answer;
      more = w.more;
      back = w.back;
      spells = texts w.answer (g.used ++ (start ++ w.more)) (g.front ++ w.back) w.spells;
      fills = w.fills;
    };
  }

-- a reader that answers alike, for a language of the same texts
pub good_as : {K A : Type 0} {al : Alphabet K} {x : ℕ} {v : Level} {n m : ℕ} (p q : Parser K A)
    (s t : Lang K A) {empty : Bool} {first cont : K → Bool} → ((i : Unread K) → q i ≡ p i)
    → ((a : A) (u : List (Tok K)) (ms : List ℕ) → s a u ms → t a u ms)
    → ((a : A) (u : List (Tok K)) (ms : List ℕ) → t a u ms → s a u ms)
    → Good al x v n m p s empty first cont → Good al x v n m q t empty first cont
good_as {al = al} {x} {v} {n} {m} p q s t same to back g = record {
  sound = λ i. subst (λ o. Sound al x v n m q t i o) (sym (same i))
      (sound_as al x v n m p q s t to i (λ r e. same (from i r)) (p i) (g.sound i));
  sample = λ lt. let y = g.sample lt in (y.0, y.1, y.2, to y.0 y.1 y.2 y.3);
  begins = λ a u ms y. g.begins a u ms (back a u ms y);
  kept = λ i a u r ms e y c. subst (λ o. Kept x v i.count ms o a r) (sym (same i))
      (g.kept i a u r ms e (back a u ms y) c);
}

-- a reader that answers alike, for the same language
pub good_by : {K A : Type 0} {al : Alphabet K} {x : ℕ} {v : Level} {n m : ℕ} (p q : Parser K A)
    (s : Lang K A) {empty : Bool} {first cont : K → Bool} → ((i : Unread K) → q i ≡ p i)
    → Good al x v n m p s empty first cont → Good al x v n m q s empty first cont
good_by p q s same g = good_as p q s s same (λ a u ms y. y) (λ a u ms y. y) g

-- ---- the next token

pub sees_as : {K : Type 0} (test : K → Bool) (i : Unread K) (ts : List (Tok K)) → i.rest ≡ ts
    → sees test i ≡ passes test (kind_of ts)
unfolding sees kind
sees_as test i ts e = ap (λ z. passes test (kind_of z)) e

sees_same : {K : Type 0} (test : K → Bool) (i : Unread K) (r : List (Tok K)) (b : Bool)
    → kind_of r ≡ kind_of i.rest → sees test i ≡ b → sees test (from i r) ≡ b
unfolding sees kind
sees_same test i r b c e = ap (passes test) c ∙ e

-- the next token of a text that is not empty, and of one that may be
begins_in : {K : Type 0} (test first : K → Bool) (u r : List (Tok K)) → Begins false first u
    → ((k : K) → first k ≡ true → test k ≡ true) → passes test (kind_of (u ++ r)) ≡ true
begins_in test first [] r b h = absurd (let no : ⊥ = cc in no)
begins_in test first (t ∷ u) r b h = h t.kind b

begins_out : {K : Type 0} (al : Alphabet K) (empty : Bool) (test first cont : K → Bool)
    (u r : List (Tok K)) → Begins empty first u → ((k : K) → first k ≡ true → test k ≡ false)
    → (empty ≡ true → (k : K) → cont k ≡ false → test k ≡ false)
    → passes cont (kind_of r) ≡ false → passes test (kind_of (u ++ r)) ≡ false
begins_out al empty test first cont [] r b h at_end c = within_next al test cont (at_end b) (kind_of r) c
begins_out al empty test first cont (t ∷ u) r b h at_end c = h t.kind b

-- ---- a choice by the next token

by_test : {K A : Type 0} (test : K → Bool) (p q : Parser K A) (i : Unread K) (b : Bool) → sees test i ≡ b
    → if_next test p q i ≡ cond b (p i) (q i)
by_test test p q i b e = rw e refl

module _ {K A : Type 0} (al : Alphabet K) (x : ℕ) (v : Level) (n m : ℕ) (test : K → Bool)
    (p q : Parser K A) (s t : Lang K A) (empty : Bool) (f1 c1 f2 c2 cont : K → Bool)
    (g : Good al x v n m p s false f1 c1) (h : Good al x v n m q t empty f2 c2)
    (in_test : (k : K) → f1 k ≡ true → test k ≡ true) (not_in_test : (k : K) → f2 k ≡ true
    → test k ≡ false) (at_end : empty ≡ true → (k : K) → cont k ≡ false → test k ≡ false)
    (w1 : (k : K) → cont k ≡ false → c1 k ≡ false) (w2 : (k : K) → cont k ≡ false → c2 k ≡ false) where
  either_sound : (i : Unread K) (b : Bool) → sees test i ≡ b
      → Sound al x v n m (if_next test p q) (l.◌or◌ s t) i (cond b (p i) (q i))
  either_sound i true e = sound_as al x v n m p (if_next test p q) s (l.◌or◌ s t) (λ a u ms y. inl y) i
      (λ r c. by_test test p q (from i r) true (sees_same test i r true c e)) (p i) (g.sound i)
  either_sound i false e = sound_as al x v n m q (if_next test p q) t (l.◌or◌ s t) (λ a u ms y. inr y) i
      (λ r c. by_test test p q (from i r) false (sees_same test i r false c e)) (q i) (h.sound i)

  either_kept : (i : Unread K) (a : A) (u r : List (Tok K)) (ms : List ℕ) → i.rest ≡ u ++ r
      → (s a u ms ⊎ t a u ms) → passes cont (kind_of r) ≡ false → Kept x v i.count ms (if_next test p q i) a r
  either_kept i a u r ms e (inl y) c =
      let seen : sees test i ≡ true = sees_as test i (u ++ r) e
      ∙ begins_in test f1 u r (g.begins a u ms y) in_test in
      subst (λ o. Kept x v i.count ms o a r) (sym (by_test test p q i true seen))
      (g.kept i a u r ms e y (within_next al c1 cont w1 (kind_of r) c))
  either_kept i a u r ms e (inr y) c =
      let seen : sees test i ≡ false = sees_as test i (u ++ r) e ∙ begins_out al empty test f2 cont u r
      (h.begins a u ms y) not_in_test at_end c in
      subst (λ o. Kept x v i.count ms o a r) (sym (by_test test p q i false seen))
      (h.kept i a u r ms e y (within_next al c2 cont w2 (kind_of r) c))

  either_begins : (a : A) (u : List (Tok K)) (ms : List ℕ) → (s a u ms ⊎ t a u ms)
      → Begins empty (λ k. f1 k || f2 k) u
  either_begins a [] ms (inl y) = absurd (let b = g.begins a [] ms y in let no : ⊥ = cc in no)
  either_begins a (z ∷ u) ms (inl y) = or_left (f1 z.kind) (f2 z.kind) (g.begins a (z ∷ u) ms y)
  either_begins a [] ms (inr y) = h.begins a [] ms y
  either_begins a (z ∷ u) ms (inr y) = or_right (f1 z.kind) (f2 z.kind) (h.begins a (z ∷ u) ms y)

  good_if_next : Good al x v n m (if_next test p q) (l.◌or◌ s t) empty (λ k. f1 k || f2 k) cont
  good_if_next = record {
    sound = λ i. either_sound i (sees test i) refl;
    sample = λ lt. let w = g.sample lt in (w.0, w.1, w.2, inl w.3);
    begins = either_begins;
    kept = either_kept;
  }

-- the test tells the two apart, also where the second is empty
abbrev pub splits : {K : Type 0} → Alphabet K → (test : K → Bool) (empty : Bool) (f1 c1 f2 c2 cont : K
    → Bool) → Bool
splits al test empty f1 c1 f2 c2 cont = subset al f1 test
    && (disjoint al f2 test && ((not empty || subset al test cont)
    && (subset al c1 cont && subset al c2 cont)))

-- one or the other
pub good_or : {K A : Type 0} {al : Alphabet K} {x : ℕ} {v : Level} {n m : ℕ} {p q : Parser K A}
    {s t : Lang K A} {empty : Bool} {f1 c1 f2 c2 : K → Bool} (test cont : K → Bool)
    → Good al x v n m p s false f1 c1 → Good al x v n m q t empty f2 c2
    → splits al test empty f1 c1 f2 c2 cont ≡ true → Good al x v n m (if_next test p q) (l.◌or◌ s t) empty
    (λ k. f1 k || f2 k) cont
good_or {al = al} {x} {v} {n} {m} {p} {q} {s} {t} {empty} {f1} {c1} {f2} {c2} test cont g h e =
    let e1 = both (subset al f1 test) _ e in
    let e2 = both (disjoint al f2 test) _ e1.1 in
    let e3 = both (not empty || subset al test cont) _ e2.1 in
    let e4 = both (subset al c1 cont) _ e3.1 in
    good_if_next al x v n m test p q s t empty f1 c1 f2 c2 cont g h (implied al f1 test e1.0)
    (apart al f2 test e2.0) (λ z. within al test cont (implies_of empty (subset al test cont) e3.0 z))
    (within al c1 cont e4.0) (within al c2 cont e4.1)

-- ---- a list

module _ {K A : Type 0} (al : Alphabet K) (x : ℕ) (v : Level) (n : ℕ) (starts : K → Bool) (p : Parser K A)
    (s : Lang K A) (first c1 cont : K → Bool) (g : Good al x v n n p s false first c1)
    (in_test : (k : K) → first k ≡ true → starts k ≡ true) (no_more : (k : K) → first k ≡ true
    → c1 k ≡ false) (w1 : (k : K) → cont k ≡ false → c1 k ≡ false) (w2 : (k : K) → cont k ≡ false
    → starts k ≡ false) where
  abbrev then_more : A → Parser K (List A)
  then_more y = many starts p >>= λ ys. pure (y ∷ ys)

  abbrev more_lang : A → Lang K (List A)
  more_lang y = l.◌>>=◌ (l.many s) (λ ys. l.pure (y ∷ ys))

  unrolled_at : (i : Unread K) (o : Parsed K A) → sees starts i ≡ true → p i ≡ o
      → many starts p i ≡ and_then o then_more
  unrolled_at i (Ok q) e h = many_more starts p i q.0 q.1 e h (shorter g i q h)
  unrolled_at i (Err r) e h = many_fails starts p i r e h

  -- where an item begins, a list is an item and a list
  unrolled : (i : Unread K) → sees starts i ≡ true → many starts p i ≡ (p >>= then_more) i
  unrolled i e = unrolled_at i (p i) e refl

  nothing_more : (i : Unread K) → sees starts i ≡ false → Took al v n n (many starts p) (l.many s) i [] i
  nothing_more i e = record {
    used = [];
    marks = [];
    split = refl;
    size = refl;
    aligned = refl;
    after =
        v.after_nil i.count;
    nested = nested_nil al n;
    balance = refl;
    spells = (refl, refl);
    local =
        λ r h. many_done starts p (from i r) (sees_same starts i r false h e);
  }

  one_more : (ys : List A) (u : List (Tok K)) (ms : List ℕ) → (l.◌>>=◌ s more_lang) ys u ms → l.many s ys u ms
  one_more ys u ms y =
      let more = y.8 in
      let rest : y.2 ≡ more.1 = more.5 ∙ ap (λ z. more.1 ++ z) more.8.1 ∙ append-nil more.1 in
      let marks : y.4 ≡ more.3 = more.6 ∙ ap (λ z. more.3 ++ z) more.8.2 ∙ append-nil more.3 in
      subst (λ zs. l.many s zs u ms) (sym more.8.0) (
        y.1,
        more.1,
        y.3,
        more.3,
        y.5
            ∙ ap (λ z. y.1 ++ z) rest,
        y.6 ∙ ap (λ z. y.3 ++ z) marks,
        y.7,
        more.7,
      )

  list_at : (i : Unread K) (b : Bool) → sees starts i ≡ b
      → ((j : Unread K) → length j.rest < length i.rest
      → Sound al x v n n (many starts p) (l.many s) j (many starts p j))
      → Sound al x v n n (many starts p) (l.many s) i (many starts p i)
  list_at i false e later = subst (λ o. Sound al x v n n (many starts p) (l.many s) i o)
      (sym (many_done starts p i e)) (nothing_more i e)
  list_at i true e later =
      let h = seq_sound al x v n n n p then_more s more_lang
      (λ k y. (y ∷ [], [], [], ([], [], [], [], [], refl, refl, (refl, refl), (refl, refl, refl)))) i
      (p i) (g.sound i)
      (λ q eq. seq_sound al x v n n n (many starts p) (λ ys. pure (q.0 ∷ ys)) (l.many s)
      (λ ys. l.pure (q.0 ∷ ys)) (λ k ys. (q.0 ∷ ys, [], [], (refl, refl, refl))) q.1
      (many starts p q.1) (later q.1 (shorter g i q eq))
      (λ w ez. (good_pure {al = al} {x = x} {v = v} {n = n} (q.0 ∷ w.0) never).sound w.1)) in
      subst (λ o. Sound al x v n n (many starts p) (l.many s) i o) (sym (unrolled i e))
      (sound_as al x v n n (p >>= then_more) (many starts p) (l.◌>>=◌ s more_lang) (l.many s) one_more i
      (λ r c. unrolled (from i r) (sees_same starts i r true c e)) (and_then (p i) then_more) h)

  none_below : (a b : ℕ) (j : Unread K) → a < b → b ≤ 0
      → Sound al x v n n (many starts p) (l.many s) j (many starts p j)
  none_below a b j lt le = absurd (let no : ⊥ = omega arith in no)

  list_sound : (len : ℕ) (i : Unread K) → length i.rest ≤ len
      → Sound al x v n n (many starts p) (l.many s) i (many starts p i)
  list_sound zero i le = list_at i (sees starts i) refl
      (λ j lt. none_below (length j.rest) (length i.rest) j lt le)
  list_sound (suc len) i le = list_at i (sees starts i) refl (λ j lt. list_sound len j (omega arith))

  begins_by : (y : A) (u w : List (Tok K)) (ms : List ℕ) → s y u ms → Begins true first (u ++ w)
  begins_by y [] w ms z = absurd (let b = g.begins y [] ms z in let no : ⊥ = cc in no)
  begins_by y (t ∷ u) w ms z = g.begins y (t ∷ u) ms z

  list_begins : (ys : List A) (u : List (Tok K)) (ms : List ℕ) → l.many s ys u ms → Begins true first u
  list_begins [] u ms z = rw z.0 refl
  list_begins (y ∷ ys) u ms z = rw z.4 (begins_by y z.0 z.1 z.2 z.6)

  list_kept : (ys : List A) (i : Unread K) (u r : List (Tok K)) (ms : List ℕ) → i.rest ≡ u ++ r
      → l.many s ys u ms → passes cont (kind_of r) ≡ false → Kept x v i.count ms (many starts p i) ys r
  list_kept [] i u r ms e z c =
      let split : i.rest ≡ r = e ∙ ap (λ y. y ++ r) z.0 in
      subst (λ o. Kept x v i.count ms o [] r) (sym
      (many_done starts p i (sees_as starts i r split ∙ within_next al starts cont w2 (kind_of r) c)))
      (refl, split, subst (λ y. v.after i.count y i.count) (sym z.1) (v.after_nil i.count))
  list_kept (y ∷ ys) i u r ms e z c =
      let split : i.rest ≡ z.0 ++ (z.1 ++ r) = e ∙ ap (λ w. w ++ r) z.4 ∙ append_assoc z.0 z.1 r in
      let seen : sees starts i ≡ true = sees_as starts i (z.0 ++ (z.1 ++ r)) split
      ∙ begins_in starts first z.0 (z.1 ++ r) (g.begins y z.0 z.2 z.6) in_test in
      let c0 = apart_next al true first c1 cont z.1 r (list_begins ys z.1 z.3 z.7) no_more (λ h. w1) c in
      subst (λ o. Kept x v i.count ms o (y ∷ ys) r) (sym (unrolled i seen))
      (subst (λ w. Kept x v i.count w (and_then (p i) then_more) (y ∷ ys) r) (sym z.5)
      (seq_kept x v then_more i.count z.2 z.3 (p i) y (y ∷ ys) z.1 r
      (g.kept i y z.0 (z.1 ++ r) z.2 split z.6 c0)
      (λ q eq ea er. subst (λ w. Kept x v q.1.count w
      (and_then (many starts p q.1) (λ zs. pure (q.0 ∷ zs))) (y ∷ ys) r) (append-nil z.3)
      (seq_kept x v (λ zs. pure (q.0 ∷ zs)) q.1.count z.3 [] (many starts p q.1) ys (y ∷ ys) [] r
      (list_kept ys q.1 z.1 r z.3 er z.7 c)
      (λ w ez ya yr. (rw (ea, ya) refl, yr, v.after_nil w.1.count))))))

  good_many : Good al x v n n (many starts p) (l.many s) true first cont
  good_many = record {
    sound = λ i. list_sound (length i.rest) i (omega arith);
    sample = λ lt. ([], [], [], (refl, refl));
    begins = list_begins;
    kept = λ i ys u r ms e z c. list_kept ys i u r ms e z c;
  }

-- the test tells another item from what stands behind the list, and an item from the end of the one before
abbrev pub repeats : {K : Type 0} → Alphabet K → (starts first c1 cont : K → Bool) → Bool
repeats al starts first c1 cont = subset al first starts
    && (disjoint al first c1 && (subset al c1 cont && subset al starts cont))

-- any number of times, while the test holds
pub good_list : {K A : Type 0} {al : Alphabet K} {x : ℕ} {v : Level} {n : ℕ} {p : Parser K A}
    {s : Lang K A} {first c1 : K → Bool} (starts cont : K → Bool) → Good al x v n n p s false first c1
    → repeats al starts first c1 cont ≡ true
    → Good al x v n n (many starts p) (l.many s) true first cont
good_list {al = al} {x} {v} {n} {p} {s} {first} {c1} starts cont g e =
    let e1 = both (subset al first starts) _ e in
    let e2 = both (disjoint al first c1) _ e1.1 in
    let e3 = both (subset al c1 cont) _ e2.1 in
    good_many al x v n starts p s first c1 cont g (implied al first starts e1.0) (apart al first c1 e2.0)
    (within al c1 cont e3.0) (within al starts cont e3.1)
