-- Brackets: what begins with one that may be opened, and where none may.
use Rattle.std.proofs.Common.{◌≡◌, ℕ, zero, suc, ◌+◌, ◌<◌, Bool, true, false, cond, List, [], ◌∷◌, ◌++◌}
use Rattle.std.proofs.Common.{Option, Some, None, Ok, Err, refl, sym, ap, subst, ◌∙◌, arith}
use Rattle.std.proofs.Math.Path.{fun_ext}
use Rattle.std.specs.Prelude.{not, ◌&&◌, ◌||◌}
use Rattle.grammar.specs.Tokens.{Tok, Alphabet, is, is_opening, kind_of, place_of, passes, never}
use Rattle.grammar.specs.Fault.{Fault, Unexpected, EndOfText, Deep, Refusal}
use Rattle.grammar.specs.Language as l
use Rattle.grammar.specs.Language.{Lang}
use Rattle.grammar.specs.Parser.{Unread, Parser, Parsed, ◌>>=◌, pure, and_then, take, closed, opened}
use Rattle.grammar.specs.Parser.{too_deep, sees, kind, place, why}
use Rattle.grammar.specs.Parser as parser
use Rattle.grammar.proofs.KindSets.{both, is_kind, is_self, or_right, every, every_by}
use Rattle.grammar.proofs.Bundle.{from, Firsts, Level, Fills, Completes, Stopped, Sound, Begins, Kept, Sample}
use Rattle.grammar.proofs.Bundle.{Good}
use Rattle.grammar.proofs.Sequences.{good_then, fit}
use Rattle.grammar.proofs.OneToken.{stops_at, good_open}

-- room for so many brackets and so many more, by recursion
abbrev pub deeper : ℕ → ℕ → ℕ
deeper zero x = x
deeper (suc n) x = suc (deeper n x)

pub deeper-sum : (n x : ℕ) → deeper n x ≡ n + x
deeper-sum zero x = omega arith
deeper-sum (suc n) x = omega (arith, deeper-sum n x)

-- nothing is read, and nothing is a text
pub good_nothing : {K A : Type 0} {al : Alphabet K} {v : Level} {n m : ℕ} {empty : Bool} {first cont : K
    → Bool} (p : Parser K A) → ((i : Unread K) → (r : Refusal) × (p i ≡ Err r))
    → Good al 0 v n m p l.nothing empty first cont
good_nothing {al = al} {v} {n} {m} p refused = record {
  sound = λ i. let r = refused i in subst (λ o. Sound al 0 v n m p l.nothing i o) (sym r.1)
      (λ lt. let no : ⊥ = omega (arith, lt) in absurd no);
  sample = λ lt. let no : ⊥ = omega (arith, lt) in absurd no;
  begins = λ a u ms y. absurd y;
  kept = λ i a u r ms e y c. absurd y;
}

-- ---- a refusal of the next token, or of the end, by its kind alone

module _ {K A : Type 0} (al : Alphabet K) (v : Level) (n : ℕ) (q : Parser K A) (s : Lang K A)
    (w : Sample s) where
  goes_by : (c : ℕ) (f : Fault) (start : List (Tok K)) → Fills v c f w.2 → start ≡ []
      → Completes v s [] [] c f start
  goes_by c f start fills e = record {
    answer = w.0;
    more = w.1;
    back = w.2;
    spells = subst (λ z. s w.0 (z ++ w.1) w.2) (sym e) w.3;
    fills = fills;
  }

  pub refuses : (i : Unread K) (ts : List (Tok K)) → i.rest ≡ ts
      → ((r : List (Tok K)) → kind_of r ≡ kind_of ts → q (from i r)
      ≡ Err (record { place = place_of i.size r; fault = why (kind_of r) }))
      → Stopped al v n q s i (record { place = place_of i.size ts; fault = why (kind_of ts) })
  refuses i [] e same = stops_at al v n q s i EndOfText [] e refl tt local
      (λ start c. goes_by i.count EndOfText start tt c)
    where
      local : (r : List (Tok K)) → Firsts (λ t u. t ≡ u) [] r
          → q (from i r) ≡ Err (record { place = place_of i.size r; fault = EndOfText })
      local [] h = same [] refl
      local (t ∷ r) h = absurd h
  refuses i (t ∷ ts) e same = stops_at al v n q s i Unexpected (t ∷ ts) e tt tt local
      (λ start c. goes_by i.count Unexpected start tt c)
    where
      local : (r : List (Tok K)) → Firsts (λ t u. t ≡ u) (t ∷ ts) r
          → q (from i r) ≡ Err (record { place = place_of i.size r; fault = Unexpected })
      local [] h = absurd h
      local (u ∷ r) h = same (u ∷ r) (ap (λ (z : Tok K). Some z.kind) (sym h))

-- ---- a bracket that may not be opened

module _ {K B : Type 0} (al : Alphabet K) (v : Level) (a : K) (t : ℕ → Lang K B)
    (is_open : is_opening al a ≡ true) where
  abbrev opening : Lang K B
  opening = l.◌>>=◌ (l.token a) t

  closed_as : (i : Unread K) (ts : List (Tok K)) (b : Bool) → i.rest ≡ ts → passes (is al a) (kind_of ts) ≡ b
      → closed {A = B} al a i ≡ Err (record {
        place = place_of i.size ts;
        fault = cond b Deep (why (kind_of ts));
      })
  unfolding too_deep sees kind place
  closed_as i ts b e h = rw (e, h) refl

  opened_with : ((n : ℕ) → Sample (t n)) → (u : Tok K) → u.kind ≡ a
      → (b : B) × (more : List (Tok K)) × (ms : List ℕ) × opening b (u ∷ more) ms
  opened_with rest u e = let w = rest u.place in
      (w.0, w.1, 0 ∷ w.2, (u.place, u ∷ [], w.1, 0 ∷ [], w.2, refl, refl, (u, refl, e, refl, refl), w.3))

  deep : ((n : ℕ) → Sample (t n)) → (i : Unread K) (u : Tok K) (ts : List (Tok K)) → i.rest ≡ u ∷ ts
      → is al a u.kind ≡ true → Stopped al v 0 (closed al a) opening i
      (record { place = u.place; fault = Deep })
  deep rest i u ts e h = stops_at al v 0 (closed al a) opening i Deep (u ∷ ts) e opens_it
      (omega arith) local goes
    where
      kind_it : u.kind ≡ a
      kind_it = is_kind al a u.kind h

      opens_it : al.opens u.kind ≡ true
      opens_it = subst (λ k. al.opens k ≡ true) (sym kind_it)
          (both (al.opens a) (not (al.closes a)) is_open).0

      local : (r : List (Tok K)) → Firsts (λ t u. t ≡ u) (u ∷ ts) r
          → closed {A = B} al a (from i r) ≡ Err (record { place = place_of i.size r; fault = Deep })
      local [] c = absurd c
      local (y ∷ r) c = closed_as (from i (y ∷ r)) (y ∷ r) true refl
          (subst (λ (z : Tok K). is al a z.kind ≡ true) c h)

      goes : (start : List (Tok K)) → start ≡ u ∷ [] → Completes v opening [] [] i.count Deep start
      goes start c =
          let w = opened_with rest u kind_it in
          record {
            answer = w.0;
            more = w.1;
            back = w.2;
            spells =
                subst (λ z. opening w.0 (z ++ w.1) w.2) (sym c) w.3;
            fills = tt;
          }

  closed_sample : ((n : ℕ) → Sample (t n)) → Sample opening
  closed_sample rest = let u : Tok K = record { place = 0; kind = a; text = []; value = 0 } in
      let w = opened_with rest u refl in (w.0, u ∷ w.1, w.2, w.3)

  closed_sound : (x : ℕ) (m : ℕ) → (0 < x → (n : ℕ) → Sample (t n))
      → (i : Unread K) (ts : List (Tok K)) (b : Bool) → i.rest ≡ ts → passes (is al a) (kind_of ts) ≡ b
      → Sound al x v 0 m (closed al a) opening i
      (Err (record { place = place_of i.size ts; fault = cond b Deep (why (kind_of ts)) }))
  closed_sound x m rest i [] true e h = λ lt. absurd (let no : ⊥ = cc in no)
  closed_sound x m rest i (u ∷ ts) true e h = λ lt. deep (rest lt) i u ts e h
  closed_sound x m rest i ts false e h = λ lt. refuses al v 0 (closed al a) opening
      (closed_sample (rest lt)) i ts e (λ r c. closed_as (from i r) r false refl
      (ap (passes (is al a)) c ∙ h))

  closed_begins : (b : B) (u : List (Tok K)) (ms : List ℕ) → opening b u ms → Begins false (is al a) u
  closed_begins b u ms y = rw (y.5, y.7.1) (subst (λ k. is al a k ≡ true) (sym y.7.2) (is_self al a))

  closed_kept : (x : ℕ) → 0 < x → (i : Unread K) (b : B) (u r : List (Tok K)) (ms : List ℕ) → i.rest ≡ u ++ r
      → opening b u ms → Kept x v i.count ms (closed al a i) b r
  closed_kept x lt i b u r ms e y =
      let split : i.rest ≡ y.7.0 ∷ (y.2 ++ r) = e ∙ ap (λ z. z ++ r) (y.5 ∙ ap (λ z. z ++ y.2) y.7.1) in
      let seen : is al a y.7.0.kind ≡ true = subst (λ k. is al a k ≡ true) (sym y.7.2) (is_self al a) in
      subst (λ o. Kept x v i.count ms o b r) (sym (closed_as i (y.7.0 ∷ (y.2 ++ r)) true split seen)) lt

-- where no bracket of this kind may be opened, beside a language that still may
pub good_closed : {K B : Type 0} {al : Alphabet K} {x : ℕ} {v : Level} {m : ℕ} (a : K) (t : ℕ → Lang K B)
    → is_opening al a ≡ true → 0 < x → ((n : ℕ) → Sample (t n))
    → Good al x v 0 m (closed al a) (l.◌>>=◌ (l.token a) t) false (is al a) never
good_closed {al = al} {x} {v} {m} a t is_open lt rest = record {
  sound = λ i. subst (λ o. Sound al x v 0 m (closed al a) (l.◌>>=◌ (l.token a) t) i o)
      (sym (closed_as al v a t is_open i i.rest (passes (is al a) (kind_of i.rest)) refl refl))
      (closed_sound al v a t is_open x m (λ z. rest) i i.rest (passes (is al a) (kind_of i.rest)) refl refl);
  sample = λ z. closed_sample al v a t is_open rest;
  begins = closed_begins al v a t is_open;
  kept = λ i b u r ms e y c. closed_kept al v a t is_open x lt i b u r ms e y;
}

-- what anything may stand behind
good_before_any : {K A : Type 0} {al : Alphabet K} {x : ℕ} {v : Level} {n m : ℕ} {p : Parser K A}
    {s : Lang K A} {empty : Bool} {first : K → Bool} (cont : K → Bool) → Good al x v n m p s empty first never
    → Good al x v n m p s empty first cont
good_before_any cont g = record {
  sound = g.sound;
  sample = g.sample;
  begins = g.begins;
  kept = λ i a u r ms e y c. g.kept i a u r ms e y (never_passes (kind_of r));
}
  where
    never_passes : {K : Type 0} (o : Option K) → passes never o ≡ false
    never_passes None = refl
    never_passes (Some k) = refl

-- behind a bracket anything may stand
fit_never : {K : Type 0} (al : Alphabet K) (empty : Bool) (f2 c2 : K → Bool) → fit al empty f2 never c2 ≡ true
fit_never al empty f2 c2 = joined (every_by al (λ k. not (f2 k) || true)
    (λ k. or_right (not (f2 k)) true refl)) (or_right (not empty) (every al (λ k. true))
    (every_by al (λ k. true) (λ k. refl)))
  where
    joined : {a b : Bool} → a ≡ true → b ≡ true → (a && b) ≡ true
    joined e h = rw (e, h) refl

taken_by : {K B : Type 0} (n : ℕ) (rest : ℕ → ℕ → Parser K B) (o : Parsed K ℕ)
    → and_then (and_then {A = ℕ} {B = ℕ × ℕ} o (λ place. pure (place, n)))
    (λ bracket. rest bracket.1 bracket.0) ≡ and_then o (rest n)
taken_by n rest (Ok q) = refl
taken_by n rest (Err e) = refl

-- where a bracket may be opened, it is taken first
pub taken_first : {K B : Type 0} (al : Alphabet K) (a : K) (n : ℕ) (rest : ℕ → ℕ → Parser K B)
    → opened al (suc n) a rest ≡ ◌>>=◌ (take al a) (rest n)
unfolding opened parser.opening
taken_first al a n rest = fun_ext (λ i. taken_by n rest (take al a i))

-- What begins with a bracket, where n may be opened and the language may have x more: by the rest behind the
-- bracket, and by texts of that where none may be.
pub good_opened : {K B : Type 0} {al : Alphabet K} {v : Level} {empty : Bool} {first cont : K → Bool}
    (n x : ℕ) (a : K) (rest : ℕ → ℕ → Parser K B) (t : ℕ → ℕ → Lang K B) → is_opening al a ≡ true
    → ((k : ℕ) → n ≡ suc k → (place : ℕ) → Good al x v k (suc k) (rest k place)
    (t (deeper k x) place) empty first cont) → ((k : ℕ) (place : ℕ) → Sample (t k place))
    → Good al x v n n (opened al n a rest) (l.opened (deeper n x) a t) false (is al a) cont
unfolding opened parser.opening
good_opened {al = al} {cont = cont} zero zero a rest t is_open inner texts =
    good_nothing (closed al a) (λ i. (too_deep al a i, refl))
good_opened {al = al} {cont = cont} zero (suc x) a rest t is_open inner texts =
    good_before_any cont (good_closed {al = al} a (t x) is_open (let lt : 0 < suc x = omega arith in lt)
    (texts x))
good_opened {K} {B} {al} {v} {empty} {first} {cont} (suc n) x a rest t is_open inner texts =
    subst (λ p. Good al x v (suc n) (suc n) p (l.opened (deeper (suc n) x) a t) false (is al a) cont)
    (sym (taken_first al a n rest))
    (good_then (good_open a is_open) (λ place. inner n refl place) (fit_never al empty first cont))
