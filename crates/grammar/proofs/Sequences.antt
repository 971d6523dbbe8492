-- The empty text, and one text after the other.
use Rattle.std.proofs.Common.{◌≡◌, ℕ, ◌+◌, ◌<◌, Bool, true, false, List, [], ◌∷◌, ◌++◌, length, Ok, Err, refl}
use Rattle.std.proofs.Common.{sym, ap, subst, ◌∙◌, append_assoc, arith, inl, inr}
use Rattle.std.specs.Prelude.{not, ◌||◌, ◌&&◌}
use Rattle.std.proofs.lemmas.List.{length-append}
use Rattle.grammar.specs.Tokens.{Tok, Alphabet, kind_of, place_of, passes, how_many, never}
use Rattle.grammar.specs.Fault.{Fault, Unexpected, EndOfText, Deep, Large, OutOfRange, Refusal}
use Rattle.grammar.specs.Language as l
use Rattle.grammar.specs.Language.{Lang}
use Rattle.grammar.specs.Parser.{Unread, Parser, Parsed, and_then, ◌>>=◌, pure}
use Rattle.grammar.proofs.KindSets.{subset, disjoint, both, implies_of, or_left, or_right, apart, within}
use Rattle.grammar.proofs.KindSets.{within_next}
use Rattle.grammar.proofs.Bundle.{from, First, Level, Fills, Bottom, Took, Stopped, Sound, Begins, IsLimit}
use Rattle.grammar.proofs.Bundle.{Kept, Sample, Good, kind_front, alike_kind, how_many-append, nested_nil}
use Rattle.grammar.proofs.Bundle.{nested-append}

-- ---- what is said of a part is said of the whole

first_more : {X : Type 0} (P : X → Type 0) (x y : List X) → First P x → First P (x ++ y)
first_more P [] y h = absurd h
first_more P (z ∷ x) y h = h

fills_more : (v : Level) (c : ℕ) (f : Fault) (back ns : List ℕ) → Fills v c f back → Fills v c f (back ++ ns)
fills_more v c Unexpected back ns h = h
fills_more v c EndOfText back ns h = h
fills_more v c Deep back ns h = h
fills_more v c Large back ns h = first_more (λ x. v.full c x) back ns h
fills_more v c (OutOfRange least most) back ns h = h

bottom_right : {K : Type 0} (al : Alphabet K) (n m : ℕ) (f : Fault) (u w : List (Tok K))
    → how_many al.opens u + m ≡ how_many al.closes u + n → Bottom al m f w → Bottom al n f (u ++ w)
bottom_right al n m Unexpected u w e h = h
bottom_right al n m EndOfText u w e h = h
bottom_right al n m Deep u w e h = omega (
  arith,
  how_many-append al.opens u w,
  how_many-append al.closes u w,
  e,
  h,
)
bottom_right al n m Large u w e h = h
bottom_right al n m (OutOfRange least most) u w e h = h

limit_left : (x : ℕ) (v : Level) (c : ℕ) (ms ns : List ℕ) (f : Fault) → IsLimit x v c ms f
    → IsLimit x v c (ms ++ ns) f
limit_left x v c ms ns Unexpected h = h
limit_left x v c ms ns EndOfText h = h
limit_left x v c ms ns Deep h = h
limit_left x v c ms ns Large h = v.over_left c ms ns h
limit_left x v c ms ns (OutOfRange least most) h = h

limit_right : (x : ℕ) (v : Level) (c b : ℕ) (ms ns : List ℕ) (f : Fault) → v.after c ms b
    → IsLimit x v b ns f → IsLimit x v c (ms ++ ns) f
limit_right x v c b ms ns Unexpected a h = h
limit_right x v c b ms ns EndOfText a h = h
limit_right x v c b ms ns Deep a h = h
limit_right x v c b ms ns Large a h = v.over_right c b ms ns a h
limit_right x v c b ms ns (OutOfRange least most) a h = h

-- ---- one after the other

module _ {K A B : Type 0} (al : Alphabet K) (x : ℕ) (v : Level) (n m k : ℕ) (p : Parser K A) (next : A
    → Parser K B) (s : Lang K A) (t : A → Lang K B) where
  seq_local : (i : Unread K) (a : A) (j : Unread K) (took : Took al v n m p s i a j) (w y r : List (Tok K))
      → j.rest ≡ w ++ y → kind_of r ≡ kind_of y → (p >>= next) (from i ((took.used ++ w) ++ r)) ≡ next a
      (from j (w ++ r))
  seq_local i a j took w y r e h =
      ap (λ z. and_then (p (from i z)) next) (append_assoc took.used w r)
      ∙ ap (λ o. and_then o next) (took.local (w ++ r) (kind_front w r y h ∙ ap kind_of (sym e)))

  seq_split : (i : Unread K) (a : A) (j : Unread K) (took : Took al v n m p s i a j) (w y : List (Tok K))
      → j.rest ≡ w ++ y → i.rest ≡ (took.used ++ w) ++ y
  seq_split i a j took w y e = took.split ∙ ap (λ z. took.used ++ z) e ∙ sym (append_assoc took.used w y)

  seq_aligned : (ms ns : List ℕ) (u w : List (Tok K)) → length ms ≡ length u → length ns ≡ length w
      → length (ms ++ ns) ≡ length (u ++ w)
  seq_aligned ms ns u w e h = omega (arith, length-append ms ns, length-append u w, e, h)

  seq_then : (i : Unread K) (a : A) (j : Unread K) → Took al v n m p s i a j → (o : Parsed K B)
      → Sound al x v m k (next a) (t a) j o → Sound al x v n k (p >>= next) (l.◌>>=◌ s t) i o
  seq_then i a j took (Ok q) h = record {
    used = took.used ++ h.used;
    marks = took.marks ++ h.marks;
    split = seq_split i a j took h.used q.1.rest h.split;
    size = h.size ∙ took.size;
    aligned = seq_aligned took.marks h.marks took.used h.used took.aligned h.aligned;
    after = v.after_seq i.count j.count q.1.count took.marks h.marks took.after h.after;
    nested = nested-append al n m took.used h.used took.balance took.nested h.nested;
    balance = omega (
      arith,
      how_many-append al.opens took.used h.used,
      how_many-append al.closes took.used h.used,
      took.balance,
      h.balance,
    );
    spells = (a, took.used, h.used, took.marks, h.marks, refl, refl, took.spells, h.spells);
    local = λ r e. seq_local i a j took h.used q.1.rest r h.split e ∙ h.local r e;
  }
  seq_then i a j took (Err e) later = λ lt. let h = later lt in record {
    used = took.used ++ h.used;
    at = h.at;
    front = took.marks ++ h.front;
    count = h.count;
    split = seq_split i a j took h.used h.at h.split;
    place = h.place ∙ ap (λ z. place_of z h.at) took.size;
    aligned = seq_aligned took.marks h.front took.used h.used took.aligned h.aligned;
    after = v.after_seq i.count j.count h.count took.marks h.front took.after h.after;
    nested = nested-append al n m took.used h.used took.balance took.nested h.nested;
    bottom = bottom_right al n m e.fault took.used h.used took.balance h.bottom;
    stands = h.stands;
    local = λ r c. seq_local i a j took h.used h.at r h.split (alike_kind e.fault h.at r c) ∙ h.local r c
        ∙ ap (λ (z : ℕ). Err (record { place = place_of z r; fault = e.fault })) took.size;
    goes = λ start c.
        let w = h.goes start c in
        record {
          answer = w.answer;
          more = w.more;
          back = w.back;
          spells = (
            a,
            took.used,
            h.used ++ (start ++ w.more),
            took.marks,
            h.front ++ w.back,
            append_assoc took.used h.used (start ++ w.more),
            append_assoc took.marks h.front w.back,
            took.spells,
            w.spells,
          );
          fills = w.fills;
        };
  }

  seq_stopped : (sample : (a : A) → Sample (t a)) (i : Unread K) (e : Refusal) → Stopped al v n p s i e
      → Stopped al v n (p >>= next) (l.◌>>=◌ s t) i e
  seq_stopped sample i e h = record {
    used = h.used;
    at = h.at;
    front = h.front;
    count = h.count;
    split = h.split;
    place = h.place;
    aligned = h.aligned;
    after = h.after;
    nested = h.nested;
    bottom = h.bottom;
    stands = h.stands;
    local = λ r c. ap (λ o. and_then o next) (h.local r c);
    goes = λ start c.
        let w = h.goes start c in
        let y = sample w.answer in
        record {
          answer = y.0;
          more = w.more ++ y.1;
          back = w.back ++ y.2;
          spells = (
            w.answer,
            h.used ++ (start ++ w.more),
            y.1,
            h.front ++ w.back,
            y.2,
            ap (λ z. h.used ++ z) (sym (append_assoc start w.more y.1))
                ∙ sym (append_assoc h.used (start ++ w.more) y.1),
            sym (append_assoc h.front w.back y.2),
            w.spells,
            y.3,
          );
          fills = fills_more v h.count e.fault w.back y.2 w.fills;
        };
  }

  pub seq_sound : (sample : 0 < x → (a : A) → Sample (t a)) (i : Unread K) (o : Parsed K A)
      → Sound al x v n m p s i o → ((q : A × Unread K) → o ≡ Ok q
      → Sound al x v m k (next q.0) (t q.0) q.1 (next q.0 q.1))
      → Sound al x v n k (p >>= next) (l.◌>>=◌ s t) i (and_then o next)
  seq_sound sample i (Ok q) h then = seq_then i q.0 q.1 h (next q.0 q.1) (then q refl)
  seq_sound sample i (Err e) h then = λ lt. seq_stopped (sample lt) i e (h lt)

kept_right : {K B : Type 0} (x : ℕ) (v : Level) (c b : ℕ) (ms ns : List ℕ) (o : Parsed K B) (a : B)
    (r : List (Tok K)) → v.after c ms b → Kept x v b ns o a r → Kept x v c (ms ++ ns) o a r
kept_right x v c b ms ns (Ok q) a r af h = (h.0, h.1, v.after_seq c b q.1.count ms ns af h.2)
kept_right x v c b ms ns (Err e) a r af h = limit_right x v c b ms ns e.fault af h

pub seq_kept : {K A B : Type 0} (x : ℕ) (v : Level) (next : A → Parser K B) (c : ℕ) (ms ns : List ℕ)
    (o : Parsed K A) (a : A) (b : B) (y r : List (Tok K)) → Kept x v c ms o a (y ++ r)
    → ((q : A × Unread K) → o ≡ Ok q → q.0 ≡ a → q.1.rest ≡ y ++ r
    → Kept x v q.1.count ns (next q.0 q.1) b r) → Kept x v c (ms ++ ns) (and_then o next) b r
seq_kept x v next c ms ns (Ok q) a b y r h then = kept_right x v c q.1.count ms ns (next q.0 q.1) b r h.2
    (then q refl h.0 h.1)
seq_kept x v next c ms ns (Err e) a b y r h then = limit_left x v c ms ns e.fault h

-- what stands behind a text, at its end or before another
pub apart_next : {K : Type 0} (al : Alphabet K) (empty : Bool) (first c1 c2 : K → Bool)
    (y r : List (Tok K)) → Begins empty first y → ((k : K) → first k ≡ true → c1 k ≡ false)
    → (empty ≡ true → (k : K) → c2 k ≡ false → c1 k ≡ false)
    → passes c2 (kind_of r) ≡ false → passes c1 (kind_of (y ++ r)) ≡ false
apart_next al empty first c1 c2 [] r h a w e = within_next al c1 c2 (w h) (kind_of r) e
apart_next al empty first c1 c2 (t ∷ y) r h a w e = a t.kind h

-- what begins a text that begins with another
abbrev pub or_then : {K : Type 0} → Bool → (K → Bool) → (K → Bool) → K → Bool
or_then empty first second k = first k || (empty && second k)

begins_both : {K : Type 0} (empty none : Bool) (first second : K → Bool) (u v : List (Tok K))
    → Begins empty first u → Begins none second v → Begins (empty && none) (or_then empty first second)
    (u ++ v)
begins_both true none first second [] [] h g = g
begins_both false none first second [] [] h g = absurd cc
begins_both true none first second [] (t ∷ v) h g = or_right (first t.kind) (second t.kind) g
begins_both false none first second [] (t ∷ v) h g = absurd cc
begins_both empty none first second (t ∷ u) v h g = or_left (first t.kind) (empty && second t.kind) h

-- what may not stand behind the first does not begin the second, nor stand behind it where it may be empty
abbrev pub fit : {K : Type 0} → Alphabet K → Bool → (K → Bool) → (K → Bool) → (K → Bool) → Bool
fit al empty f2 c1 c2 = disjoint al f2 c1 && (not empty || subset al c1 c2)

module _ {K : Type 0} (al : Alphabet K) (empty : Bool) (f2 c1 c2 : K → Bool)
    (e : fit al empty f2 c1 c2 ≡ true) where
  fit_apart : (k : K) → f2 k ≡ true → c1 k ≡ false
  fit_apart = apart al f2 c1 (both (disjoint al f2 c1) _ e).0

  fit_within : empty ≡ true → (k : K) → c2 k ≡ false → c1 k ≡ false
  fit_within h = within al c1 c2 (implies_of empty (subset al c1 c2) (both (disjoint al f2 c1) _ e).1 h)

-- one after the other, where the first may be empty
pub good_seq : {K A B : Type 0} {al : Alphabet K} {x : ℕ} {v : Level} {n m k : ℕ} {p : Parser K A}
    {next : A → Parser K B} {s : Lang K A} {t : A → Lang K B} {empty none : Bool} {f1 c1 f2 c2 : K → Bool}
    → Good al x v n m p s empty f1 c1 → ((a : A) → Good al x v m k (next a) (t a) none f2 c2)
    → fit al none f2 c1 c2 ≡ true
    → Good al x v n k (p >>= next) (l.◌>>=◌ s t) (empty && none) (or_then empty f1 f2) c2
good_seq {al = al} {x} {v} {n} {m} {k} {p} {next} {s} {t} {empty} {none} {f1} {c1} {f2} {c2} g h e = record {
  sound = λ i. seq_sound al x v n m k p next s t (λ lt a. (h a).sample lt) i (p i) (g.sound i)
      (λ q e. (h q.0).sound q.1);
  sample = λ lt. let y = g.sample lt in let w = (h y.0).sample lt in
      (w.0, y.1 ++ w.1, y.2 ++ w.2, (y.0, y.1, w.1, y.2, w.2, refl, refl, y.3, w.3));
  begins = λ b u ms y. rw y.5 (begins_both empty none f1 f2 y.1 y.2 (g.begins y.0 y.1 y.3 y.7)
      ((h y.0).begins b y.2 y.4 y.8));
  kept = λ i b u r ms e0 y c.
      let e1 : i.rest ≡ y.1 ++ (y.2 ++ r) = e0 ∙ ap (λ z. z ++ r) y.5 ∙ append_assoc y.1 y.2 r in
      let c0 = apart_next al none f2 c1 c2 y.2 r ((h y.0).begins b y.2 y.4 y.8)
      (fit_apart al none f2 c1 c2 e) (fit_within al none f2 c1 c2 e) c in
      subst (λ z. Kept x v i.count z (and_then (p i) next) b r) (sym y.6)
      (seq_kept x v next i.count y.3 y.4 (p i) y.0 b y.2 r (g.kept i y.0 y.1 (y.2 ++ r) y.3 e1 y.7 c0)
      (λ q eq ea er. (h q.0).kept q.1 b y.2 r y.4 er (subst (λ z. t z b y.2 y.4) (sym ea) y.8) c));
}

begins_first : {K : Type 0} (first : K → Bool) (u v : List (Tok K)) → Begins false first u
    → Begins false first (u ++ v)
begins_first first [] v h = absurd (let no : ⊥ = cc in no)
begins_first first (t ∷ u) v h = h

-- the same, where the first is never empty
pub good_then : {K A B : Type 0} {al : Alphabet K} {x : ℕ} {v : Level} {n m k : ℕ} {p : Parser K A}
    {next : A → Parser K B} {s : Lang K A} {t : A → Lang K B} {none : Bool} {f1 c1 f2 c2 : K → Bool}
    → Good al x v n m p s false f1 c1 → ((a : A) → Good al x v m k (next a) (t a) none f2 c2)
    → fit al none f2 c1 c2 ≡ true
    → Good al x v n k (p >>= next) (l.◌>>=◌ s t) false f1 c2
good_then {f1 = f1} g h e =
    let both_good = good_seq g h e in
    record {
      sound = both_good.sound;
      sample = both_good.sample;
      begins = λ b u ms y. rw y.5 (begins_first f1 y.1 y.2 (g.begins y.0 y.1 y.3 y.7));
      kept = both_good.kept;
    }

-- the empty text
pub good_pure : {K A : Type 0} {al : Alphabet K} {x : ℕ} {v : Level} {n : ℕ} (a : A) (cont : K → Bool)
    → Good al x v n n (pure a) (l.pure a) true never cont
good_pure {al = al} {v = v} {n} a cont = record {
  sound = λ i. record {
    used = [];
    marks = [];
    split = refl;
    size = refl;
    aligned = refl;
    after =
        v.after_nil i.count;
    nested = nested_nil al n;
    balance = refl;
    spells = (refl, refl, refl);
    local =
        λ r e. refl;
  };
  sample = λ lt. (a, [], [], (refl, refl, refl));
  begins = λ b u ms y. rw y.1 refl;
  kept = λ i b u r ms e y h. (
    sym y.0,
    e ∙ ap (λ z. z ++ r) y.1,
    subst (λ z. v.after i.count z i.count)
        (sym y.2) (v.after_nil i.count),
  );
}

-- ---- texts of languages, which complete others

module _ {K : Type 0} where
  pub sample_seq : {A B : Type 0} (s : Lang K A) {t : A → Lang K B} → Sample s → ((a : A) → Sample (t a))
      → Sample (l.◌>>=◌ s t)
  sample_seq s w v = let y = v w.0 in (
    y.0,
    w.1 ++ y.1,
    w.2
        ++ y.2,
    (w.0, w.1, y.1, w.2, y.2, refl, refl, w.3, y.3),
  )

  pub sample_none : {A : Type 0} (s : Lang K A) → Sample (l.many s)
  sample_none s = ([], [], [], (refl, refl))

  pub sample_pure : {A : Type 0} (a : A) → Sample {K = K} (l.pure a)
  sample_pure a = (a, [], [], (refl, refl, refl))

  pub sample_token : (a : K) → Sample (l.token a)
  sample_token a = let t : Tok K = record { place = 0; kind = a; text = []; value = 0 } in
      (0, t ∷ [], 0 ∷ [], (t, refl, refl, refl, refl))

  pub sample_left : {A : Type 0} (s t : Lang K A) → Sample s → Sample (l.◌or◌ s t)
  sample_left s t w = (w.0, w.1, w.2, inl w.3)

  pub sample_right : {A : Type 0} (s t : Lang K A) → Sample t → Sample (l.◌or◌ s t)
  sample_right s t w = (w.0, w.1, w.2, inr w.3)

  pub sample_outer : {A : Type 0} (s : Lang K A) → Sample s → Sample (l.outer s)
  sample_outer s w = (w.0, w.1, l.ranks 0 w.2, (w.2, w.3, refl))
