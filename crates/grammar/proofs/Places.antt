-- What is read, and where it begins.
use Rattle.std.proofs.Common.{◌≡◌, ℕ, Bool, false, List, [], ◌∷◌, ◌++◌, Ok, Err, refl, sym, ap, subst, ◌∙◌}
use Rattle.grammar.specs.Tokens.{Tok, Alphabet, kind_of, place_of, passes}
use Rattle.grammar.specs.Language as l
use Rattle.grammar.specs.Language.{Lang}
use Rattle.grammar.specs.Parser.{Unread, Parser, Parsed, and_then, pure, placed, place}
use Rattle.grammar.proofs.Bundle.{from, Level, Sound, Begins, Kept, Sample, Good}

module _ {K A : Type 0} (s : Lang K A) (first : K → Bool)
    (begins : (a : A) (u : List (Tok K)) (ms : List ℕ) → s a u ms → Begins false first u) where
  -- a text has a first token
  placed_text : (a : A) (u : List (Tok K)) (ms : List ℕ) → s a u ms → (n : ℕ) × l.placed s (n, a) u ms
  placed_text a [] ms y = absurd (let b = begins a [] ms y in let no : ⊥ = cc in no)
  placed_text a (t ∷ u) ms y = (t.place, (t, u, refl, refl, y))

  pub placed_sample : Sample s → Sample (l.placed s)
  placed_sample w = let y = placed_text w.0 w.1 w.2 w.3 in ((y.0, w.0), w.1, w.2, y.1)

  -- the place is that of the first token that is read
  placed_here : (i : Unread K) (a : A) (u r : List (Tok K)) (ms : List ℕ) → i.rest ≡ u ++ r → s a u ms
      → (l.placed s (place i, a) u ms) × (((v : List (Tok K)) → place (from i (u ++ v)) ≡ place i))
  unfolding place
  placed_here i a [] r ms e y = absurd (let b = begins a [] ms y in let no : ⊥ = cc in no)
  placed_here i a (t ∷ u) r ms e y = (
    (t, u, refl, ap (place_of i.size) e, y),
    λ v. sym (ap (place_of i.size) e),
  )

module _ {K A : Type 0} (al : Alphabet K) (x : ℕ) (v : Level) (n m : ℕ) (p : Parser K A) (s : Lang K A)
    (first cont : K → Bool) (g : Good al x v n m p s false first cont) where
  placed_as : (i : Unread K) (o : Parsed K A) → p i ≡ o → placed p i ≡ and_then o (λ a. pure (place i, a))
  unfolding placed
  placed_as i o e = ap (λ z. and_then z (λ a. pure (place i, a))) e

  placed_sound : (i : Unread K) (o : Parsed K A) → Sound al x v n m p s i o
      → Sound al x v n m (placed p) (l.placed s) i (and_then o (λ a. pure (place i, a)))
  placed_sound i (Ok q) h =
      let y = placed_here s first g.begins i q.0 h.used q.1.rest h.marks h.split h.spells in
      record {
        used = h.used;
        marks = h.marks;
        split = h.split;
        size = h.size;
        aligned = h.aligned;
        after = h.after;
        nested = h.nested;
        balance = h.balance;
        spells = y.0;
        local = λ r e. placed_as (from i (h.used ++ r)) (Ok (q.0, from q.1 r)) (h.local r e)
            ∙ ap (λ (z : ℕ). Ok ((z, q.0), from q.1 r)) (y.1 r);
      }
  placed_sound i (Err e) later = λ lt. let h = later lt in record {
    used = h.used;
    at = h.at;
    front = h.front;
    count = h.count;
    split = h.split;
    place = h.place;
    aligned = h.aligned;
    after = h.after;
    nested = h.nested;
    bottom = h.bottom;
    stands = h.stands;
    local = λ r c. placed_as (from i (h.used ++ r))
        (Err (record { place = place_of i.size r; fault = e.fault })) (h.local r c);
    goes = λ start c.
        let w = h.goes start c in
        let y = placed_text s first g.begins w.answer (h.used ++ (start ++ w.more)) (h.front ++ w.back)
        w.spells in
        record { answer = (y.0, w.answer); more = w.more; back = w.back; spells = y.1; fills = w.fills };
  }

  placed_kept_by : (i : Unread K) (o : Parsed K A) (a : ℕ × A) (r : List (Tok K)) (ms : List ℕ)
      → place i ≡ a.0 → Kept x v i.count ms o a.1 r
      → Kept x v i.count ms (and_then o (λ b. pure (place i, b))) a r
  placed_kept_by i (Ok q) a r ms e h = (rw (e, h.0) refl, h.1, h.2)
  placed_kept_by i (Err e) a r ms c h = h

  placed_kept : (i : Unread K) (a : ℕ × A) (u r : List (Tok K)) (ms : List ℕ) → i.rest ≡ u ++ r
      → l.placed s a u ms → passes cont (kind_of r) ≡ false → Kept x v i.count ms (placed p i) a r
  unfolding place
  placed_kept i a u r ms e y c =
      let begun : place_of i.size i.rest ≡ a.0 = ap (place_of i.size) (e ∙ ap (λ z. z ++ r) y.2) ∙ sym y.3 in
      subst (λ o. Kept x v i.count ms o a r) (sym (placed_as i (p i) refl))
      (placed_kept_by i (p i) a r ms begun (g.kept i a.1 u r ms e y.4 c))

-- what is read, and the place of its first token
pub good_placed : {K A : Type 0} {al : Alphabet K} {x : ℕ} {v : Level} {n m : ℕ} {p : Parser K A}
    {s : Lang K A} {first cont : K → Bool} → Good al x v n m p s false first cont
    → Good al x v n m (placed p) (l.placed s) false first cont
good_placed {al = al} {x} {v} {n} {m} {p} {s} {first} {cont} g = record {
  sound = λ i. subst (λ o. Sound al x v n m (placed p) (l.placed s) i o)
      (sym (placed_as al x v n m p s first cont g i (p i) refl))
      (placed_sound al x v n m p s first cont g i (p i) (g.sound i));
  sample = λ lt. placed_sample s first g.begins (g.sample lt);
  begins = λ a u ms y. g.begins a.1 u ms y.4;
  kept = placed_kept al x v n m p s first cont g;
}
