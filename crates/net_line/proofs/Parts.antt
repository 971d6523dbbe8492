-- A part is read up to where it ends.
use Rattle.std.proofs.Common.{◌≡◌, ◌≢◌, ℕ, ◌+◌, ◌<◌, ◌≤◌, Bool, true, false, List, [], ◌∷◌, ◌++◌, Option}
use Rattle.std.proofs.Common.{Some, None}
use Rattle.std.proofs.Common.{refl, sym, ap, ◌∙◌, subst, arith, length, take, drop}
use Rattle.std.specs.Prelude.{◌&&◌, ◌==◌, ◌||◌, not, if◌then◌else◌}
use Rattle.std.specs.List.{list_all}
use Rattle.std.proofs.Math.Seq.{take-append_seam}
use Rattle.std.proofs.lemmas.List.{take-append-drop}
use Rattle.hh_base.specs.Bytes.{space, line_feed, quote, backslash}
use Rattle.net_text.specs.Parts.{spaced, line_end as line_feed_alone}
use Rattle.net_line.specs.Reading.{Reader, Ends, plain, ends, word_len, quoted_len, part_len, cut_at, word}
use Rattle.net_line.specs.Reading.{part, line_end, lift}
use Rattle.net_line.specs.Reading.{part_as, word_as, and_then, ◌>>=◌}
use Rattle.net_line.proofs.Chain.{between, same_read, Reads_under, ReadsAll, Anything}

abbrev pub is_quoted : List ℕ → Bool
is_quoted [] = false
is_quoted (b ∷ bs) = b == quote

ended : {A : Type 0} (b : Bool) (x y : A) → b ≡ true → (if b then x else y) ≡ x
ended true x y e = refl
ended false x y e = absurd cc

goes_on : {A : Type 0} (b : Bool) (x y : A) → b ≡ false → (if b then x else y) ≡ y
goes_on false x y e = refl
goes_on true x y e = absurd cc

no_end : (a b : Bool) → (not a && b) ≡ true → (a ≡ false) × (b ≡ true)
no_end true b e = absurd cc
no_end false b e = (refl, e)

pub len_of_word : (w c : List ℕ) → plain w ≡ true → Ends c → word_len (w ++ c) ≡ length w
len_of_word [] [] p e = absurd e
len_of_word [] (b ∷ c) p e = ended (ends b) 0 (1 + word_len c) e
len_of_word (b ∷ w) c p e =
    let h = no_end (ends b) (plain w) p in
    let rest = len_of_word w c h.1 e in
    goes_on (ends b) 0 (1 + word_len (w ++ c)) h.0 ∙ (let n : 1 + word_len (w ++ c) ≡ length (b ∷ w) =
    omega (arith, rest) in n)

drop_seam : (w c : List ℕ) → drop (length w) (w ++ c) ≡ c
drop_seam [] c = refl
drop_seam (b ∷ w) c = drop_seam w c

pub cut_seam : (n : ℕ) (w c : List ℕ) → n ≡ length w → cut_at n (w ++ c) ≡ Some (w, c)
cut_seam n w c e =
    ap (λ (m : ℕ). cut_at m (w ++ c)) e
    ∙ (λ i. Some (take-append_seam w c i, drop_seam w c i))

pub word_is : (w c : List ℕ) → plain w ≡ true → Ends c → word (w ++ c) ≡ Some (w, c)
word_is w c p e = cut_seam (word_len (w ++ c)) w c (len_of_word w c p e)

pub word_only : (l w c : List ℕ) → word l ≡ Some (w, c) → l ≡ w ++ c
word_only l w c e =
    let h = same_read (take (word_len l) l) w (drop (word_len l) l) c e in
    sym (take-append-drop (word_len l) l) ∙ (λ i. h.0 i ++ h.1 i)

no_quote : (b : ℕ) → ends b ≡ true → (b == quote) ≡ false
no_quote b e =
    elim (b == quote) as (λ t. (b == quote) ≡ t → t ≡ false) [
      | false ↦ λ _. refl
      | true ↦ λ q. absurd
          (is_end b q e)
    ] refl
  where
    is_end : (b : ℕ) → (b == quote) ≡ true → ends b ≡ true → ⊥
    is_end b q e = grind (arith)

part_len_word : (w c : List ℕ) → plain w ≡ true → is_quoted w ≡ false → Ends c → part_len (w ++ c) ≡
    word_len (w ++ c)
part_len_word [] [] p q e = absurd e
part_len_word [] (b ∷ c) p q e = goes_on (b == quote) (1 + quoted_len false c) (word_len (b ∷ c)) (no_quote
    b e)
part_len_word (b ∷ w) c p q e = goes_on (b == quote) (1 + quoted_len false (w ++ c)) (word_len (b ∷ (w ++
    c))) q

-- the bytes are read as a part
abbrev pub IsPart : List ℕ → Type 0
IsPart w = (c : List ℕ) → Ends c → part (spaced w ++ c) ≡ Some (w, c)

pub plain_part : (w : List ℕ) → plain w ≡ true → is_quoted w ≡ false → IsPart w
plain_part w p q c e = cut_seam (part_len (w ++ c)) w c (part_len_word w c p q e ∙ len_of_word w c p e)

part_from : (b : ℕ) (bs w c : List ℕ) (t : Bool) → (b == space) ≡ t → (if t then cut_at (part_len bs) bs
    else None) ≡ Some (w, c)
    → b ∷ bs ≡ spaced w ++ c
part_from b bs w c true s e =
    let h = same_read (take (part_len bs) bs) w (drop (part_len bs) bs) c e in
    let is : b ≡ space = grind (arith) in
    (λ i. is i ∷ ((sym (take-append-drop (part_len bs) bs) ∙ (λ j. h.0 j ++ h.1 j)) i))
part_from b bs w c false s e = absurd cc

pub part_only : (l w c : List ℕ) → part l ≡ Some (w, c) → l ≡ spaced w ++ c
part_only [] w c e = absurd cc
part_only (b ∷ bs) w c e = part_from b bs w c (b == space) refl e

pub lifted : {A : Type 0} (o : Option A) (l : List ℕ) (a : A) (c : List ℕ) → lift o l ≡ Some (a, c) → (o ≡
    Some a) × (l ≡ c)
lifted (Some x) l a c e = let h = same_read x a l c e in (ap Some h.0, h.1)
lifted None l a c e = absurd cc

-- a decoder of what is written, and of nothing else
pub record DecodesAll {A : Type 0} (f : List ℕ → Option A) (W : A → List ℕ) (F : A → Type 0) : Type 0 where
  pub complete : (a : A) → F a → f (W a) ≡ Some a
  pub sound : (w : List ℕ) (a : A) → f w ≡ Some a → (w ≡ W a) × F a

pub reads_part : {A : Type 0} {f : List ℕ → Option A} {W : A → List ℕ} {F : A → Type 0} → DecodesAll f W F
    → ((a : A) → F a → IsPart (W a)) → ReadsAll Ends (part_as f) (λ a. spaced (W a)) F
reads_part {A} {f} {W} {F} d parts = record {
  complete = λ a u form c e.
      ap (λ o. and_then o (λ w. lift (f w))) (parts a form c e)
      ∙ ap (λ o. lift o c) (d.complete a form);
  sound = λ l a c e.
      let b = between (part l) (λ w. lift (f w)) a c e in
      let h = lifted (f b.first) b.mid a c b.then_read in
      let k = d.sound b.first a h.0 in
      (part_only l b.first b.mid b.read ∙ (λ i. spaced (k.0 i) ++ h.1 i), k.1, tt);
}

pub reads_word : {A : Type 0} {f : List ℕ → Option A} {W : A → List ℕ} {F : A → Type 0} → DecodesAll f W F
    → ((a : A) → F a → plain (W a) ≡ true) → ReadsAll Ends (word_as f) W F
reads_word {A} {f} {W} {F} d parts = record {
  complete = λ a u form c e.
      ap (λ o. and_then o (λ w. lift (f w))) (word_is (W a) c (parts a form) e)
      ∙ ap (λ o. lift o c) (d.complete a form);
  sound = λ l a c e.
      let b = between (word l) (λ w. lift (f w)) a c e in
      let h = lifted (f b.first) b.mid a c b.then_read in
      let k = d.sound b.first a h.0 in
      (word_only l b.first b.mid b.read ∙ (λ i. k.0 i ++ h.1 i), k.1, tt);
}

end_from : (b : ℕ) (bs c : List ℕ) (u : Unit {0}) (t : Bool) → (b == line_feed) ≡ t
    → ◌≡◌ {A = Option (Unit {0} × List ℕ)} (if t then Some (tt, bs) else None) (Some (u, c)) → b ∷ bs ≡
    line_feed ∷ c
end_from b bs c u true s e =
    let is : b ≡ line_feed = grind (arith) in
    let h = same_read {A = Unit {0}} tt u bs c e in
    (λ i. is i ∷ h.1 i)
end_from b bs c u false s e = absurd cc

end_only : (l : List ℕ) (u : Unit {0}) (c : List ℕ) → line_end l ≡ Some (u, c) → l ≡ line_feed ∷ c
end_only [] u c e = absurd cc
end_only (b ∷ bs) u c e = end_from b bs c u (b == line_feed) refl e

pub reads_end : ReadsAll Anything line_end (λ u. line_feed_alone) Anything
reads_end = record {
  complete = λ u p f c e. refl;
  sound = λ l u c e. (end_only l u c e, tt, tt);
}
