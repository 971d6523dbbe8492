-- What stands at the front of a text, by its first byte or character.
use Rattle.std.proofs.Common.{◌≡◌, ℕ, suc, ◌<◌, ◌≤◌, true, false, List, [], ◌∷◌, length, refl, sym, ap, ◌∙◌}
use Rattle.std.proofs.Common.{⊎_elim, arith}
use Rattle.std.specs.Prelude.{◌==◌, ◌||◌, nat_lt}
use Rattle.std.specs.Char.{is_ascii_digit, is_ascii_alphabetic}
use Rattle.std.specs.Str.{chars}
use Rattle.std.proofs.lemmas.Bool.{cases_lt}
use Rattle.std.proofs.lemmas.Bool.Decides.{nat_tests}
use Rattle.unicode_ident.proofs.IdentLemmas.{is_xid_start-ascii}
use Rattle.hh_base.specs.Name.{starts_word}
use Rattle.module_token.specs.Gap.{is_blank}
use Rattle.module_token.specs.Front.{front_of, front_by, sign_front, pair_front, word_front, number_front}
use Rattle.module_token.specs.Front.{quoted_front}
use Rattle.module_token.proofs.Marks.{Sign}
use Rattle.module_token.specs.declared.front.Front.TheVariants as front

lt : (b : ℕ) → b < 128 → nat_lt b 128 ≡ true
lt b h = grind (arith, nat_tests)

low : (b : ℕ) → nat_lt b 128 ≡ true → b < 128
low b h = grind (arith, nat_tests)

pub head_ascii : (b : ℕ) (bs : List ℕ) → b < 128 → (cs : List ℕ) × (chars (b ∷ bs) ≡ b ∷ cs)
unfolding chars
head_ascii b [] h = ([], rw (lt b h) refl)
head_ascii b (d ∷ bs) h = (chars (d ∷ bs), rw (lt b h) refl)

pub front_head : (b : ℕ) (bs : List ℕ) → b < 128 → front_of (b ∷ bs) ≡ front_by (b ∷ []) (b ∷ bs)
unfolding front_of
front_head b bs h = let q = head_ascii b bs h in ap (λ cs. front_by cs (b ∷ bs)) q.1

pub blank_front : (b : ℕ) (bs : List ℕ) → is_blank b ≡ true → front_of (b ∷ bs) ≡ front.Gap 1
blank_front b bs h = front_head b bs (small b h) ∙ rw h refl
  where
    small : (b : ℕ) → is_blank b ≡ true → b < 128
    small b h = grind (arith, nat_tests)

starts_ascii : (c : ℕ) → c < 128 → starts_word c ≡ (is_ascii_alphabetic c || (c == 95))
starts_ascii c h = ap (λ t. t || (c == 95)) (is_xid_start-ascii c h)

pub sign_front_at : (b : ℕ) (bs : List ℕ) → Sign b → front_of (b ∷ bs) ≡ sign_front (b ∷ bs)
sign_front_at b bs (small, blank, digit, quote, letter, line) =
    let starts : starts_word b ≡ false = starts_ascii b (low b small) ∙ rw (letter, line) refl in
    front_head b bs (low b small) ∙ rw (blank, digit, quote, starts) refl

pub digit_front : (b : ℕ) (bs : List ℕ) → is_ascii_digit b ≡ true → front_of (b ∷ bs) ≡ number_front (b ∷ bs)
digit_front b bs h = front_head b bs (small b h) ∙ rw (blank b h, h) refl
  where
    small : (b : ℕ) → is_ascii_digit b ≡ true → b < 128
    small b h = grind (arith, nat_tests)

    blank : (b : ℕ) → is_ascii_digit b ≡ true → is_blank b ≡ false
    blank b h = grind (arith, nat_tests)

pub quote_front : (bs : List ℕ) → front_of (34 ∷ bs) ≡ quoted_front (34 ∷ bs)
quote_front bs = front_head 34 bs (omega arith)

-- what begins a word begins nothing else
pub record Begins (c : ℕ) : Type 0 where
  pub blank : is_blank c ≡ false
  pub digit : is_ascii_digit c ≡ false
  pub quote : (c == 34) ≡ false

begins_low : (c : ℕ) → (is_ascii_alphabetic c || (c == 95)) ≡ true → Begins c
begins_low c h = record {
  blank = grind (arith, nat_tests);
  digit = grind (arith, nat_tests);
  quote =
      grind (arith, nat_tests);
}

begins_high : (c : ℕ) → 128 ≤ c → Begins c
begins_high c h = record {
  blank = grind (arith, nat_tests);
  digit = grind (arith, nat_tests);
  quote =
      grind (arith, nat_tests);
}

pub begins : (c : ℕ) → starts_word c ≡ true → Begins c
begins c h = ⊎_elim (λ small. begins_low c (sym (starts_ascii c small) ∙ h)) (begins_high c) (cases_lt c 128)

pub word_by : (c : ℕ) (cs text : List ℕ) → starts_word c ≡ true → front_by (c ∷ cs) text ≡ word_front text
word_by c cs text h = let q = begins c h in rw (q.blank, q.digit, q.quote, h) refl

pub sign_pair : (b d : ℕ) (bs : List ℕ) → sign_front (b ∷ d ∷ bs) ≡ pair_front b d (b ∷ d ∷ bs)
sign_pair b d bs = rw (many (length bs)) refl
  where
    many : (n : ℕ) → nat_lt 1 (suc (suc n)) ≡ true
    many n = grind (arith, nat_tests)
