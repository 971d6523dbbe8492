-- Where a text may be cut behind what stands at its front.
use Rattle.std.proofs.Common.{◌≡◌, ℕ, ◌+◌, ◌<◌, ◌≤◌, Bool, true, false, List, ◌∷◌, ◌++◌, length, get_or, Some}
use Rattle.std.proofs.Common.{None, refl, sym, ap, subst, ◌∙◌, ⊎_elim, arith}
use Rattle.std.specs.Prelude.{◌==◌, ◌||◌}
use Rattle.std.specs.Char.{len_utf8}
use Rattle.std.specs.Str.{chars, IsUtf8, IsCharBoundary}
use Rattle.std.proofs.lemmas.Bool.{cases_lt}
use Rattle.std.proofs.lemmas.Bool.Decides.{nat_tests}
use Rattle.std.proofs.lemmas.Str.{IsCharBoundary-after_ascii, len_utf8_bounds, length-encode, byte_from_char}
use Rattle.std.proofs.Common.{length-append}
use lib.Utf8.{encode}
use Rattle.module_token.specs.Gap.{is_blank}
use Rattle.unicode_ident.specs.Ident.{is_xid_start, is_xid_continue}
use Rattle.unicode_ident.proofs.IdentLemmas.{is_xid_start-is_xid_continue, is_xid_continue-ascii}
use Rattle.hh_base.specs.Name.{starts_word}
use Rattle.module_token.specs.Cut.{IsCut}
use Rattle.module_token.specs.Front.{short_mark, long_mark, word_len}
use Rattle.module_token.specs.declared.punct.Punct.{Punct}

short_high : (b : ℕ) → 128 ≤ b → short_mark b ≡ None
short_high b h = grind (arith, nat_tests)

long_high : (b d : ℕ) → 128 ≤ d → long_mark b d ≡ None
long_high b d h = grind (arith, nat_tests)

some_none : {m : Punct} → Some m ≡ None → ⊥
some_none e = cc

pub short_ascii : (b : ℕ) (m : Punct) → short_mark b ≡ Some m → b < 128
short_ascii b m e = ⊎_elim (λ low. low) (λ high. absurd (some_none (sym e ∙ short_high b high)))
    (cases_lt b 128)

long_ascii : (b d : ℕ) (m : Punct) → long_mark b d ≡ Some m → d < 128
long_ascii b d m e = ⊎_elim (λ low. low) (λ high. absurd (some_none (sym e ∙ long_high b d high)))
    (cases_lt d 128)

pub after_one : (text : List ℕ) → IsUtf8 text → 0 < length text → get_or text 0 0 < 128
    → IsCharBoundary text 1
after_one text u l a = IsCharBoundary-after_ascii text 0 u l a

pub after_two : (text : List ℕ) → IsUtf8 text → 1 < length text → get_or text 1 0 < 128
    → IsCharBoundary text 2
after_two text u l a = IsCharBoundary-after_ascii text 1 u l a

pub short_cut : (text : List ℕ) (b : ℕ) (m : Punct) → IsUtf8 text → 0 < length text → get_or text 0 0 ≡ b
    → short_mark b ≡ Some m → IsCharBoundary text 1
short_cut text b m u l e is = after_one text u l (omega (arith, e, short_ascii b m is))

pub long_cut : (text : List ℕ) (b d : ℕ) (m : Punct) → IsUtf8 text → 1 < length text → get_or text 1 0 ≡ d
    → long_mark b d ≡ Some m → IsCharBoundary text 2
long_cut text b d m u l e is = after_two text u l (omega (arith, e, long_ascii b d m is))

or_step : {X : Type 0} (a b : Bool) → (a ≡ true → X) → (b ≡ true → X) → (a || b) ≡ true → X
or_step true b f g e = f refl
or_step false b f g e = g e

-- what may begin a word may go on one
pub starts_continues : (c : ℕ) → starts_word c ≡ true → is_xid_continue c ≡ true
starts_continues c h =
    or_step (is_xid_start c) (c == 95) (is_xid_start-is_xid_continue c)
    (λ e. subst (λ x. is_xid_continue x ≡ true) (sym (line c e))
    (is_xid_continue-ascii 95 (omega arith))) h
  where
    line : (c : ℕ) → (c == 95) ≡ true → c ≡ 95
    line c e = grind (arith, nat_tests)

pub word_some : (text : List ℕ) (c : ℕ) (cs : List ℕ) → chars text ≡ c ∷ cs → starts_word c ≡ true
    → 0 < word_len (chars text)
word_some text c cs e h =
    let one : word_len (chars text) ≡ len_utf8 c + word_len cs = ap word_len e
    ∙ rw (starts_continues c h) refl in
    omega (arith, one, (len_utf8_bounds c).0)

pub word_cut_some : (text : List ℕ) → (c : ℕ) × (cs : List ℕ) × (chars text ≡ c ∷ cs)
    × (starts_word c ≡ true) → 0 < word_len (chars text)
word_cut_some text (c, cs, e, h) = word_some text c cs e h

blank_low : (c : ℕ) → is_blank c ≡ true → c < 128
blank_low c h = grind (arith, nat_tests)

pub blank_cut : (text rest : List ℕ) (c : ℕ) → IsUtf8 text → text ≡ encode c ++ rest → is_blank c ≡ true
    → IsCut text 1
blank_cut text rest c u e h =
    let low = blank_low c h in
    let some : 0 < length text = omega (
      arith,
      ap length e,
      length-append (encode c) rest,
      length-encode c,
      (len_utf8_bounds c).0,
    ) in
    (omega arith, after_one text u some (omega (arith, low, byte_from_char text rest c e low)))
