-- Each keyword is written in one way, and no other word is one.
use Rattle.std.proofs.Common.{◌≡◌, ◌≢◌, ◌≤◌, length, arith, ℕ, true, false, List, [], ◌∷◌, Option, Some}
use Rattle.std.proofs.Common.{None, refl, sym, ap, ◌∙◌}
use Rattle.std.specs.Prelude.{Bool, cond, if◌then◌else◌, is_some, eqb}
use Rattle.std.specs.Str.{bytes_eq}
use Rattle.std.specs.List.{filter, list_any}
use Rattle.std.proofs.lemmas.Bool.{eqb-false, ne_eqb}
use Rattle.std.proofs.lemmas.Slice.Eq.{bytes_eq-Decides}
use Rattle.hh_base.specs.Keyword.{keyword_text, keyword_among, keyword_of, is_keyword}
use Rattle.hh_base.specs.declared.keyword.Keyword.{Keyword}
use Rattle.hh_base.specs.declared.keyword.Keyword.TheVariants as k
use Rattle.hh_base.specs.declared.keyword.TheConstants.{KEYWORDS}

pub keyword_spelled : (k : Keyword) → keyword_of (keyword_text k) ≡ Some k
unfolding keyword_of
keyword_spelled k.Module = refl
keyword_spelled _ = refl

pub keyword_found : (w : List ℕ) (k : Keyword) → w ≡ keyword_text k → keyword_of w ≡ Some k
keyword_found w k e = ap keyword_of e ∙ keyword_spelled k

among_spelled : (ks : List Keyword) (w : List ℕ) (k : Keyword) → keyword_among ks w ≡ Some k
    → w ≡ keyword_text k
among_spelled [] w k e = cc
among_spelled (x ∷ xs) w k e =
    elim (bytes_eq w (keyword_text x)) as (λ t. bytes_eq w (keyword_text x) ≡ t
    → (if t then Some x else keyword_among xs w) ≡ Some k → w ≡ keyword_text k) [
      | true ↦ λ d h. (bytes_eq-Decides w (keyword_text x)).0 d ∙ ap keyword_text (same h)
      | false ↦
          λ d h. among_spelled xs w k h
    ] refl e
  where
    same : Some x ≡ Some k → x ≡ k
    same h = cc

pub spelled_keyword : (w : List ℕ) (k : Keyword) → keyword_of w ≡ Some k → w ≡ keyword_text k
unfolding keyword_of
spelled_keyword w k e = among_spelled KEYWORDS w k e

pub keyword_or_none : (w : List ℕ) → is_keyword w ≡ is_some (keyword_of w)
unfolding keyword_of is_keyword
keyword_or_none w = refl

pub is_keyword_spelled : (k : Keyword) → is_keyword (keyword_text k) ≡ true
is_keyword_spelled k = keyword_or_none (keyword_text k) ∙ ap is_some (keyword_spelled k)

only_none : {A : Type 0} (o : Option A) → is_some o ≡ false → o ≡ None
only_none None h = refl
only_none (Some a) h = absurd (let no : ⊥ = cc in no)

pub keyword_none : (w : List ℕ) → is_keyword w ≡ false → keyword_of w ≡ None
keyword_none w h = only_none (keyword_of w) (sym (keyword_or_none w) ∙ h)

pub none_keyword : (w : List ℕ) → keyword_of w ≡ None → is_keyword w ≡ false
none_keyword w h = keyword_or_none w ∙ ap is_some h

pub keyword_short : (k : Keyword) → length (keyword_text k) ≤ 255
keyword_short k.Module = omega arith
keyword_short _ = omega arith

abbrev pub has_length : ℕ → Keyword → Bool
has_length n k = eqb (length (keyword_text k)) n

abbrev pub has_some_length : ℕ → Bool
has_some_length n = list_any (eqb n) (2 ∷ 3 ∷ 4 ∷ 5 ∷ 6 ∷ 7 ∷ 9 ∷ [])

other_length : (w : List ℕ) (n : ℕ) (k : Keyword) → length w ≡ n → has_length n k ≡ false →
    bytes_eq w (keyword_text k) ≡ false
other_length w n k e h = elim (bytes_eq w (keyword_text k)) as (λ t. bytes_eq w (keyword_text k) ≡ t →
    t ≡ false) [
      | true ↦ λ d. absurd (eqb-false (length (keyword_text k)) n h
          (sym (ap length ((bytes_eq-Decides w (keyword_text k)).0 d)) ∙ e))
      | false ↦ λ d. refl
    ] refl

-- a word is compared with the keywords of its length alone
pub among_of_length : (ks : List Keyword) (w : List ℕ) (n : ℕ) → length w ≡ n →
    keyword_among (filter (has_length n) ks) w ≡ keyword_among ks w
among_of_length [] w n e = refl
among_of_length (k ∷ ks) w n e = elim (has_length n k) as (λ t. has_length n k ≡ t →
    keyword_among (cond t (k ∷ filter (has_length n) ks) (filter (has_length n) ks)) w ≡
    (if bytes_eq w (keyword_text k) then Some k else keyword_among ks w)) [
      | true ↦ λ h. ap (λ r. if bytes_eq w (keyword_text k) then Some k else r) (among_of_length ks w n e)
      | false ↦ λ h. among_of_length ks w n e ∙ sym (ap (λ t. if t then Some k else keyword_among ks w)
          (other_length w n k e h))
    ] refl

pub of_length : (w : List ℕ) (n : ℕ) → length w ≡ n →
    keyword_among (filter (has_length n) KEYWORDS) w ≡ keyword_of w
unfolding keyword_of
of_length w n e = among_of_length KEYWORDS w n e

known_length : (k : Keyword) → has_some_length (length (keyword_text k)) ≡ true
known_length k.Module = refl
known_length _ = refl

none_of_these : (n : ℕ) → n ≢ 2 → n ≢ 3 → n ≢ 4 → n ≢ 5 → n ≢ 6 → n ≢ 7 → n ≢ 9 →
    has_some_length n ≡ false
none_of_these n b c d e f g i = cc (
  ne_eqb n 2 b,
  ne_eqb n 3 c,
  ne_eqb n 4 d,
  ne_eqb n 5 e,
  ne_eqb n 6 f,
  ne_eqb n 7 g,
  ne_eqb n 9 i,
)

-- a word of no keyword's length is none
pub no_length : (w : List ℕ) → length w ≢ 2 → length w ≢ 3 → length w ≢ 4 → length w ≢ 5 →
    length w ≢ 6 → length w ≢ 7 → length w ≢ 9 → keyword_of w ≡ None
no_length w b c d e f g i = elim (keyword_of w) as (λ o. keyword_of w ≡ o → o ≡ None) [
  | None ↦ λ h. refl
  | Some k ↦ λ h. absurd (clash k (known_length k) (spelled_keyword w k h))
] refl
  where
    clash : (k : Keyword) → has_some_length (length (keyword_text k)) ≡ true → w ≡ keyword_text k → ⊥
    clash k known spelled = cc (
      ap (λ v. has_some_length (length v)) spelled,
      known,
      none_of_these (length w) b c d e f g i,
    )
