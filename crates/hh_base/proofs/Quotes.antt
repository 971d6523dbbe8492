-- How texts stand between quotes: what is read is what stands there, and in one way only.
use Rattle.std.proofs.Common.{◌≡◌, ◌≢◌, ℕ, ◌<◌, ◌≤◌, Bool, true, false, List, [], ◌∷◌, ◌++◌, Option, Some}
use Rattle.std.proofs.Common.{None, refl, sym, ap, ◌∙◌, append_assoc, append-nil, subst, ⊎_elim, arith}
use Rattle.std.proofs.Common.{◌&&◌}
use Rattle.std.specs.Prelude.{option_map}
use Rattle.std.specs.List.{flat_map}
use Rattle.std.proofs.lemmas.Bool.{cases_eq, cases_lt}
use Rattle.std.proofs.lemmas.Bool.Decides.{nat_tests}
use Rattle.std.proofs.lemmas.List.Concat.{flat_map-append}
use Rattle.hh_base.specs.Text.{text_byte, has_text_bytes}
use Rattle.hh_base.specs.Literal.{escaped, escape_of, after_backslash, next_byte}
use Rattle.hh_base.proofs.Utf8.{list_all-append}

-- ---- one byte

escaped_plain : (b : ℕ) → b ≢ 34 → b ≢ 92 → b ≢ 10 → b ≢ 9 → escaped b ≡ b ∷ []
escaped_plain b p q r s = grind (arith, nat_tests)

next_plain : (b : ℕ) (rest : List ℕ) → b ≢ 34 → b ≢ 92 → 32 ≤ b → next_byte (b ∷ rest) ≡ Some (b, rest)
next_plain b rest p q r = grind (arith, nat_tests)

printable : (b : ℕ) → text_byte b ≡ true → b ≢ 10 → b ≢ 9 → 32 ≤ b
printable b h p q = grind (arith, nat_tests)

-- a text's byte is read back from how it stands there
pub next-escaped : (b : ℕ) (rest : List ℕ) → text_byte b ≡ true
    → next_byte (escaped b ++ rest) ≡ Some (b, rest)
next-escaped b rest h =
    let P : ℕ → Type 0 = λ c. next_byte (escaped c ++ rest) ≡ Some (c, rest) in
    ⊎_elim (λ e. subst P (sym e) refl)
    (λ p. ⊎_elim (λ e. subst P (sym e) refl)
    (λ q. ⊎_elim (λ e. subst P (sym e) refl)
    (λ r. ⊎_elim (λ e. subst P (sym e) refl)
    (λ s. rw (escaped_plain b p q r s) (next_plain b rest p q (printable b h r s))) (cases_eq b 9))
    (cases_eq b 10)) (cases_eq b 92)) (cases_eq b 34)

abbrev first_of : Option (ℕ × List ℕ) → ℕ
first_of None = 0
first_of (Some p) = p.0

abbrev rest_of : Option (ℕ × List ℕ) → List ℕ
rest_of None = []
rest_of (Some p) = p.1

-- the byte is a text's, and it stands first
abbrev Stands : List ℕ → ℕ → List ℕ → Type 0
Stands bs b rest = (bs ≡ escaped b ++ rest) × (text_byte b ≡ true)

one_escape : (m x b : ℕ) (ms rest : List ℕ) → escape_of m ≡ Some x → escaped x ≡ 92 ∷ m ∷ []
    → text_byte x ≡ true → after_backslash (m ∷ ms) ≡ Some (b, rest) → Stands (92 ∷ m ∷ ms) b rest
one_escape m x b ms rest is shape plain h =
    let both : Some (x, ms) ≡ Some (b, rest) = ap (option_map (λ c. (c, ms))) (sym is) ∙ h in
    let whole : 92 ∷ m ∷ ms ≡ escaped x ++ rest =
    ap (λ l. 92 ∷ m ∷ l) (ap rest_of both) ∙ ap (λ l. l ++ rest) (sym shape) in
    let P : ℕ → Type 0 = λ c. Stands (92 ∷ m ∷ ms) c rest in
    subst P (ap first_of both) (whole, plain)

no_escape : (m : ℕ) → m ≢ 34 → m ≢ 92 → m ≢ 110 → m ≢ 116 → escape_of m ≡ None
no_escape m p q r s = grind (arith, nat_tests)

some_none : {p : ℕ × List ℕ} → Some p ≡ None → ⊥
some_none h = cc

found_escape : (cs rest : List ℕ) (b : ℕ) → after_backslash cs ≡ Some (b, rest) → Stands (92 ∷ cs) b rest
found_escape [] rest b h = cc
found_escape (m ∷ ms) rest b h =
    let P : ℕ → Type 0 = λ c. after_backslash (c ∷ ms) ≡ Some (b, rest) → Stands (92 ∷ c ∷ ms) b rest in
    ⊎_elim (λ e. subst P (sym e) (one_escape 34 34 b ms rest refl refl refl))
    (λ p. ⊎_elim (λ e. subst P (sym e) (one_escape 92 92 b ms rest refl refl refl))
    (λ q. ⊎_elim (λ e. subst P (sym e) (one_escape 110 10 b ms rest refl refl refl))
    (λ r. ⊎_elim (λ e. subst P (sym e) (one_escape 116 9 b ms rest refl refl refl))
    (λ s k. absurd (some_none (sym k ∙ ap (option_map (λ c. (c, ms))) (no_escape m p q r s))))
    (cases_eq m 116)) (cases_eq m 110)) (cases_eq m 92)) (cases_eq m 34) h

low_none : (c : ℕ) (cs : List ℕ) → c ≢ 92 → c < 32 → next_byte (c ∷ cs) ≡ None
low_none c cs p low = grind (arith, nat_tests)

plain_byte : (b : ℕ) → 32 ≤ b → text_byte b ≡ true
plain_byte b high = grind (arith, nat_tests)

found_other : (c : ℕ) (cs rest : List ℕ) (b : ℕ) → c ≢ 92 → next_byte (c ∷ cs) ≡ Some (b, rest)
    → (c ≢ 34) × (32 ≤ c)
found_other c cs rest b p h = (
  λ e. some_none (sym h ∙ ap (λ d. next_byte (d ∷ cs)) e),
  ⊎_elim (λ low. absurd (some_none (sym h ∙ low_none c cs p low))) (λ high. high) (cases_lt c 32),
)

-- a byte that stands as it is
stands_plain : (c : ℕ) (cs : List ℕ) → c ≢ 92 → (c ≢ 34) × (32 ≤ c) → Stands (c ∷ cs) c cs
stands_plain c cs p q = (
  ap (λ l. l ++ cs)
      (sym (escaped_plain c q.0 p (λ e. absurd (omega arith)) (λ e. absurd (omega arith)))),
  plain_byte c q.1,
)

found_plain : (c : ℕ) (cs rest : List ℕ) (b : ℕ) → c ≢ 92 → next_byte (c ∷ cs) ≡ Some (b, rest)
    → Stands (c ∷ cs) b rest
found_plain c cs rest b p h =
    let q = found_other c cs rest b p h in
    let both : Some (c, cs) ≡ Some (b, rest) = sym (next_plain c cs q.0 p q.1) ∙ h in
    let P : ℕ → Type 0 = λ d. Stands (c ∷ cs) d rest in
    let Q : List ℕ → Type 0 = λ l. Stands (c ∷ cs) c l in
    subst P (ap first_of both) (subst Q (ap rest_of both) (stands_plain c cs p q))

pub found-next : (bs rest : List ℕ) (b : ℕ) → next_byte bs ≡ Some (b, rest) → Stands bs b rest
found-next [] rest b h = cc
found-next (c ∷ cs) rest b h =
    let P : ℕ → Type 0 = λ d. next_byte (d ∷ cs) ≡ Some (b, rest) → Stands (d ∷ cs) b rest in
    ⊎_elim (λ e. subst P (sym e) (found_escape cs rest b)) (λ p k. found_plain c cs rest b p k)
    (cases_eq c 92) h

and_true : (a b : Bool) → (a && b) ≡ true → (a ≡ true) × (b ≡ true)
and_true true b h = (refl, h)
and_true false b h = cc

-- ---- whole texts

-- what stands first of a whole text is a front of it
pub peel : (xs ts rest : List ℕ) → has_text_bytes xs ≡ true → has_text_bytes ts ≡ true
    → flat_map escaped xs ++ rest ≡ flat_map escaped ts ++ 34 ∷ []
    → (us : List ℕ) × (ts ≡ xs ++ us) × (has_text_bytes us ≡ true) × (rest ≡ flat_map escaped us ++ 34 ∷ [])
peel [] ts rest hx ht e = (ts, refl, ht, e)
peel (x ∷ xs) [] rest hx ht e =
    let read = next-escaped x (flat_map escaped xs ++ rest) (and_true _ _ hx).0 in
    absurd (some_none
    (sym read ∙ ap next_byte (sym (append_assoc (escaped x) (flat_map escaped xs) rest) ∙ e)))
peel (x ∷ xs) (t ∷ ts) rest hx ht e =
    let plain = and_true _ _ hx in
    let plain_ts = and_true _ _ ht in
    let read = next-escaped x (flat_map escaped xs ++ rest) plain.0 in
    let read_ts = next-escaped t (flat_map escaped ts ++ 34 ∷ []) plain_ts.0 in
    let both : Some (x, flat_map escaped xs ++ rest) ≡ Some (t, flat_map escaped ts ++ 34 ∷ []) =
    sym read ∙ ap next_byte
    (sym (append_assoc (escaped x) (flat_map escaped xs) rest) ∙ e
    ∙ append_assoc (escaped t) (flat_map escaped ts) (34 ∷ [])) ∙ read_ts in
    let more = peel xs ts rest plain.1 plain_ts.1 (ap rest_of both) in
    (more.0, ap (λ c. c ∷ ts) (sym (ap first_of both)) ∙ ap (λ l. x ∷ l) more.1, more.2, more.3)

-- nothing stands between a text's end and its quote
at_end : (us : List ℕ) → has_text_bytes us ≡ true → 34 ∷ [] ≡ flat_map escaped us ++ 34 ∷ [] → us ≡ []
at_end [] h e = refl
at_end (u ∷ us) h e =
    let read = next-escaped u (flat_map escaped us ++ 34 ∷ []) (and_true _ _ h).0 in
    absurd (some_none
    (sym read ∙ ap next_byte
    (sym (append_assoc (escaped u) (flat_map escaped us) (34 ∷ [])) ∙ sym e)))

-- one text stands there
pub only-text : (xs ts : List ℕ) → has_text_bytes xs ≡ true → has_text_bytes ts ≡ true
    → flat_map escaped xs ++ 34 ∷ [] ≡ flat_map escaped ts ++ 34 ∷ [] → xs ≡ ts
only-text xs ts hx ht e =
    let p = peel xs ts (34 ∷ []) hx ht e in
    sym (p.1 ∙ ap (λ l. xs ++ l) (at_end p.0 p.2 p.3) ∙ append-nil xs)

stuck : (us rest : List ℕ) → has_text_bytes us ≡ true → rest ≡ flat_map escaped us ++ 34 ∷ []
    → next_byte rest ≡ None → rest ≢ 34 ∷ [] → ⊥
stuck [] rest h e none more = more e
stuck (u ∷ us) rest h e none more =
    some_none
    (sym (next-escaped u (flat_map escaped us ++ 34 ∷ []) (and_true _ _ h).0)
    ∙ ap next_byte (sym (append_assoc (escaped u) (flat_map escaped us) (34 ∷ [])) ∙ sym e) ∙ none)

-- no text stands there where no byte is read before the quote
pub no-text : (xs ts rest : List ℕ) → has_text_bytes xs ≡ true → has_text_bytes ts ≡ true
    → flat_map escaped xs ++ rest ≡ flat_map escaped ts ++ 34 ∷ [] → next_byte rest ≡ None
    → rest ≢ 34 ∷ [] → ⊥
no-text xs ts rest hx ht e none more = let p = peel xs ts rest hx ht e in stuck p.0 rest p.2 p.3 none more

pub text-more : (xs text rest others : List ℕ) (b : ℕ) → text ≡ flat_map escaped xs ++ rest
    → rest ≡ escaped b ++ others → text ≡ flat_map escaped (xs ++ b ∷ []) ++ others
text-more xs text rest others b split next =
    let behind : flat_map escaped (xs ++ b ∷ []) ≡ flat_map escaped xs ++ escaped b =
    flat_map-append escaped xs (b ∷ [])
    ∙ ap (λ l. flat_map escaped xs ++ l) (append-nil (escaped b)) in
    split ∙ ap (λ l. flat_map escaped xs ++ l) next
    ∙ sym (append_assoc (flat_map escaped xs) (escaped b) others) ∙ ap (λ l. l ++ others) (sym behind)

pub plain-more : (xs : List ℕ) (b : ℕ) → has_text_bytes xs ≡ true → text_byte b ≡ true
    → has_text_bytes (xs ++ b ∷ []) ≡ true
plain-more xs b h p = list_all-append text_byte xs (b ∷ []) h (ap (λ t. t && true) p)
