-- Where the first LF and the first `*/` of a text stand.
use Rattle.std.proofs.Common.{◌≡◌, ◌≢◌, ℕ, suc, ◌+◌, ◌<◌, ◌≤◌, true, false, not, List, [], ◌∷◌, ◌++◌, length}
use Rattle.std.proofs.Common.{drop, Some, None, refl, sym, ap, subst, ◌∙◌, ⊎_elim, arith}
use Rattle.std.specs.Prelude.{◌==◌, option_map}
use Rattle.std.specs.List.{position_or_len}
use Rattle.std.specs.Borrow.{Bor}
use Rattle.std.specs.Str.Pattern.{FindsChar, FindsText, SplitsAroundMatch, MatchBeginsAt}
use Rattle.std.proofs.lemmas.Bool.{cases_eq}
use Rattle.std.proofs.lemmas.Bool.Decides.{nat_tests}
use Rattle.std.proofs.lemmas.List.Sums.{prefix_len_is}
use Rattle.std.proofs.lemmas.Str.Pattern.{find_char, split_text_parts}
use Rattle.module_token.specs.Gap.{starts_close}
use Rattle.module_token.specs.Front.{close_of}

other : (b : ℕ) → b ≢ 10 → not (b == 10) ≡ true
other b h = grind (arith, nat_tests)

same : (b : ℕ) → b ≡ 10 → not (b == 10) ≡ false
same b h = grind (arith, nat_tests)

-- the clause of `find` at LF
pub line_found : (text : List ℕ) (k : ℕ) → MatchBeginsAt (FindsChar 10) text k
    → k ≡ position_or_len (λ c. c == 10) text
line_found text k h =
    let f = find_char 10 text (Some k) h (omega arith) in
    sym (prefix_len_is (λ c. not (c == 10)) text k 0 (omega (arith, f.0)) (λ i l. other _ (f.2 i l))
    (λ l. same _ f.1))

pub line_none : (text : List ℕ) → FindsChar 10 text None → length text ≡ position_or_len (λ c. c == 10) text
line_none text h =
    let f = find_char 10 text None h (omega arith) in
    sym (prefix_len_is (λ c. not (c == 10)) text (length text) 0 (omega arith) (λ i l. other _ (f i l))
    (λ l. absurd (let no : ⊥ = omega arith in no)))

no_close : (x : ℕ) (xs : List ℕ) → ((more : List ℕ) → x ∷ xs ≢ 42 ∷ 47 ∷ more) → starts_close (x ∷ xs) ≡ false
no_close x [] h = grind (arith, nat_tests)
no_close x (y ∷ ys) h =
    ⊎_elim (λ e. ⊎_elim (λ d. absurd (h ys (ap (λ b. b ∷ y ∷ ys) e ∙ ap (λ b. 42 ∷ b ∷ ys) d)))
    (λ n. grind (arith, nat_tests)) (cases_eq y 47)) (λ n. grind (arith, nat_tests)) (cases_eq x 42)

abbrev Lacks : List ℕ → ℕ → Type 0
Lacks s i = (more : List ℕ) → drop i s ≢ 42 ∷ 47 ∷ more

pub close_at : (inside rest : List ℕ) → ((i : ℕ) → i < length inside → Lacks (inside ++ 42 ∷ 47 ∷ rest) i)
    → close_of (inside ++ 42 ∷ 47 ∷ rest) ≡ Some (length inside + 2)
close_at [] rest h = refl
close_at (x ∷ xs) rest h =
    rw (no_close x (xs ++ 42 ∷ 47 ∷ rest) (h 0 (omega arith)))
    (ap (option_map suc) (close_at xs rest (λ i l. h (suc i) (omega arith))) ∙ ap Some (omega arith))

pub close_lacks : (bs : List ℕ) → ((i : ℕ) → i ≤ length bs → Lacks bs i) → close_of bs ≡ None
close_lacks [] h = refl
close_lacks (x ∷ xs) h = rw (no_close x xs (h 0 (omega arith)))
    (ap (option_map suc) (close_lacks xs (λ i l. h (suc i) (omega arith))))

abbrev close : List ℕ
close = 42 ∷ 47 ∷ []

-- the clauses of `split_once`
pub close_found : (bs : List ℕ) (x : Bor (List ℕ) × Bor (List ℕ))
    → SplitsAroundMatch (FindsText close) bs x.0.now x.1.now → Some (length x.0.now + 2) ≡ close_of bs
close_found bs x h =
    let parts = split_text_parts close bs (Some x) h in
    sym (ap close_of parts ∙ close_at x.0.now x.1.now
    (λ i l. subst (λ s. Lacks s i) parts (h.2.0 i (omega (arith, h.6)))))

pub close_none : (bs : List ℕ) → FindsText close bs None → None ≡ close_of bs
close_none bs h = sym (close_lacks bs h)
