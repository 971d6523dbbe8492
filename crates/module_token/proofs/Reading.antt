-- A text is read from its front: what is read is what stands there, and then what follows is read.
use Rattle.std.proofs.Common.{◌≡◌, ℕ, ◌+◌, ◌≤◌, List, [], ◌∷◌, ◌++◌, length, drop, take, Option, Some, None}
use Rattle.std.proofs.Common.{refl, sym, ap, subst, arith}
use Rattle.std.specs.Str.{IsUtf8, chars}
use Rattle.std.proofs.Math.Seq.{drop-append_seam}
use Rattle.std.proofs.lemmas.List.{take-append-drop, length-take}
use Rattle.module_token.specs.declared.fault.TokenFault.{TokenFault}
use Rattle.module_token.specs.declared.front.Front.{Front}
use Rattle.module_token.specs.declared.front.Front.TheVariants as front
use Rattle.module_token.specs.declared.token.TokenKind.{TokenKind}
use Rattle.module_token.specs.Front.{front_of}
use Rattle.module_token.specs.Tokens.{TextToken, fault_at, Tokenizes, ended, refused, passed, taken}
use Rattle.module_token.proofs.Stands.{gap_front, token_front, fault_front}
use Rattle.module_token.proofs.Found.{Fits, front_fits}
use Rattle.module_token.proofs.Basics.{take_seam}

abbrev pub tok_at : ℕ → ℕ → TokenKind → List ℕ → TextToken
tok_at at n what text = record { place = at; what = what; text = take n text }

-- how the reading goes on behind what stands at the front
abbrev pub Next : ℕ → List ℕ → List TextToken → Option TokenFault → Front → Type 0
Next at text tokens end front.End = (tokens ≡ []) × (end ≡ None)
Next at text tokens end (front.Gap n) = Tokenizes (at + n) (drop n text) tokens end
Next at text tokens end (front.Lexeme n what) = (more : List TextToken)
    × (tokens ≡ tok_at at n what text ∷ more) × Tokenizes (at + n) (drop n text) more end
Next at text tokens end (front.Wrong n kind) = (tokens ≡ []) × (end ≡ Some (fault_at (at + n) kind))

front_nothing : front_of [] ≡ front.End
unfolding front_of chars
front_nothing = refl

pub next_of : {at : ℕ} {text : List ℕ} {tokens : List TextToken} {end : Option TokenFault}
    → Tokenizes at text tokens end → Next at text tokens end (front_of text)
next_of {at} (ended) = subst (Next at [] [] None) (sym front_nothing) (refl, refl)
next_of {at} {text} (refused n kind h) = subst (Next at text [] (Some (fault_at (at + n) kind)))
    (sym (fault_front kind text n h)) (refl, refl)
next_of {at} {end = end} (passed gap rest {tokens = tokens} h more) =
    subst (Next at (gap ++ rest) tokens end) (sym (gap_front gap rest h))
    (subst (λ l. Tokenizes (at + length gap) l tokens end) (sym (drop-append_seam gap rest)) more)
next_of {at} {end = end} (taken text rest what {tokens = tokens} h more) =
    subst (Next at (text ++ rest) (record { place = at; what = what; text = text } ∷ tokens) end)
    (sym (token_front text what rest h)) (
      tokens,
      ap (λ l. record { place = at; what = what; text = l } ∷ tokens) (sym (take_seam text rest)),
      subst (λ l. Tokenizes (at + length text) l tokens end) (sym (drop-append_seam text rest)) more,
    )

length_taken : (n : ℕ) (text : List ℕ) → n ≤ length text → length (take n text) ≡ n
length_taken n text l = omega (arith, length-take n text)

reads_fit : (at : ℕ) (text : List ℕ) (tokens : List TextToken) (end : Option TokenFault) (f : Front)
    → Fits text f → Next at text tokens end f → Tokenizes at text tokens end
reads_fit at text tokens end front.End fits next = rw (fits, next.0, next.1) ended
reads_fit at text tokens end (front.Gap n) fits next =
    let more = subst (λ m. Tokenizes (at + m) (drop n text) tokens end) (sym (length_taken n text fits.0))
    next in
    subst (λ l. Tokenizes at l tokens end) (take-append-drop n text)
    (passed (take n text) (drop n text) fits.1 more)
reads_fit at text tokens end (front.Lexeme n what) fits next =
    let more = subst (λ m. Tokenizes (at + m) (drop n text) next.0 end) (sym (length_taken n text fits.0))
    next.2 in
    subst (λ ts. Tokenizes at text ts end) (sym next.1)
    (subst (λ l. Tokenizes at l (tok_at at n what text ∷ next.0) end) (take-append-drop n text)
    (taken (take n text) (drop n text) what fits.1 more))
reads_fit at text tokens end (front.Wrong n kind) fits next = rw (next.0, next.1) (refused n kind fits)

pub reads_of : (at : ℕ) (text : List ℕ) (tokens : List TextToken) (end : Option TokenFault) → IsUtf8 text
    → Next at text tokens end (front_of text) → Tokenizes at text tokens end
reads_of at text tokens end u next = reads_fit at text tokens end (front_of text) (front_fits text u) next
