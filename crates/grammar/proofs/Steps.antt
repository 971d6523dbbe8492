-- What proofs of functions that read use: one step after the other, room behind a bracket, and exits by an
-- error.
use Rattle.std.proofs.Common.{◌≡◌, ◌≢◌, ℕ, suc, ◌-◌, ◌<◌, Bool, true, List, [], ◌∷◌, length, Option, Some}
use Rattle.std.proofs.Common.{Result, Ok, Err, ap, ◌∙◌, arith}
use Rattle.std.specs.Prelude.{IsErrAnd}
use Rattle.std.proofs.lemmas.Result.{err_from_is_err_and}
use Rattle.grammar.specs.Tokens.{Tok, kind_of, passes}
use Rattle.grammar.specs.Fault.{Refusal}
use Rattle.grammar.specs.Parser.{Unread, Parser, Parsed, Reads, Refuses, and_then, sees, kind, next, tail_of}

-- where a bracket may be opened, a rule is that of one less behind it
pub room_left : {X : Type 0} (rule : ℕ → X) (room : ℕ) → room ≢ 0 → rule room ≡ rule (suc (room - 1))
room_left rule room some = let e : room ≡ suc (room - 1) = omega arith in ap rule e

module _ {K A B : Type 0} where
  -- behind what was read, the rest decides
  pub then_ok : (o : Parsed K A) (f : A → Parser K B) (a : A) (j : Unread K) (last : Parsed K B)
      → o ≡ Ok (a, j) → f a j ≡ last → and_then o f ≡ last
  then_ok o f a j last e h = ap (λ z. and_then z f) e ∙ h

  -- a refusal stays
  pub then_err : (o : Parsed K A) (f : A → Parser K B) (r : Refusal) → o ≡ Err r → and_then o f ≡ Err r
  then_err o f r e = ap (λ z. and_then z f) e

-- the next token is of a kind of the set
pub sees_kind : {K : Type 0} (test : K → Bool) (i : Unread K) (b : Bool) → passes test (kind i) ≡ b
    → sees test i ≡ b
unfolding sees
sees_kind test i b e = e

-- behind a token that is there, less is left
pub next_shorter : {K : Type 0} (test : K → Bool) (i : Unread K) → sees test i ≡ true
    → length (next i).rest < length i.rest
unfolding next sees kind
next_shorter {K} test i e = by_rest i.rest e
  where
    by_rest : (ts : List (Tok K)) → passes test (kind_of ts) ≡ true → length (tail_of ts) < length ts
    by_rest [] h = absurd (let no : ⊥ = cc in no)
    by_rest (t ∷ ts) h = omega arith

-- an exit by `?`: its error is the one that the call gave
pub reads_exit : {K A E : Type 0} (seen : E → Option Refusal) (outcome : Parsed K A) (new : Unread K)
    (result : Result A E) (given : E) → IsErrAnd result (λ e. e ≡ given)
    → ((r : Refusal) → seen given ≡ Some r → Refuses outcome r new) → Reads seen outcome result new
reads_exit {E = E} seen outcome new result given exit h =
    let p = err_from_is_err_and result exit in
    rw (p.1, p.2) h
