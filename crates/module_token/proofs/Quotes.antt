-- The run of spelled bytes between quotes.
use Rattle.std.proofs.Common.{◌≡◌, ℕ, zero, suc, ◌+◌, ◌-◌, ◌<◌, ◌≤◌, true, false, List, [], ◌∷◌, ◌++◌, length}
use Rattle.std.proofs.Common.{drop, get_or, Some, None, refl, sym, ap, ◌∙◌, arith, append_assoc}
use Rattle.std.proofs.Common.{length-append}
use Rattle.std.specs.Prelude.{◌==◌, ◌&&◌, nat_le, nat_lt, if◌then◌else◌}
use Rattle.std.specs.List.{flat_map}
use Rattle.std.specs.Str.{IsUtf8}
use Rattle.std.proofs.lemmas.Bool.Decides.{nat_tests}
use Rattle.std.proofs.lemmas.List.{get_or-drop}
use Rattle.std.proofs.Math.Seq.{drop-append_seam}
use Rattle.std.proofs.lemmas.Str.{IsCharBoundary-after_ascii}
use Rattle.hh_base.specs.Text.{has_text_bytes}
use Rattle.hh_base.specs.Literal.{escaped, next_byte}
use Rattle.hh_base.proofs.Quotes.{next-escaped, found-next, text-more, plain-more}
use Rattle.module_token.specs.Cut.{CutsAt}
use Rattle.module_token.specs.Front.{run_for, run_on, quote_end, quoted_front, quoted_run}
use Rattle.module_token.specs.declared.fault.TokenFaultKind.TheVariants as fault
use Rattle.module_token.specs.declared.front.Front.TheVariants as front
use Rattle.module_token.specs.declared.token.TokenKind.TheVariants as token
use Rattle.module_token.proofs.Basics.{and_true}

-- a run of spelled bytes, of which the value is given, up to where no byte is spelled
pub run_stops : (v rest : List ℕ) (n : ℕ) → has_text_bytes v ≡ true → next_byte rest ≡ None → length v ≤ n
    → run_for n (flat_map escaped v ++ rest) ≡ (length v, rest)
run_stops [] rest zero h e l = refl
run_stops [] rest (suc n) h e l = ap (run_on (run_for n) rest) e
run_stops (b ∷ v) rest zero h e l = absurd (let no : ⊥ = omega arith in no)
run_stops (b ∷ v) rest (suc n) h e l =
    let p = and_true _ _ h in
    let read = ap next_byte (append_assoc (escaped b) (flat_map escaped v) rest)
    ∙ next-escaped b (flat_map escaped v ++ rest) p.0 in
    let step = ap (run_on (run_for n) (flat_map escaped (b ∷ v) ++ rest)) read in
    step ∙ ap (λ r. (suc r.0, r.1)) (run_stops v rest n p.1 e (omega arith))

-- what has been read so far of what stands behind the opening quote
pub record Read (text rest : List ℕ) (len : ℕ) : Type 0 where
  pub value : List ℕ
  pub plain : has_text_bytes value ≡ true
  pub split : text ≡ flat_map escaped value ++ rest
  pub many : length value ≡ len

pub read_none : (text : List ℕ) → Read text text 0
read_none text = record { value = []; plain = refl; split = refl; many = refl }

pub read_more : (text rest others : List ℕ) (b len : ℕ) → Some (b, others) ≡ next_byte rest
    → Read text rest len → Read text others (len + 1)
read_more text rest others b len e r =
    let f = found-next rest others b (sym e) in
    record {
      value = r.value ++ b ∷ [];
      plain = plain-more r.value b r.plain f.1;
      split = text-more r.value text rest others b r.split f.0;
      many = length-append r.value (b ∷ []) ∙ ap (λ n. n + 1) r.many;
    }

escaped_some : (b : ℕ) → 1 ≤ length (escaped b)
escaped_some b = grind (arith, nat_tests)

pub value_short : (v : List ℕ) → length v ≤ length (flat_map escaped v)
value_short [] = omega arith
value_short (b ∷ v) = omega (
  arith,
  value_short v,
  escaped_some b,
  length-append (escaped b)
      (flat_map escaped v),
)

pub read_end : (text rest : List ℕ) (len : ℕ) → Read (drop 1 text) rest len → None ≡ next_byte rest
    → quote_end (length text - length rest) len rest ≡ quoted_front text
read_end text rest len r e =
    let fits : length r.value ≤ length (drop 1 text) =
    omega (
      arith,
      value_short r.value,
      ap length r.split,
      length-append (flat_map escaped r.value)
          rest,
    ) in
    let runs = ap (run_for (length (drop 1 text))) r.split ∙ run_stops r.value rest (length (drop 1 text))
    r.plain (sym e) fits in
    sym (ap (quoted_run text) runs ∙ ap (λ n. quote_end (length text - length rest) n rest) r.many)

pub end_cuts : (text rest : List ℕ) (before n : ℕ) → IsUtf8 text → 0 < length text
    → drop before text ≡ rest → before + length rest ≡ length text → CutsAt text (quote_end before n rest)
end_cuts text [] before n u some e l = some
end_cuts text (b ∷ rest) before n u some e l =
    elim (b == 34) as (λ t. (b == 34) ≡ t → CutsAt text
    (if t then (if nat_le n 4096 then front.Lexeme (before + 1) token.Quoted else front.Wrong 0
    fault.TextLong) else if (b == 92) && nat_lt 0 (length rest) then front.Wrong before fault.BadEscape
    else front.Wrong 0 fault.TextOpen)) [
      | true ↦ λ is. elim (nat_le n 4096) as (λ t. CutsAt text
          (if t then front.Lexeme (before + 1) token.Quoted else front.Wrong 0 fault.TextLong)) [
            | true ↦ (omega arith, IsCharBoundary-after_ascii text before u (omega (arith, l)) (low is))
            | false ↦ some
          ]
      | false ↦ λ is. elim ((b == 92) && nat_lt 0 (length rest)) as (λ t. CutsAt text
          (if t then front.Wrong before fault.BadEscape else front.Wrong 0 fault.TextOpen))
          [ true ↦ omega (arith, l) | false ↦ some ]
    ] refl
  where
    quote : (b : ℕ) → (b == 34) ≡ true → b ≡ 34
    quote b is = grind (arith, nat_tests)

    low : (b == 34) ≡ true → get_or text before 0 < 128
    low is =
        let reads : get_or text before 0 ≡ b = ap (λ n. get_or text n 0) (omega arith)
        ∙ sym (get_or-drop before text 0 0) ∙ ap (λ (l : List ℕ). get_or l 0 0) e in
        omega (arith, quote b is, reads)

rest_at : (text front rest : List ℕ) → drop 1 text ≡ front ++ rest → 0 < length text
    → drop (length text - length rest) text ≡ rest
rest_at [] front rest e l = absurd (let no : ⊥ = omega arith in no)
rest_at (b ∷ bs) front rest e l =
    let n : length (b ∷ bs) - length rest ≡ suc (length front) =
    omega (arith, ap length e, length-append front rest) in
    ap (λ k. drop k (b ∷ bs)) n ∙ ap (drop (length front)) e ∙ drop-append_seam front rest

pub read_cuts : (text rest : List ℕ) (len : ℕ) → IsUtf8 text → len + length rest < length text
    → Read (drop 1 text) rest len → CutsAt text (quote_end (length text - length rest) len rest)
read_cuts text rest len u small r =
    end_cuts text rest (length text - length rest) len u (omega (arith, small))
    (rest_at text (flat_map escaped r.value) rest r.split (omega (arith, small))) (omega (arith, small))
