-- The value of a quoted text is the one that it spells.
use Rattle.std.proofs.Common.{◌≡◌, ℕ, zero, suc, ◌≤◌, true, List, [], ◌∷◌, ◌++◌, length, None, refl, ap, ◌∙◌}
use Rattle.std.proofs.Common.{arith, append_assoc, length-append}
use Rattle.std.specs.List.{flat_map}
use Rattle.hh_base.specs.Literal.{escaped, next_byte, quoted}
use Rattle.hh_base.specs.Text.{has_text_bytes, IsText}
use Rattle.hh_base.proofs.Quotes.{next-escaped}
use Rattle.module_token.specs.Value.{value_for, value_step, quoted_value}
use Rattle.module_token.proofs.Quotes.{value_short}
use Rattle.module_token.proofs.Basics.{and_true}

value_read : (v rest : List ℕ) (n : ℕ) → has_text_bytes v ≡ true → next_byte rest ≡ None → length v ≤ n
    → value_for n (flat_map escaped v ++ rest) ≡ v
value_read [] rest zero h e l = refl
value_read [] rest (suc n) h e l = ap (value_step (value_for n)) e
value_read (b ∷ v) rest zero h e l = absurd (let never : ⊥ = omega arith in never)
value_read (b ∷ v) rest (suc n) h e l =
    let p = and_true _ _ h in
    let read = ap next_byte (append_assoc (escaped b) (flat_map escaped v) rest)
    ∙ next-escaped b (flat_map escaped v ++ rest) p.0 in
    ap (value_step (value_for n)) read ∙ ap (λ l. b ∷ l) (value_read v rest n p.1 e (omega arith))

pub value_of_quoted : (v text : List ℕ) → IsText v → text ≡ quoted v → quoted_value text ≡ v
unfolding quoted_value
value_of_quoted v text h e = ap quoted_value e ∙ value_read v (34 ∷ []) (length (quoted v)) h.bytes refl
    (omega (arith, value_short v, length-append (flat_map escaped v) (34 ∷ [])))
