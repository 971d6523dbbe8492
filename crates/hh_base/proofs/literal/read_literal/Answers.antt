use Rattle.std.proofs.Common.{◌≡◌, ℕ, true, false, List, Option, Some, None, ◌∙◌, inl, inr}
use Rattle.std.specs.Prelude.{ℤ}
use Rattle.hh_base.specs.declared.value.Value.{Value}
use Rattle.hh_base.specs.declared.value.Value.TheVariants as value
use Rattle.hh_base.specs.Text.{IsText}
use Rattle.hh_base.specs.Literal.{IsWord, IsInteger, IsLiteral, quoted}
use Rattle.hh_base.proofs.literal.read_literal.Goals as goal

-- what is neither a word nor an integer nor a quoted text is no literal
no_literal : (bs : List ℕ) (v : Value) → (IsWord bs → ⊥) → ((n : ℤ) → IsInteger bs n → ⊥)
    → ((t : List ℕ) → IsText t → bs ≡ quoted t → ⊥) → IsLiteral bs v → ⊥
no_literal bs value.Unit word integer text h = word (inl h)
no_literal bs (value.Int n) word integer text h = integer n h
no_literal bs (value.Bool true) word integer text h = word (inr (inl h))
no_literal bs (value.Bool false) word integer text h = word (inr (inr h))
no_literal bs (value.Text t) word integer text h = text t h.0 h.1

not_both : {A : Type 0} (o : Option A) (x : A) → o ≡ None → o ≡ Some x → ⊥
not_both o x p q = cc

pub returns-in-None-clause-only : goal.returns-in-None-clause-only
returns-in-None-clause-only c v h =
    let no_integer =
    λ (n : ℤ) (is : IsInteger c.args.text.now n). not_both _ n c.in_default-read_integer.is
    (c.read_integer.ensures.only n is) in
    let no_text =
    λ (t : List ℕ) (plain : IsText t) (is : c.args.text.now ≡ quoted t). not_both _ t c.in-None.is
    (c.in_ok-text.ensures.only t plain (c.as_bytes.ensures.value ∙ is)) in
    absurd (no_literal c.args.text.now v c.in_default.ensures.none no_integer no_text h)
