-- The test of evaluation for equal texts decides their equality.
use Rattle.std.proofs.Common.{◌≡◌, refl, sym, ℕ, Bool, true, false, Some, List}
use Rattle.std.proofs.lemmas.Slice.Eq.{bytes_eq-Decides}
use Rattle.std.specs.Prelude.{IsTrue, ◌↔◌}
use Rattle.std.specs.Str.{bytes_eq}
use Rattle.hh_base.specs.declared.value.Value.{Value}
use Rattle.hh_base.specs.declared.value.Value.TheVariants as value
use Rattle.host_expr.specs.Parts.{text_in}

pub bytes_decided : (r : Bool) (a b : List ℕ) → (IsTrue r ↔ (a ≡ b)) → r ≡ bytes_eq a b
bytes_decided true a b h = sym ((bytes_eq-Decides a b).1 (h.0 refl))
bytes_decided false a b h = by_test (bytes_eq a b) refl
  where
    by_test : (s : Bool) → bytes_eq a b ≡ s → false ≡ s
    by_test false e = refl
    by_test true e = let no = h.1 ((bytes_eq-Decides a b).0 e) in cc

-- a value in which a text was found is that text
pub text_is : (v : Value) (t : List ℕ) → Some t ≡ text_in v → v ≡ value.Text t
text_is value.Unit t h = cc
text_is (value.Int n) t h = cc
text_is (value.Bool b) t h = cc
text_is (value.Text s) t h = cc
