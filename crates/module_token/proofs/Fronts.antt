-- What stands at the front of a text, by its first character.
use Rattle.std.proofs.Common.{◌≡◌, ◌≢◌, ℕ, false, List, ◌∷◌, refl, arith}
use Rattle.std.specs.Prelude.{◌==◌}
use Rattle.std.specs.Char.{is_ascii_digit}
use Rattle.std.proofs.lemmas.Bool.Decides.{nat_tests}
use Rattle.hh_base.specs.Name.{starts_word}
use Rattle.module_token.specs.Gap.{is_blank}
use Rattle.module_token.specs.Front.{front_by, sign_front}

no_quote : (c : ℕ) → c ≢ 34 → (c == 34) ≡ false
no_quote c h = grind (arith, nat_tests)

pub front_sign : (c : ℕ) (cs text : List ℕ) → is_blank c ≡ false → is_ascii_digit c ≡ false → c ≢ 34
    → starts_word c ≡ false → front_by (c ∷ cs) text ≡ sign_front text
front_sign c cs text a b q d = rw (a, b, no_quote c q, d) refl
