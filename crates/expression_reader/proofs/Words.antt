-- The words that have a meaning behind `.` and `combine` have two to six letters.
use Rattle.std.proofs.Common.{◌≡◌, ◌≢◌, ℕ, length, List, ◌∷◌, [], true, false, refl, sym, ap, codes}
use Rattle.std.specs.Prelude.{Bool, eqb}
use Rattle.std.specs.List.{list_any}
use Rattle.std.specs.Str.{bytes_eq}
use Rattle.std.proofs.lemmas.Slice.Eq.{bytes_eq-Decides}
use Rattle.expression_reader.specs.Terminals.{word}
use Rattle.expression_reader.specs.declared.terminal.Terminal.TheVariants as t

other : (text letters : List ℕ) → length text ≢ length letters → bytes_eq text letters ≡ false
other text letters h = elim (bytes_eq text letters) as (λ b. bytes_eq text letters ≡ b → b ≡ false) [
  | true ↦ λ d. absurd (h (ap length ((bytes_eq-Decides text letters).0 d)))
  | false ↦ λ d. refl
] refl

pub plain_word : (text : List ℕ) → length text ≢ 2 → length text ≢ 3 → length text ≢ 4 →
    length text ≢ 6 → t.Word ≡ word text
unfolding word
plain_word text b c d f = cc (
  other text (codes "now") c,
  other text (codes "pre") c,
  other text (codes "nowval") f,
  other text (codes "preval") f,
  other text (codes "plus") d,
  other text (codes "min") c,
  other text (codes "max") c,
  other text (codes "and") c,
  other text (codes "or") b,
)
