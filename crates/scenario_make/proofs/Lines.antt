-- Lines one behind the other.
use Rattle.std.proofs.Common.{◌≡◌, ◌∙◌, ℕ, ◌+◌, List, ◌++◌, ap, add-one, append_assoc}
use Rattle.scenario_make.specs.Make.{lines_up_to}

-- a text that lines were added to, and then the next one
pub one_more : (line : ℕ → List ℕ) (count : ℕ) (first before after added : List ℕ) → before ≡ first ++ lines_up_to count line
    → after ≡ before ++ added → added ≡ line (count + 1) → after ≡ first ++ lines_up_to (count + 1) line
unfolding lines_up_to
one_more line count first before after added so_far more next =
    rw add-one (more ∙ ap (λ t. t ++ added) so_far ∙ append_assoc first (lines_up_to count line) added
    ∙ ap (λ t. first ++ (lines_up_to count line ++ t)) next)
