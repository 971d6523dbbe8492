-- What a job that adds does to the history of additions. (This project's own.)
use Rattle.std.specs.Prelude.{◌≡◌, ℕ, List, [], ◌∷◌, ◌++◌}
use Rattle.std.specs.List.{sum}

-- the number was added, and the answer is the sum with it
pub record IsAdded (number : ℕ) (before after : List ℕ) (answer : ℕ) : Type 0 where
  pub entry : after ≡ before ++ number ∷ []
  pub total : answer ≡ sum after
