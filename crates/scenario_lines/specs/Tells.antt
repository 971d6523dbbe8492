-- An answer that tells whether something meets a condition, and what. (This project's own.)
use Rattle.std.specs.Prelude.{◌≡◌, Option, Some, IfSome}

-- what the option has meets the condition, and nothing else does
pub record Tells {X : Type 0} (Is : X → Type 0) (o : Option X) : Type 0 where
  pub found : IfSome o Is
  pub only : (x : X) → Is x → o ≡ Some x
