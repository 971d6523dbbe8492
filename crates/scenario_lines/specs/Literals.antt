-- Ids and values, as a scenario writes them. (This project's own.)
use Rattle.std.specs.Prelude.{◌≡◌, ℕ, ◌<◌, ◌^◌, true, List}
use Rattle.std.specs.Str.{is_utf8}
use Rattle.hh_base.specs.declared.value.Value.{Value}
use Rattle.hh_base.specs.Literal.{IsNumber, IsLiteral}

-- an id: a run of digits within 64 bits
pub record IsId (bs : List ℕ) (n : ℕ) : Type 0 where
  pub number : IsNumber bs n
  pub small : n < 2 ^ 64

-- the literal of a value, or `unit`
pub record IsValue (bs : List ℕ) (v : Value) : Type 0 where
  pub utf8 : is_utf8 bs ≡ true
  pub literal : IsLiteral bs v
