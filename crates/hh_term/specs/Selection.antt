-- Where control rests between two reactions. (Berry's marked terms; the marks of async and the last
-- status and value in a
-- local's mark are this project's own.)
use Rattle.std.specs.Prelude.{ℕ, Bool, List}
use Rattle.hh_base.specs.declared.value.Value.{Value}
use Rattle.hh_base.specs.declared.item.Item.{Item}

pub data Selection : Type 0 where
  AtPause : Selection
  AtAsync : (id : ℕ) (args : List Value) (queue : List Item) (suspended : Bool) → Selection
  First : (m : Selection) → Selection
  Second : (m : Selection) → Selection
  Both : (m n : Selection) → Selection
  Inside : (m : Selection) → Selection
  Scope : (m : Selection) (status : Bool) (val : Value) → Selection

-- a program has not started, its control rests somewhere, or it has ended
pub data Control : Type 0 where
  Fresh : Control
  At : (m : Selection) → Control
  Ended : Control

-- a statement is started, or resumed where its control rests
pub data Task : Type 0 where
  Start : Task
  Resume : (m : Selection) → Task
