-- What a reaction of nets begins with. (This project's own.)
use Rattle.std.specs.Prelude.{ℕ, Bool, false, not, ◌==◌, Option, Some, None, List, get_or}
use Rattle.std.specs.List.{list_any}
use Rattle.hh_base.specs.declared.value.Value.{Value}
use Rattle.hh_base.specs.declared.value.Kind.{Kind}
use Rattle.hh_base.specs.declared.item.Item.{Item}
use Rattle.hh_base.specs.Value.{default_of}
use Rattle.host_expr.specs.declared.cell.SigCell.{SigCell}

-- the states of the registers, the signals' cells, of which the previous values are the last values, the
-- first item of the queue of each exec, and the inputs that were given, with their values
pub record Question : Type 0 where
  pub registers : List Bool
  pub cells : List SigCell
  pub answered : List (Option Item)
  pub given : List (ℕ × Value)

-- the state of a register
abbrev pub state_of : Question → ℕ → Bool
state_of Q r = get_or Q.registers r false

-- the first item of an exec
abbrev pub first_item : Question → ℕ → Option Item
first_item Q x = get_or Q.answered x None

abbrev pub is_last_item : Option Item → Bool
is_last_item (Some i) = i.last
is_last_item None = false

abbrev pub is_part_item : Option Item → Bool
is_part_item (Some i) = not i.last
is_part_item None = false

-- the item's value, or where there is none what a signal of the kind counts as
abbrev pub item_value : Kind → Option Item → Value
item_value k (Some i) = i.value
item_value k None = default_of k

abbrev pub is_given : Question → ℕ → Bool
is_given Q s = list_any (λ g. g.0 == s) Q.given
