-- The change of each running instance among the changes of a reaction.
use Rattle.std.specs.Prelude.{ℕ, Bool, ◌&&◌, ◌==◌, is_none, Option, option_map, List, find}
use Rattle.std.specs.BTreeMap.{BTreeMap, get}
use Rattle.std.specs.Borrow.{Bor}
use Rattle.std.specs.Ordering.{nat_cmp}
use Rattle.exec_instance.specs.declared.change.Change.{Change}

-- it is the change of a running instance with this id, and no start
abbrev pub is_of : ℕ → Change → Bool
is_of id c = is_none c.started && (c.id == id)

abbrev pub change_of : List Change → ℕ → Option Change
change_of changes id = find (is_of id) changes

-- changes by id
abbrev pub Index : Type 0
Index = BTreeMap ℕ (Bor Change)

abbrev pub found_in : Index → ℕ → Option Change
found_in index id = option_map (λ c. c.now) (get nat_cmp index id)
