-- The answers that wait for one instance, first in, first out: only the end may be last. (This project's
-- own, after the answers of
-- HipHop.js's async.)
use Rattle.std.specs.Prelude.{◌-◌, Bool, true, false, not, ◌&&◌, Some, None, List, [], ◌∷◌, length, slice_get}
use Rattle.hh_base.specs.declared.item.Item.{Item}

-- the queue ends with a last item
abbrev pub ends_with_last : List Item → Bool
ends_with_last queue = (elim (slice_get queue (length queue - 1)) [ Some a ↦ a.last | None ↦ false ])

-- no item before the end is last
abbrev pub only_end_is_last : List Item → Bool
only_end_is_last [] = true
only_end_is_last (a ∷ []) = true
only_end_is_last (a ∷ b ∷ rest) = not a.last && only_end_is_last (b ∷ rest)
