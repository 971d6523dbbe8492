-- An answer enters the mark of its instance. (This project's own, after the answers of HipHop.js's async.)
use Rattle.std.specs.Prelude.{◌≡◌, ℕ, Bool, not, cond, ◌&&◌, ◌==◌, Option, Some, None, IsSome, Result, Ok}
use Rattle.std.specs.Prelude.{Err, List, [], ◌∷◌, ◌++◌, option_map}
use Rattle.hh_base.specs.declared.item.Item.{Item}
use Rattle.hh_base.specs.Queue.{ends_with_last}
use Rattle.hh_term.specs.declared.mark.AsyncMark.{AsyncMark}
use Rattle.hh_term.specs.declared.mark.MarkEnd.{MarkEnd}
use Rattle.hh_term.specs.declared.mark.MarkEnd.TheVariants.{Refused, NoMemory}
use Rattle.hh_term.specs.Selection.{Selection, AtPause, AtAsync, First, Second, Both, Inside, Scope}
use Rattle.hh_term.specs.Selection.{Control, At}

-- an async mark with this id takes the item
abbrev pub takes : ℕ → ℕ → List Item → Bool
takes id held queue = held == id && not (ends_with_last queue)

-- the one of two marks that takes the item
abbrev pub of_either : Selection → Option Selection → Selection → Option Selection → Option Selection
of_either m (Some entered) n _ = Some (Both entered n)
of_either m None n entered = option_map (Both m) entered

-- the mark with the item at the end of the queue of the async mark that holds the id; none where no async
-- mark holds it, or where
-- its queue ends with a last item
abbrev pub with_item : ℕ → Item → Selection → Option Selection
with_item id a AtPause = None
with_item id a (AtAsync held args queue suspended) =
    cond (takes id held queue) (Some (AtAsync held args (queue ++ a ∷ []) suspended)) None
with_item id a (First m) = option_map First (with_item id a m)
with_item id a (Second m) = option_map Second (with_item id a m)
with_item id a (Both m n) = of_either m (with_item id a m) n (with_item id a n)
with_item id a (Inside m) = option_map Inside (with_item id a m)
with_item id a (Scope m b v) = option_map (λ k. Scope k b v) (with_item id a m)

abbrev pub control_with_item : ℕ → Item → Control → Option Control
control_with_item id a (At m) = option_map At (with_item id a m)
control_with_item id a _ = None

-- the same of an async mark of the code
abbrev pub async_with_item : ℕ → Item → AsyncMark → Option AsyncMark
async_with_item id a m = cond (takes id m.id m.queue) (Some (record m { queue = m.queue ++ a ∷ [] })) None

-- what is answered where `entered` is what there would be with the item: that is there after Ok; the item
-- is given back and all
-- is as before where it is refused, which is exactly where there is no such mark, and where memory ran out
abbrev pub Enters : {M A : Type 0} → Option M → M → Item → Result A MarkEnd → M → Type 0
Enters entered before a (Ok _) after = entered ≡ Some after
Enters entered before a (Err (Refused b)) after = (entered ≡ None) × (b ≡ a) × (after ≡ before)
Enters entered before a (Err (NoMemory b)) after = IsSome entered × (b ≡ a) × (after ≡ before)
