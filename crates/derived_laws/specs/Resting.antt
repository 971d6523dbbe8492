-- Where control may rest in a statement: at the marks that a start leaves, and then any number of resumes,
-- of holds by a suspend and of answers that enter. (This project's own, over Berry's marked terms.)
use Rattle.std.specs.Prelude.{◌≡◌, ℕ, Option, Some, None}
use Rattle.hh_base.specs.declared.item.Item.{Item}
use Rattle.host_expr.specs.Environment.{Env}
use Rattle.hh_term.specs.Statement.{Statement}
use Rattle.hh_term.specs.Selection.{Selection, Start, Resume}
use Rattle.hh_term.specs.Touches.{held_mark}
use Rattle.hh_term.specs.Entering.{with_item}
use Rattle.hh_term.specs.MustCan.{Table}
use Rattle.hh_term.specs.Step.{Stepped, step}

abbrev pub mark_after : Option Stepped → Option Selection
mark_after (Some a) = a.next
mark_after None = None

pub data RestsAt (T : Table) (p : Statement) : Selection → Type 0 where
  started : (E : Env) (n : Selection) → mark_after (step T p Start E) ≡ Some n → RestsAt T p n
  resumed : (m : Selection) → RestsAt T p m → (E : Env) (n : Selection)
      → mark_after (step T p (Resume m) E) ≡ Some n → RestsAt T p n
  held : (m : Selection) → RestsAt T p m → RestsAt T p (held_mark m)
  entered : (m : Selection) → RestsAt T p m → (id : ℕ) (a : Item) (n : Selection) → with_item id a m ≡ Some n
      → RestsAt T p n

-- the statement's mark round one at which its body rests
pub data Round (f : Selection → Selection) (T : Table) (p : Statement) : Selection → Type 0 where
  round : (m : Selection) → RestsAt T p m → Round f T p (f m)
