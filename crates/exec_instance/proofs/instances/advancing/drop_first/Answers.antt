use Rattle.std.proofs.Common.{◌≡◌, Option, Some, None, List, [], ◌∷◌, ◌++◌, drop, refl, sym, ◌∙◌, ap}
use Rattle.std.specs.Prelude.{IfNone}
use Rattle.std.specs.Option.{option_to_list}
use Rattle.hh_base.specs.declared.item.Item.{Item}
use Rattle.exec_instance.proofs.instances.advancing.drop_first.Goals as goal

first_off : (old new : List Item) (taken : Option Item) → old ≡ option_to_list taken ++ new → IfNone taken (old ≡ []) → new ≡ drop 1 old
first_off old new (Some a) e none = sym (ap (drop 1) e)
first_off old new None e none = sym e ∙ none ∙ sym (ap (drop 1) none)

pub returns : goal.returns
returns c = first_off c.args.queue.now c.pop.new.self c.pop.result c.pop.ensures.first c.pop.ensures.none
