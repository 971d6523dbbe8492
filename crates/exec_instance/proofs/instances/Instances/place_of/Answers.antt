use Rattle.std.proofs.Common.{rules}
use Rattle.std.proofs.lemmas.Fn.{always_returns_same}
use Rattle.exec_instance.specs.declared.instance.Instance.{Instance}
use Rattle.exec_instance.proofs.Holding.{found_place}
use Rattle.exec_instance.proofs.instances.Instances.place_of.Goals as goal

pub returns : goal.returns
returns c =
    found_place c.args.self.now c.self.inside.last c.args.id c.self.inside.running.items c.deref.result.now c.binary_search_by_key.result c.ok.result
    c.self.view_is c.self.invariant c.deref.ensures.value c.ok.ensures.value c.binary_search_by_key.ensures.bound
    (c.binary_search_by_key.ensures.position (λ (i : Instance). i.id) (always_returns_same _ _ _ (λ a r f k. search rules)))
