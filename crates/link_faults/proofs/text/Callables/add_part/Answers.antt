use Rattle.std.proofs.Common.{[], ◌∷◌, ◌++◌, ◌∙◌, ap, subst, map}
use Rattle.module_tree.specs.declared.source.ParameterNode.{ParameterNode}
use Rattle.link_faults.specs.CallableTables.{AreCallables}
use Rattle.link_faults.proofs.text.Callables.add_part.Goals as goal

pub returns-in_ok-add-in-Body : goal.returns-in_ok-add-in-Body
returns-in_ok-add-in-Body c = λ before known.
    let body = c.in-Body.body in
    let kinds = c.in_ok-kinds_of-in-Body.ensures
    ∙ ap (map (λ (p : ParameterNode). p.kind)) c.as_slice.ensures in
    rw c.in-Body.is (subst (λ ks. AreCallables (before ++ record {
      pos = body.pos;
      name = body.name;
      parameters = ks;
      answer = body.answer;
    } ∷ []) c.add.new.self) kinds (c.in_ok-add-in-Body.ensures before known))
