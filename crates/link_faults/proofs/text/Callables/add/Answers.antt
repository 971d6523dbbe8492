use Rattle.std.proofs.Common.{List, [], ◌∷◌, ◌++◌, sym, ◌∙◌, ap, subst, map, length}
use Rattle.std.proofs.lemmas.List.{length-map, map-append}
use Rattle.module_tree.specs.Callables.{Signature}
use Rattle.link_faults.specs.declared.text.Callable.{Callable}
use Rattle.link_faults.specs.declared.fault.LinkKind.TheVariants as fault
use Rattle.link_faults.specs.NameTables.{IsTable}
use Rattle.link_faults.specs.CallableTables.{callable, name_of_callable}
use Rattle.link_faults.proofs.text.Callables.add.Goals as goal

pub returns : goal.returns
returns c = λ before known.
    let one : Signature = record {
      pos = c.args.pos;
      name = c.args.name.now;
      parameters = c.args.callable.parameters;
      answer = c.args.callable.answer;
    } in
    record {
      all = c.in_ok-push.ensures.ok ∙ ap (λ (cs : List Callable). cs ++ c.args.callable ∷ []) known.all
          ∙ sym (map-append callable before (one ∷ []));
      names = subst (λ ns. IsTable fault.TwiceDeclared ns c.declare.new.self)
          (sym (map-append name_of_callable before (one ∷ [])))
          (c.in_ok-declare.ensures fault.TwiceDeclared (map name_of_callable before) known.names
          (c.len.ensures ∙ ap length known.all ∙ length-map before callable
          ∙ sym (length-map before name_of_callable)));
    }
