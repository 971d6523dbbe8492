use Rattle.std.proofs.Common.{rules, ◌++◌, ◌∙◌, ap, List, Bool}
use Rattle.std.specs.Prelude.{if◌then◌else◌}
use Rattle.exec_instance.specs.declared.instance.Instance.{Instance}
use Rattle.exec_instance.specs.Changes.{found_in}
use Rattle.exec_instance.specs.Effects.{after_change}
use Rattle.exec_instance.proofs.Advanced.{retained}
use Rattle.exec_instance.proofs.instances.advancing.finish.Goals as goal

pub returns : goal.returns
returns c =
    let stay = retained _ (λ (i : Instance). after_change i (found_in c.args.index.now i.id)) _ (λ x b t y called. search rules) c.args.running.now.items c.retain_mut.new.self.items c.retain_mut.ensures.filtered in
    c.append.ensures.items ∙ ap (λ (b : Bool). if b then c.retain_mut.new.self.items ++ c.args.born.items else c.retain_mut.new.self.items) c.if-is_err.ensures.negation
    ∙ ap (λ (is : List Instance). is ++ c.args.born.items) stay
