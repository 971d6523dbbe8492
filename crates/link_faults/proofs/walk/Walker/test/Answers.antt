use Rattle.std.proofs.Common.{refl, sym, ◌∙◌, ap}
use Rattle.std.proofs.lemmas.List.{append-nil}
use Rattle.hh_base.specs.declared.value.Kind.TheVariants as kind
use Rattle.module_tree.specs.Parts.{Test}
use Rattle.link_faults.specs.Faults.{earlier}
use Rattle.link_faults.specs.PartFaults.{kinds_by, first_expected}
use Rattle.link_faults.proofs.WalkLaws.{follows_here, found_where}
use Rattle.link_faults.proofs.walk.Walker.test.Goals as goal

pub returns : goal.returns
returns c =
    let old = c.args.self.now in
    let x = c.args.x.now in
    follows_here c.args.text.now.parts.now (Test x) old (record old { first = c.earlier-self.result }) refl refl
    (sym (append-nil old.runs))
    (λ scope s. c.earlier-self.ensures ∙ ap (earlier old.first) (c.first_expected-found.ensures
    ∙ found_where (λ m args. first_expected (kinds_by m) args kind.Bool x) scope old s))
