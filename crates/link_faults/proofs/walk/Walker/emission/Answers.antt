use Rattle.std.proofs.Common.{refl, sym, ◌∙◌, ap}
use Rattle.std.proofs.lemmas.List.{append-nil}
use Rattle.module_tree.specs.Parts.{Emission}
use Rattle.link_faults.specs.Faults.{earlier}
use Rattle.link_faults.specs.PartFaults.{first_emission}
use Rattle.link_faults.proofs.WalkLaws.{follows_here, found_where}
use Rattle.link_faults.proofs.walk.Walker.emission.Goals as goal

pub returns : goal.returns
returns c =
    let old = c.args.self.now in
    let n = c.args.signal.now in
    let value = c.args.value.now in
    follows_here c.args.text.now.parts.now (Emission n value) old (record old { first = c.earlier-self.result })
    refl refl (sym (append-nil old.runs))
    (λ scope s. c.earlier-self.ensures ∙ ap (earlier old.first) (c.first_emission-found.ensures
    ∙ found_where (λ m args. first_emission m args n value) scope old s))
