use Rattle.std.proofs.Common.{refl, sym, ◌∙◌, ap}
use Rattle.std.specs.Prelude.{option_map}
use Rattle.std.proofs.lemmas.List.{append-nil}
use Rattle.module_tree.specs.Parts.{Start}
use Rattle.link_faults.specs.Faults.{earlier}
use Rattle.link_faults.specs.Named.{signature_named}
use Rattle.link_faults.specs.Meanings.{meaning_of, kind_of_parameter}
use Rattle.link_faults.specs.CallableTables.{callable}
use Rattle.link_faults.specs.RunFaults.{first_start}
use Rattle.link_faults.proofs.WalkLaws.{follows_here, found_where}
use Rattle.link_faults.proofs.walk.Walker.start.Goals as goal

pub returns : goal.returns
returns c =
    let old = c.args.self.now in
    let a = c.args.node.now in
    let parts = c.args.text.now.parts.now in
    let meant = option_map callable (signature_named parts a.body.name) in
    follows_here parts (Start a) old (record old { first = c.earlier-self.result }) refl refl
    (sym (append-nil old.runs))
    (λ scope s. c.earlier-self.ensures ∙ ap (earlier old.first) (c.first_start-found.ensures
    ∙ ap (first_start (meaning_of old.names) (kind_of_parameter old.names) a) c.callable_of.ensures
    ∙ found_where (λ m args. first_start m args a meant) scope old s))
