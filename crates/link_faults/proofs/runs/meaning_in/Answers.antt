use Rattle.std.proofs.Common.{Some, None, ◌∙◌, ap, sym}
use Rattle.std.specs.Prelude.{option_map}
use Rattle.std.specs.Option.{option_copied}
use Rattle.link_faults.specs.Meanings.{node_meaning}
use Rattle.link_faults.proofs.RunLaws.{meant_in_interface}
use Rattle.link_faults.proofs.runs.meaning_in.Goals as goal

pub returns-in-None : goal.returns-in-None
returns-in-None c = λ k table. meant_in_interface k c.args.interface.now c.args.table.now c.args.name.now None
    table (sym c.in-None.is ∙ c.place.ensures)

pub returns-in-None-at : goal.returns-in-None-at
returns-in-None-at c = λ k table.
    ap (option_map node_meaning) (sym (sym c.at.ensures ∙ ap option_copied c.in-None-at.is))
    ∙ meant_in_interface k c.args.interface.now c.args.table.now c.args.name.now (Some c.in-Some.place) table
    (sym c.in-Some.is ∙ c.place.ensures)

pub returns-in-Some-at : goal.returns-in-Some-at
returns-in-Some-at c = λ k table.
    ap (λ m. Some m) c.meaning.ensures
    ∙ ap (option_map node_meaning) (sym (sym c.at.ensures ∙ ap option_copied c.in-Some-at.is))
    ∙ meant_in_interface k c.args.interface.now c.args.table.now c.args.name.now (Some c.in-Some.place) table
    (sym c.in-Some.is ∙ c.place.ensures)
