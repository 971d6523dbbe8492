use Rattle.std.proofs.Common.{◌≡◌, ◌∙◌, ap}
use Rattle.link_faults.specs.Faults.{earlier}
use Rattle.link_faults.specs.Earliest.{first_at}
use Rattle.link_faults.specs.Rows.{here_if}
use Rattle.link_faults.specs.NameTables.{has_name}
use Rattle.link_faults.proofs.TableLaws.{declared_one}
use Rattle.link_faults.proofs.table.Table.declare.Goals as goal

pub returns : goal.returns
returns c =
    let old = c.args.self.now in
    let found = c.in_ok-add.ensures.found in
    let first : c.earlier-self.result ≡ earlier old.first (first_at old.twice (here_if
    (has_name old c.args.name.now) c.args.pos)) =
    c.earlier-self.ensures ∙ ap (λ o. earlier o c.fault_if-twice.result) c.add.ensures.first
    ∙ ap (earlier old.first) (c.fault_if-twice.ensures
    ∙ ap (λ b. first_at old.twice (here_if b c.args.pos)) c.has.ensures) in
    λ k names table at. declared_one k names (record { pos = c.args.pos; name = c.args.name.now })
    c.args.place old (record c.add.new.self { first = c.earlier-self.result }) table at found
    c.add.ensures.twice first
