use Rattle.std.proofs.Common.{refl, sym, ◌∙◌, ap}
use Rattle.std.specs.Prelude.{not, is_some}
use Rattle.std.proofs.lemmas.List.{append-nil}
use Rattle.module_tree.specs.Parts.{Exit}
use Rattle.link_faults.specs.declared.fault.LinkKind.TheVariants as fault
use Rattle.link_faults.specs.Faults.{earlier}
use Rattle.link_faults.specs.Earliest.{first_at}
use Rattle.link_faults.specs.Named.{trap_named}
use Rattle.link_faults.specs.Rows.{here_if}
use Rattle.link_faults.proofs.WalkLaws.{follows_here, trap_where, exit_alike}
use Rattle.link_faults.proofs.walk.Walker.exit.Goals as goal

pub returns : goal.returns
returns c =
    let old = c.args.self.now in
    let n = c.args.trap.now in
    follows_here c.args.text.now.parts.now (Exit n) old (record old { first = c.earlier-self.result }) refl refl
    (sym (append-nil old.runs))
    (λ scope s. c.earlier-self.ensures ∙ ap (earlier old.first) (c.fault_if-found.ensures
    ∙ ap (λ b. first_at fault.UnknownTrap (here_if (not b) n.pos)) (c.has_trap.ensures
    ∙ trap_where scope old s n.name) ∙ exit_alike n (not (is_some (trap_named scope n.name)))))
