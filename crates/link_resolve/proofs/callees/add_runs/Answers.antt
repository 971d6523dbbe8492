use Rattle.std.proofs.Common.{[], ◌∷◌, ◌++◌, ℕ, sym, ap, ◌∙◌, append-nil}
use Rattle.module_tree.specs.declared.source.Part.{Part}
use Rattle.module_tree.specs.Runs.{runs_of}
use Rattle.link_resolve.proofs.Adding.{module_added}
use Rattle.link_resolve.proofs.callees.add_runs.Goals as goal

pub returns-in-Body : goal.returns-in-Body
returns-in-Body c =
    let old = c.args.runs.now.items in
    sym (append-nil old) ∙ ap (λ (t : Part ℕ). old ++ runs_of (t ∷ [])) (sym c.in-Body.is)

pub returns-in-Host : goal.returns-in-Host
returns-in-Host c =
    let old = c.args.runs.now.items in
    sym (append-nil old) ∙ ap (λ (t : Part ℕ). old ++ runs_of (t ∷ [])) (sym c.in-Host.is)

pub returns-in_ok-push-in-Module : goal.returns-in_ok-push-in-Module
returns-in_ok-push-in-Module c = module_added c.args.runs.now.items c.push.new.self.items c.in-Module.node
    c.in_ok-callees_of-in-Module.field-0 c.args.part.now c.in-Module.is c.in_ok-callees_of-in-Module.ensures
    c.in_ok-push-in-Module.ensures.items
