use Rattle.std.proofs.Common.{◌++◌, length, ◌∙◌, ap, subst}
use Rattle.std.specs.List.{flat_map}
use Rattle.module_tree.specs.Scopes.{Declared}
use Rattle.module_tree.specs.Parts.{parts_of}
use Rattle.link_faults.specs.Faults.{earlier}
use Rattle.link_faults.specs.Earliest.{first_by}
use Rattle.link_faults.specs.Walks.{first_placed, runs_placed, Stands}
use Rattle.link_verdict.specs.Declarations.{first_in_interface}
use Rattle.link_verdict.proofs.Interfaces.{interface_scope}
use Rattle.link_verdict.proofs.modules.over_module.Goals as goal

pub returns-clause-first : goal.returns-clause-first
returns-clause-first c =
    let parts = c.args.text.now.parts.now in
    let m = c.args.node.now in
    let before : Declared = record { signals = length m.interface; traps = 0 } in
    let stands : Stands (interface_scope m.interface) c.in_ok-walker.walker =
    subst (λ ds. Stands (interface_scope ds) c.in_ok-walker.walker) c.as_slice-2.ensures
    c.in_ok-walker.ensures.stands in
    let passed = c.in_ok-over_block.ensures.passes (interface_scope m.interface) before stands in
    c.earlier.ensures ∙ ap (λ o. earlier o c.over_block.new.walker.first)
    (c.in_ok-own.ensures ∙ ap first_in_interface c.as_slice.ensures)
    ∙ ap (earlier (first_in_interface m.interface)) (passed.first
    ∙ ap (λ o. earlier o (first_by (first_placed parts) (parts_of m))) c.in_ok-walker.ensures.first)

pub returns-clause-runs : goal.returns-clause-runs
returns-clause-runs c =
    let parts = c.args.text.now.parts.now in
    let m = c.args.node.now in
    let before : Declared = record { signals = length m.interface; traps = 0 } in
    let stands : Stands (interface_scope m.interface) c.in_ok-walker.walker =
    subst (λ ds. Stands (interface_scope ds) c.in_ok-walker.walker) c.as_slice-2.ensures
    c.in_ok-walker.ensures.stands in
    let passed = c.in_ok-over_block.ensures.passes (interface_scope m.interface) before stands in
    passed.runs ∙ ap (λ rs. rs ++ flat_map (runs_placed parts) (parts_of m)) c.in_ok-walker.ensures.runs
