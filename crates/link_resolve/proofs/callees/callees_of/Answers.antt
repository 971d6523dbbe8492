use Rattle.std.proofs.Common.{[], ◌++◌, List, ℕ, length, ◌∙◌, ap}
use Rattle.module_tree.specs.Scopes.{InScope, Declared, interface_signals}
use Rattle.module_tree.specs.Parts.{block_walk}
use Rattle.link_resolve.specs.CalleesAdded.{callees_in}
use Rattle.link_resolve.proofs.callees.callees_of.Goals as goal

pub returns : goal.returns
returns c =
    let m = c.args.node.now in
    let scope : InScope = record { signals = interface_signals m.interface; traps = [] } in
    let before : Declared = record { signals = length m.interface; traps = 0 } in
    c.in_ok-add_of_block.ensures.added scope before
    ∙ ap (λ (ms : List ℕ). ms ++ callees_in (block_walk m.block scope before).parts) c.new-callees.ensures
