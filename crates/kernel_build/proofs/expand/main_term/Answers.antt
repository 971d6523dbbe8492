use Rattle.std.proofs.Common.{ℕ, length, map, sym}
use Rattle.std.specs.Borrow.{Bor}
use Rattle.std.proofs.lemmas.List.{length-map}
use Rattle.module_tree.specs.declared.source.ModuleNode.{ModuleNode}
use Rattle.hh_term.specs.Placed.{placed_term}
use Rattle.statement_build.specs.Building.{numbered_of}
use Rattle.kernel_build.proofs.Accepting.{is_main}
use Rattle.kernel_build.proofs.expand.main_term.Goals as goal

pub returns : goal.returns
returns c =
    let now : Bor (ModuleNode ℕ) → ModuleNode ℕ = λ m. m.now in
    let start = numbered_of c.in_ok-builder.builder in
    is_main (map now c.args.modules.now) (length c.args.modules.now) c.interface.result.now start
    (placed_term c.in_ok-term.term, numbered_of c.write.new.builder)
    (sym (length-map c.args.modules.now now)) c.interface.ensures c.in_ok-builder.ensures
    (c.in_ok-term.ensures start)
