use Rattle.std.proofs.Common.{ℕ, List, length, map, sym, ap, ◌∙◌}
use Rattle.std.specs.Borrow.{Bor}
use Rattle.std.specs.Prelude.{slice_get}
use Rattle.module_tree.specs.Callables.{modules_of}
use Rattle.module_tree.specs.declared.source.ModuleNode.{ModuleNode}
use Rattle.kernel_expand.specs.Expansion.{bodies_of, main_interface}
use Rattle.statement_build.specs.Building.{numbered_of}
use Rattle.kernel_build.proofs.Accepting.{is_written}
use Rattle.kernel_build.proofs.expand.write.Goals as goal

pub returns-clause-written : goal.returns-clause-written
returns-clause-written c =
    let now : Bor (ModuleNode ℕ) → ModuleNode ℕ = λ m. m.now in
    let same = ap (map now) (c.deref.ensures.value ∙ sym c.deref-2.ensures.value) in
    is_written c.args.linked.now (map now c.deref-2.result.now) c.into_lists-signals.result.0.items
    c.in_ok-interface.interface c.in_ok-bodies.bodies.items c.into_lists-signals.result.1.items c.in_ok-term.term
    (numbered_of c.in_ok-term.builder)
    (ap (map now) c.deref-2.ensures.value ∙ c.in_ok-modules.ensures ∙ ap modules_of c.parts-2.ensures.parts)
    c.in_ok-term.ensures c.into_lists-signals.ensures.signals
    (c.in_ok-interface.ensures ∙ ap length (c.interface.ensures
    ∙ ap (λ (zs : List (ModuleNode ℕ)). main_interface (slice_get zs 0)) same))
    (c.in_ok-bodies.ensures ∙ ap bodies_of c.parts.ensures.parts) c.into_lists-signals.ensures.sites

pub returns-clause-linked : goal.returns-clause-linked
returns-clause-linked c = c.parts.ensures.linked
