use Rattle.std.proofs.Common.{◌≡◌, map, take}
use Rattle.module_tree.specs.Callables.{modules_of}
use Rattle.link_faults.specs.Earliest.{first_by}
use Rattle.link_verdict.specs.Declarations.{first_in_declaration, placed_runs}
use Rattle.link_verdict.proofs.modules.over_declarations.Given as goal

abbrev pub invariant-parts : goal.invariant-parts
invariant-parts l = record {
  first : l.found.first ≡ first_by (first_in_declaration l.text.parts.now) (take l.part-index l.text.parts.now);
  runs : l.found.runs.items ≡ map (placed_runs l.text.parts.now)
      (modules_of (take l.part-index l.text.parts.now));
}
