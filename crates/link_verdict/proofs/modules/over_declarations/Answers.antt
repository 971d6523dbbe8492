use Rattle.std.proofs.Common.{◌∷◌, [], ◌++◌, map, take, refl, sym, ◌∙◌, ap}
use Rattle.std.proofs.lemmas.List.{map-append}
use Rattle.module_tree.specs.Callables.{modules_of}
use Rattle.link_faults.proofs.EarlierLaws.{first_by_step}
use Rattle.link_faults.proofs.TextLaws.{modules_more}
use Rattle.link_verdict.specs.Declarations.{first_in_declaration, placed_runs}
use Rattle.link_verdict.proofs.modules.over_declarations.Goals as goal

pub parts-preserved : goal.parts-preserved
parts-preserved c =
    let parts = c.args.text.now.parts.now in
    let i = c.parts.part-index in
    let x = c.part-item.result in
    record {
      first = first_by_step (first_in_declaration parts) parts i x c.parts.found.first c.add.new.self.first
          (first_in_declaration parts x) c.parts-test.true c.part-item.is c.parts.invariant.first refl
          c.in_ok-add.ensures.first;
      runs = c.in_ok-add.ensures.runs
          ∙ ap (λ rs. rs ++ map (placed_runs parts) (modules_of (x ∷ []))) c.parts.invariant.runs
          ∙ sym (map-append (placed_runs parts) (modules_of (take i parts)) (modules_of (x ∷ [])))
          ∙ ap (map (placed_runs parts)) (sym (modules_more parts i x c.parts-test.true c.part-item.is));
    }
