use Rattle.std.proofs.Common.{◌∙◌, ap, arith}
use Rattle.std.proofs.lemmas.List.{take_all}
use Rattle.module_tree.specs.Runs.{runs_of}
use Rattle.link_resolve.proofs.Adding.{runs_more}
use Rattle.link_resolve.proofs.callees.runs_of.Goals as goal

pub parts-preserved : goal.parts-preserved
parts-preserved c = runs_more c.args.parts.now c.parts.part-index c.part-item.result c.parts.runs.items
    c.add_runs.new.runs.items c.parts-test.true c.part-item.is c.parts.invariant c.in_ok-add_runs.ensures

pub returns : goal.returns
returns c = c.parts.invariant ∙ ap runs_of (take_all c.parts.part-index c.args.parts.now (omega arith))
