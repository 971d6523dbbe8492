use Rattle.run_graph.proofs.RootLemmas.{callees_come_first}
use Rattle.run_graph.proofs.components.components_of.Goals as goal

pub returns-clause-order : goal.returns-clause-order
returns-clause-order c = callees_come_first c.args.runs.now c.in_ok-callees_first.callees_first
    c.in_ok-callees_first.ensures.order c.in_ok-callees_first.ensures.all
