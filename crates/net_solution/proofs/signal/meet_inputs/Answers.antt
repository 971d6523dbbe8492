use Rattle.net_solution.proofs.signal.meet_inputs.Goals as goal

pub loop-given-init : goal.loop-given-init
loop-given-init c = c.new-tally.ensures c.args.kind c.args.word
