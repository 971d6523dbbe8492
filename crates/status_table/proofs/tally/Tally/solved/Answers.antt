use Rattle.status_table.proofs.tally.Tally.solved.Goals as goal

pub returns-clause-status : goal.returns-clause-status
returns-clause-status c = λ w m d e. c.status-status.ensures c.args.kind w m d e
