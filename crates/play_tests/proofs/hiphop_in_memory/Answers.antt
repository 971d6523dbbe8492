use Rattle.play_tests.proofs.Calls.{obeys, log, summed, complete, quiet}
use Rattle.play_tests.proofs.hiphop_in_memory.Goals as goal

obeyed : goal.returns-clause-obeys
obeyed g c = obeys _ _ _ _ _ _ _ _ _ c.new-source.ensures c.new-sink.ensures c.into_bytes.ensures c.hiphop-cause.ensures

pub returns-clause-obeys : goal.returns-clause-obeys
returns-clause-obeys g c = obeyed g c

pub returns-clause-log : goal.returns-clause-log
returns-clause-log g c = log _ _ _ _ _ (obeyed g c)

pub returns-clause-summed : goal.returns-clause-summed
returns-clause-summed g c = summed _ _ _ _ _ (obeyed g c)

pub returns-clause-complete : goal.returns-clause-complete
returns-clause-complete g c = complete _ _ _ _ _ (obeyed g c)

pub returns-clause-no_read_fault : goal.returns-clause-no_read_fault
returns-clause-no_read_fault g c = (quiet _ _ _ _ _ (obeyed g c)).0

pub returns-clause-no_write_fault : goal.returns-clause-no_write_fault
returns-clause-no_write_fault g c = (quiet _ _ _ _ _ (obeyed g c)).1
