use Rattle.term_machine.proofs.Standing.{stands, stands_from, ids_differ}
use Rattle.term_machine.proofs.laws.marks_are_the_running_instances.Goals as goal

pub returns-clause-from_begin : goal.returns-clause-from_begin
returns-clause-from_begin c = λ K last events. stands K last events

pub returns-clause-stays : goal.returns-clause-stays
returns-clause-stays c = λ S events s. stands_from S events s

pub returns-clause-differ : goal.returns-clause-differ
returns-clause-differ c = λ S s. ids_differ S s
