use Rattle.random_tests.proofs.programs.+write_statement.Given as goal

abbrev pub decreases-write_statement : goal.decreases-write_statement
decreases-write_statement l = l.depth
