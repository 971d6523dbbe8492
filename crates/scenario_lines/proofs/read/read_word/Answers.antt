use Rattle.scenario_lines.specs.Lines.{parts_of}
use Rattle.scenario_lines.proofs.Forms.{no_command}
use Rattle.scenario_lines.proofs.read.read_word.Goals as goal

pub returns-in-None-clause-line : goal.returns-in-None-clause-line
returns-in-None-clause-line c =
    no_command c.args.mode c.args.index.now c.args.word.now (parts_of c.args.rest.now) c.in-None.ensures.only
