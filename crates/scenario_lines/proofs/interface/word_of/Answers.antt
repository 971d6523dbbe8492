use Rattle.std.proofs.Common.{subst}
use Rattle.std.specs.Str.{IsUtf8}
use Rattle.scenario_lines.proofs.Words.{word_from_name}
use Rattle.scenario_lines.proofs.interface.word_of.Goals as goal

pub returns-clause-word : goal.returns-clause-word
returns-clause-word c =
    word_from_name c.args.name.now (subst IsUtf8 c.as_str.ensures.text c.as_str.utf8) c.as_str.ensures.valid
