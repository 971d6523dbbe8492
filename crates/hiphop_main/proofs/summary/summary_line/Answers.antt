use Rattle.std.proofs.Common.{◌∙◌, append_assoc}
use Rattle.hiphop_main.proofs.summary.summary_line.Goals as goal

pub returns : goal.returns
returns c = c.in_ok-format.ensures.ok ∙ simp append_assoc
