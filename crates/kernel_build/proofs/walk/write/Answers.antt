use Rattle.std.proofs.Common.{◌∙◌, sym, ap}
use Rattle.statement_build.specs.Levels.{tail}
use Rattle.kernel_build.proofs.walk.write.Goals as goal

pub returns : goal.returns
returns c = λ n. c.in_ok-found.ensures.means n ∙ ap (tail n) (sym c.in_ok-body.ensures)
