use Rattle.hh_base.proofs.Utf8.{IsText-nil}
use Rattle.hh_base.proofs.text.Text.empty.Goals as goal

pub invariant_of-result : goal.invariant_of-result
invariant_of-result c = rw c.new.ensures.bytes IsText-nil
