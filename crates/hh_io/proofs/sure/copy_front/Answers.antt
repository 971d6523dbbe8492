use Rattle.std.proofs.Common.{arith, length-take}
use Rattle.hh_io.proofs.ByteLaws.{drop-copied}
use Rattle.hh_io.proofs.sure.copy_front.Goals as goal

pub returns-clause-front : goal.returns-clause-front
returns-clause-front c =
    drop-copied c.args.bytes.now c.args.at c.min-count.result c.copy_from_slice.new.self _ c.copy_from_slice.ensures.after (omega (arith, c.copy_from_slice.ensures.len, length-take c.min-count.result c.args.buf.now))
