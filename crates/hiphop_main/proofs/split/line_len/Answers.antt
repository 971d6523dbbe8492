use Rattle.std.proofs.Common.{add-one, ◌∙◌, arith}
use Rattle.hiphop_main.proofs.LineLaws.{line_at, last_line, whole_line}
use Rattle.hiphop_main.proofs.split.line_len.Goals as goal

pub returns-then-byte-eq10-clause-line : goal.returns-then-byte-eq10-clause-line
returns-then-byte-eq10-clause-line c = rw add-one (line_at c.args.bytes.now c.loop-i.i c.loop-i.invariant (omega arith) c.if-byte-eq10.true)

pub returns-clause-line : goal.returns-clause-line
returns-clause-line c = last_line c.args.bytes.now (λ k lt. c.loop-i.invariant k (omega arith)) c.requires ∙ whole_line c.args.bytes.now
