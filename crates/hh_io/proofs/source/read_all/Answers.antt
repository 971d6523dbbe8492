use Rattle.std.proofs.Common.{◌≡◌, ◌+◌, ◌-◌, Err, ap, vec_len, arith}
use Rattle.std.proofs.lemmas.Result.{err_from_is_err_and}
use Rattle.hh_io.specs.declared.fault.ReadEnd.TheVariants as read_end
use Rattle.hh_io.proofs.ByteLaws.{GivesCount-more, GivesAtMost-more, FailsReading-more}
use Rattle.hh_io.proofs.source.read_all.Goals as goal

pub returns-in_err-read_piece-clause-too_long : goal.returns-in_err-read_piece-clause-too_long
returns-in_err-read_piece-clause-too_long g c e =
    let p = err_from_is_err_and c.from_residual-in_err-read_piece.result c.from_residual-in_err-read_piece.ensures.1 in
    let same : c.in_err-read_piece.field-0.0 ≡ read_end.TooLong = cc in
    GivesCount-more _ _ _ c.loop-buffer.bytes.items (c.args.limit - vec_len c.loop-buffer.bytes + 1) _ c.loop-buffer.invariant.given (c.in_err-read_piece.ensures.too_long (ap Err same)) (omega (arith, c.loop-buffer.bytes.ok.0))

pub returns-in_err-read_piece-clause-no_memory : goal.returns-in_err-read_piece-clause-no_memory
returns-in_err-read_piece-clause-no_memory g c e =
    let p = err_from_is_err_and c.from_residual-in_err-read_piece.result c.from_residual-in_err-read_piece.ensures.1 in
    let same : c.in_err-read_piece.field-0.0 ≡ read_end.NoMemory = cc in
    GivesAtMost-more _ _ _ c.loop-buffer.bytes.items (c.args.limit - vec_len c.loop-buffer.bytes + 1) _ c.loop-buffer.invariant.given (c.in_err-read_piece.ensures.no_memory (ap Err same)) (omega (arith, c.loop-buffer.bytes.ok.0))

pub returns-in_err-read_piece-clause-failed : goal.returns-in_err-read_piece-clause-failed
returns-in_err-read_piece-clause-failed g c e =
    let p = err_from_is_err_and c.from_residual-in_err-read_piece.result c.from_residual-in_err-read_piece.ensures.1 in
    let same : c.in_err-read_piece.field-0.0 ≡ read_end.Fault = cc in
    FailsReading-more _ _ _ c.loop-buffer.bytes.items (c.args.limit - vec_len c.loop-buffer.bytes + 1) _ c.loop-buffer.invariant.given (c.in_err-read_piece.ensures.failed (ap Err same)) (omega (arith, c.loop-buffer.bytes.ok.0))
