use Rattle.host_expr.proofs.Bytes.{bytes_decided, text_is}
use Rattle.host_expr.proofs.arithmetic.is_text.Goals as goal

pub returns-in-Some : goal.returns-in-Some
returns-in-Some c = rw (text_is _ _ c.in-Some.ensures) (bytes_decided _ _ _ c.same_text.ensures)
