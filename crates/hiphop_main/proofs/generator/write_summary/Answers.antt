use Rattle.std.proofs.Common.{◌∙◌, subst}
use Rattle.hh_io.specs.SinkState.{Puts, PutsPart, FailsPutting}
use Rattle.hiphop_main.specs.Ends.{whole, out_of_memory, failed}
use Rattle.scenario_play.proofs.Puts.{puts_no_part}
use Rattle.hiphop_main.proofs.generator.write_summary.Goals as goal

pub returns-in_default : goal.returns-in_default
returns-in_default g c = out_of_memory (puts_no_part _ _)

pub returns-in-Ok-put_all : goal.returns-in-Ok-put_all
returns-in-Ok-put_all g c =
    whole (subst (Puts (g.K.Sink.state c.args.sink.now) (g.K.Sink.state c.put_all.new.sink)) (c.as_bytes.ensures.value ∙ c.in-Ok.ensures) c.in-Ok-put_all.ensures.whole)

pub returns-in-Err-Failed : goal.returns-in-Err-Failed
returns-in-Err-Failed g c =
    failed (subst (FailsPutting (g.K.Sink.state c.args.sink.now) (g.K.Sink.state c.put_all.new.sink)) (c.as_bytes.ensures.value ∙ c.in-Ok.ensures) (rw c.in-Err-Failed.field-0-is at c.in-Err-Failed.ensures.cut_off))

pub returns : goal.returns
returns g c =
    out_of_memory (subst (PutsPart (g.K.Sink.state c.args.sink.now) (g.K.Sink.state c.put_all.new.sink)) (c.as_bytes.ensures.value ∙ c.in-Ok.ensures) (rw c.in-Err-NoMemory.field-0-is at c.in-Err-NoMemory.ensures.cut_off))
