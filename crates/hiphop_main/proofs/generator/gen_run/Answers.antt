use Rattle.std.proofs.Common.{refl}
use Rattle.hiphop_main.specs.Gen.{misused, no_order, ordered}
use Rattle.hiphop_main.proofs.generator.gen_run.Goals as goal

pub returns-in-Ok : goal.returns-in-Ok
returns-in-Ok g c = ordered c.in-Ok.ensures.order c.play_made.ensures

pub returns-in-Err-Refused : goal.returns-in-Err-Refused
returns-in-Err-Refused g c = misused (c.in-Err-Refused.ensures.refused (rw c.in-Err-Refused.field-0-is refl)) c.refuse.ensures

pub returns-in-Err-NoMemory : goal.returns-in-Err-NoMemory
returns-in-Err-NoMemory g c = no_order refl refl
