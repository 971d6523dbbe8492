use Rattle.std.proofs.Common.{◌≤◌, ap, refl, sym, subst, length, arith}
use Rattle.hiphop_main.specs.declared.limits.TheConstants.{INPUT_LIMIT}
use Rattle.hiphop_main.specs.Play.{ReadsWhole, read, too_long, read_fault, no_memory}
use Rattle.hiphop_main.proofs.Plays.{plays}
use Rattle.hiphop_main.proofs.play.play.Goals as goal

pub returns-in-Ok : goal.returns-in-Ok
returns-in-Ok g c =
    let fits : length c.in-Ok.input.items ≤ INPUT_LIMIT =
    (let e = ap length c.deref.ensures.value in let l = c.deref.ensures.len in let w = c.in-Ok.ensures.within in omega arith)
    in
    plays _ _ _ (read (subst (ReadsWhole _ _) (sym c.deref.ensures.value) (record { gave = c.in-Ok.ensures.whole; within = fits })) c.play_input.ensures)

pub returns-in-Err-Fault : goal.returns-in-Err-Fault
returns-in-Err-Fault g c = plays _ _ _ (read_fault (c.in-Err-Fault.ensures.failed (rw c.in-Err-Fault.field-0-is refl)) refl)

pub returns-in-Err-TooLong : goal.returns-in-Err-TooLong
returns-in-Err-TooLong g c = plays _ _ _ (too_long (c.in-Err-TooLong.ensures.too_long (rw c.in-Err-TooLong.field-0-is refl)) c.refuse.ensures)

pub returns-in-Err-NoMemory : goal.returns-in-Err-NoMemory
returns-in-Err-NoMemory g c = plays _ _ _ (no_memory (c.in-Err-NoMemory.ensures.no_memory (rw c.in-Err-NoMemory.field-0-is refl)) refl)
