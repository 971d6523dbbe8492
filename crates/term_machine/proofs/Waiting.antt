-- Marks that take the queues of the running instances are marks of the same statement, and hold the same ids.
use Rattle.std.proofs.Common.{◌≡◌, ℕ, List, ◌++◌, refl, ◌∙◌, ap}
use Rattle.hh_term.specs.Statement.{Statement, Pause, If, Suspend, Seq, Par, Loop, Trap, Local, Async}
use Rattle.hh_term.specs.Selection.{Selection, AtPause, AtAsync, First, Second, Both, Inside, Scope, Control, Fresh, At, Ended}
use Rattle.hh_term.specs.Marks.{IsMarkOf, IsControlOf, ids_in, ids_of}
use Rattle.exec_instance.specs.declared.instance.Instance.{Instance}
use Rattle.term_machine.specs.Place.{with_queues, control_with_queues}

same_ids : (running : List Instance) (m : Selection) → ids_in (with_queues running m) ≡ ids_in m
same_ids running AtPause = refl
same_ids running (AtAsync id args queue suspended) = refl
same_ids running (First m) = same_ids running m
same_ids running (Second m) = same_ids running m
same_ids running (Both m n) = ap (λ (is : List ℕ). is ++ ids_in (with_queues running n)) (same_ids running m) ∙ ap (λ (is : List ℕ). ids_in m ++ is) (same_ids running n)
same_ids running (Inside m) = same_ids running m
same_ids running (Scope m b v) = same_ids running m

same_mark : (running : List Instance) (p : Statement) (m : Selection) → IsMarkOf p m → IsMarkOf p (with_queues running m)
same_mark running Pause AtPause h = tt
same_mark running (Async n) (AtAsync id args queue suspended) h = tt
same_mark running (If e p q) (First m) h = same_mark running p m h
same_mark running (If e p q) (Second m) h = same_mark running q m h
same_mark running (Suspend e p) (Inside m) h = same_mark running p m h
same_mark running (Seq p q) (First m) h = same_mark running p m h
same_mark running (Seq p q) (Second m) h = same_mark running q m h
same_mark running (Par p q) (First m) h = same_mark running p m h
same_mark running (Par p q) (Second m) h = same_mark running q m h
same_mark running (Par p q) (Both m n) h = (same_mark running p m h.0, same_mark running q n h.1)
same_mark running (Loop p) (Inside m) h = same_mark running p m h
same_mark running (Trap p) (Inside m) h = same_mark running p m h
same_mark running (Local s p) (Scope m b v) h = same_mark running p m h
same_mark running _ _ h = absurd h

pub ids_with_queues : (running : List Instance) (c : Control) → ids_of (control_with_queues running c) ≡ ids_of c
ids_with_queues running Fresh = refl
ids_with_queues running (At m) = same_ids running m
ids_with_queues running Ended = refl

pub rests_with_queues : (running : List Instance) (p : Statement) (c : Control) → IsControlOf p c → IsControlOf p (control_with_queues running c)
rests_with_queues running p Fresh h = tt
rests_with_queues running p (At m) h = same_mark running p m h
rests_with_queues running p Ended h = tt
