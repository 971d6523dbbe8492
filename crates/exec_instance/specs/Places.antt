-- Places of instances and lengths of queues, as the methods of `Instances` speak of them.
use Rattle.std.specs.Prelude.{◌≡◌, ℕ, false, Some, List, [], ◌∷◌, take, length, slice_get}
use Rattle.hh_base.specs.Queue.{ends_with_last}
use Rattle.exec_instance.specs.declared.instance.Instance.{Instance}

-- the instance with this id stands at this place
pub record IsHeldAt (running : List Instance) (id place : ℕ) : Type 0 where
  pub held : Instance
  pub there : slice_get running place ≡ Some held
  pub same : held.id ≡ id

-- and its queue takes more
pub record IsOpenAt (running : List Instance) (id place : ℕ) : Type 0 where
  pub held : Instance
  pub there : slice_get running place ≡ Some held
  pub same : held.id ≡ id
  pub open_end : ends_with_last held.queue ≡ false

abbrev pub queue_length : Instance → ℕ
queue_length i = length i.queue

-- the instances with so many items of their queues
abbrev pub shortened : List ℕ → List Instance → List Instance
shortened (n ∷ ns) (i ∷ is) = record i { queue = take n i.queue } ∷ shortened ns is
shortened [] running = running
shortened (n ∷ ns) [] = []
