-- The rule by which answers enter the running instances: they are tried in order, and each gets its verdict
-- against what the ones before it left. (This project's own, after the answers of HipHop.js's async.)
use Rattle.std.specs.Prelude.{ℕ, Bool, false, ◌&&◌, ◌||◌, ◌==◌, nat_lt, nat_le, if◌then◌else◌, Option, Some}
use Rattle.std.specs.Prelude.{None, List, [], ◌∷◌, ◌++◌, map, slice_get}
use Rattle.hh_base.specs.declared.value.Kind.{Kind}
use Rattle.hh_base.specs.declared.item.Item.{Item}
use Rattle.hh_base.specs.Queue.{ends_with_last}
use Rattle.hh_base.specs.Value.{kind_of}
use Rattle.exec_instance.specs.declared.answer.Answer.{Answer}
use Rattle.exec_instance.specs.declared.instance.Instance.{Instance}
use Rattle.exec_instance.specs.declared.effect.Effect.{Effect}
use Rattle.exec_instance.specs.declared.effect.Effect.TheVariants.{Dropped}
use Rattle.exec_instance.specs.declared.effect.Reason.{Reason}
use Rattle.exec_instance.specs.declared.effect.Reason.TheVariants.{Stale, Unknown, Repeated, Mistyped}
use Rattle.exec_instance.specs.Kinds.{same_kind}
use Rattle.exec_instance.specs.Running.{holder}

-- what the verdicts depend on beside the instances: the kinds that the bodies answer, whether the machine
-- takes partial answers, and the last id that was given
pub record Rules : Type 0 where
  pub kinds : List Kind
  pub parts : Bool
  pub last : ℕ

abbrev pub under : List Kind → Bool → ℕ → Rules
under kinds parts last = record { kinds = kinds; parts = parts; last = last }

pub data Verdict : Type 0 where
  Enters : Verdict
  Drops : (reason : Reason) → Verdict

-- the id was given to some instance
abbrev pub was_given : ℕ → ℕ → Bool
was_given last id = nat_lt 0 id && nat_le id last

-- the value is of the kind that the body answers
abbrev pub answers_kind : Option Kind → Answer → Bool
answers_kind (Some k) a = same_kind k (kind_of a.value)
answers_kind None a = false

-- the machine takes the answer's value for this instance
abbrev pub is_well_typed : Rules → Instance → Answer → Bool
is_well_typed r i a = answers_kind (slice_get r.kinds i.body) a && (a.last || r.parts)

-- the verdict on an answer, by the instance that has its id
abbrev pub verdict_at : Rules → Option Instance → Answer → Verdict
verdict_at r None a = Drops Stale
verdict_at r (Some i) a =
    if ends_with_last i.queue then Drops Repeated else if is_well_typed r i a then Enters else Drops Mistyped

abbrev pub verdict : Rules → List Instance → Answer → Verdict
verdict r running a = if was_given r.last a.id then verdict_at r (holder running a.id) a else Drops Unknown

-- an answer that enters is put at the end of the queue of the instance that has its id
abbrev pub item_of : Answer → Item
item_of a = record { value = a.value; last = a.last }

abbrev pub with_item : Answer → Instance → Instance
with_item a i = if i.id == a.id then record i { queue = i.queue ++ item_of a ∷ [] } else i

abbrev pub after : Verdict → Answer → List Instance → List Instance
after Enters a running = map (with_item a) running
after (Drops reason) a running = running

-- the verdict of each answer, in order
abbrev pub verdicts : Rules → List Instance → List Answer → List Verdict
verdicts r running [] = []
verdicts r running (a ∷ rest) = verdict r running a ∷ verdicts r (after (verdict r running a) a running) rest

-- the instances after all of them
abbrev pub entered : Rules → List Instance → List Answer → List Instance
entered r running [] = running
entered r running (a ∷ rest) = entered r (after (verdict r running a) a running) rest

-- the drops, in the order of the answers
abbrev pub dropped : Verdict → Answer → List Effect
dropped Enters a = []
dropped (Drops reason) a = Dropped a.id reason ∷ []

abbrev pub drops : Rules → List Instance → List Answer → List Effect
drops r running [] = []
drops r running (a ∷ rest) =
    dropped (verdict r running a) a ++ drops r (after (verdict r running a) a running) rest
