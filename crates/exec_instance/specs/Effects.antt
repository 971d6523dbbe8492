-- What an accepted reaction does to the instances, and the effects that are told of it but for the drops.
-- (This project's own, after the notifications of HipHop.js's async.)
use Rattle.std.specs.Prelude.{ℕ, suc, ◌+◌, Bool, false, not, is_some, ◌&&◌, ◌||◌, if◌then◌else◌, Option, Some}
use Rattle.std.specs.Prelude.{None, option_map, List, [], ◌∷◌, ◌++◌, length, map, drop, slice_get}
use Rattle.std.specs.List.{filter_map}
use Rattle.hh_base.specs.declared.value.Value.{Value}
use Rattle.exec_instance.specs.declared.instance.Instance.{Instance}
use Rattle.exec_instance.specs.declared.change.Change.{Change}
use Rattle.exec_instance.specs.declared.effect.Effect.{Effect}
use Rattle.exec_instance.specs.declared.effect.Effect.TheVariants.{More, Ended, Killed, Suspended, Resumed}
use Rattle.exec_instance.specs.declared.effect.Effect.TheVariants.{Started}
use Rattle.exec_instance.specs.declared.table.Row.{Row}
use Rattle.exec_instance.specs.declared.table.Row.TheVariants as row
use Rattle.exec_instance.specs.Changes.{change_of}

-- an effect that carries the first value of the instance's queue
abbrev pub of_first : (ℕ → Value → Effect) → Instance → Option Effect
of_first effect i = option_map (λ a. effect i.id a.value) (slice_get i.queue 0)

abbrev pub when : Bool → Option Effect → Option Effect
when b effect = if b then effect else None

-- the table of effects, a line for each of its rows: the effect on an instance that ran before the reaction
abbrev pub effect_in : Row → Instance → Change → Option Effect
effect_in row.More i c = when c.used (of_first More i)
effect_in row.Ended i c = when c.ended (of_first Ended i)
effect_in row.Killed i c = when (not c.ended && not c.runs_after) (Some (Killed i.id c.kill))
effect_in row.Suspended i c = when (c.held && c.runs_after && not i.suspended) (Some (Suspended i.id c.suspend))
effect_in row.Resumed i c = when (i.suspended && c.resumed && c.runs_after) (Some (Resumed i.id c.resume))

abbrev pub with_change : Row → Instance → Option Change → Option Effect
with_change r i (Some c) = effect_in r i c
with_change r i None = None

-- the effects of one row, in rising id, where `change` tells the change of an id
abbrev pub row_of : Row → (ℕ → Option Change) → List Instance → List Effect
row_of r change running = filter_map (λ i. with_change r i (change i.id)) running

-- the arguments of an instance that is new and runs after
abbrev pub new_args : Change → Option (List Value)
new_args c = if c.runs_after then c.started else None

abbrev pub takes_id : Change → Bool
takes_id c = is_some c.started && c.runs_after

-- the new instances get the next ids, in the order of the list
abbrev pub born : ℕ → List Change → List Instance
born last [] = []
born last (c ∷ cs) =
    (elim (new_args c) [
      | Some args ↦ record {
        id = suc last;
        body = c.body;
        args = args;
        queue = [];
        suspended = false;
      } ∷ born (suc last) cs
      | None ↦ born last cs
    ])

abbrev pub last_after : ℕ → List Change → ℕ
last_after last changes = last + length (born last changes)

abbrev pub started : Instance → Effect
started i = Started i.id i.body i.args

-- the effects on the instances that ran before, in the order of the table, and then those of the new ones
abbrev pub old_effects : (ℕ → Option Change) → List Instance → List Effect
old_effects change running =
    row_of row.More change running ++ row_of row.Ended change running ++
    row_of row.Killed change running ++ row_of row.Suspended change running ++
    row_of row.Resumed change running

abbrev pub effects : ℕ → List Change → List Instance → List Effect
effects last changes running = old_effects (change_of changes) running ++ map started (born last changes)

-- a running instance after the reaction, if it runs on: one that used an answer has lost it, one that was
-- held is marked suspended, and one that was resumed is not. One that no change speaks of stays as it was
abbrev pub changed : Instance → Change → Instance
changed i c = record i {
  queue = if c.used then drop 1 i.queue else i.queue;
  suspended = c.held || (i.suspended && not c.resumed);
}

abbrev pub after_change : Instance → Option Change → Option Instance
after_change i (Some c) = if not c.ended && c.runs_after then Some (changed i c) else None
after_change i None = Some i

abbrev pub kept : (ℕ → Option Change) → List Instance → List Instance
kept change running = filter_map (λ i. after_change i (change i.id)) running

-- the instances that run after the reaction, in rising id
abbrev pub advanced : ℕ → List Change → List Instance → List Instance
advanced last changes running = kept (change_of changes) running ++ born last changes
