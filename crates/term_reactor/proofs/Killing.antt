-- A reset kills each instance that runs, with the action of its async.
use Rattle.std.proofs.Common.{◌≡◌, ℕ, suc, ◌+◌, Bool, true, false, cond, Option, Some, None, List, [], ◌∷◌, ◌++◌, map, length, refl, sym, ◌∙◌, ap, arith, append-nil}
use Rattle.std.specs.Prelude.{◌==◌, ◌&&◌, not, is_none, is_some, if◌then◌else◌, find}
use Rattle.std.specs.List.{AllByRecursion, cons_option}
use Rattle.std.proofs.lemmas.List.{map-append}
use Rattle.std.proofs.lemmas.Bool.Decides.{nat_tests}
use Rattle.hh_term.specs.Statement.{Statement, Pause, If, Suspend, Seq, Par, Loop, Trap, Local, Async}
use Rattle.hh_term.specs.Selection.{Selection, AtPause, AtAsync, First, Second, Both, Inside, Scope, Control, Fresh, At, Ended}
use Rattle.hh_term.specs.Kernel.{Kernel}
use Rattle.hh_term.specs.Marks.{IsMarkOf, IsControlOf, ids_in, ids_of}
use Rattle.hh_term.specs.Touches.{Touch, stopped, held_touches}
use Rattle.exec_instance.specs.declared.change.Change.{Change}
use Rattle.exec_instance.specs.declared.effect.Effect.{Effect}
use Rattle.exec_instance.specs.declared.effect.Effect.TheVariants.{Killed}
use Rattle.exec_instance.specs.declared.instance.Instance.{Instance}
use Rattle.exec_instance.specs.declared.table.Row.{Row}
use Rattle.exec_instance.specs.declared.table.Row.TheVariants as row
use Rattle.exec_instance.specs.Changes.{is_of, change_of}
use Rattle.exec_instance.specs.Effects.{effect_in, with_change, row_of, born, last_after, old_effects, effects, after_change, kept, advanced, started}
use Rattle.exec_instance.specs.Running.{holder}
use Rattle.reaction_run.specs.Machine.{State}
use Rattle.reaction_run.specs.Run.{killed}
use Rattle.term_machine.specs.Place.{Place, holds_in, kill_of, kill_of_site}
use Rattle.term_machine.specs.ConstructiveMachine.{change_by, constructive}
use Rattle.term_machine.specs.Standing.{times, Stands}
use Rattle.term_machine.proofs.Tracking.{id_of}

-- this change kills the instance, with this action
pub record Kills (kill : Option (List ℕ)) (c : Change) : Type 0 where
  pub unused : c.used ≡ false
  pub running_on : c.ended ≡ false
  pub stops : c.runs_after ≡ false
  pub action : c.kill ≡ kill

pub record IsKilled (change : ℕ → Option Change) (kill : ℕ → Option (List ℕ)) (i : Instance) : Type 0 where
  pub its : Change
  pub found : change i.id ≡ Some its
  pub kills : Kills (kill i.id) its

if_false : {X : Type 0} (b : Bool) (x y : X) → b ≡ false → (if b then x else y) ≡ y
if_false true x y e = cc
if_false false x y e = refl

and_false : (a b : Bool) → b ≡ false → a && b ≡ false
and_false true b e = e
and_false false b e = refl

not_both : (a b : Bool) → a ≡ false → b ≡ false → not a && not b ≡ true
not_both true b e f = cc
not_both false true e f = cc
not_both false false e f = refl

if_true : {X : Type 0} (b : Bool) (x y : X) → b ≡ true → (if b then x else y) ≡ x
if_true true x y e = refl
if_true false x y e = cc

-- the effect of each row
more_none : (i : Instance) (kill : Option (List ℕ)) (c : Change) → Kills kill c → effect_in row.More i c ≡ None
more_none i kill c k = if_false c.used _ None k.unused

ended_none : (i : Instance) (kill : Option (List ℕ)) (c : Change) → Kills kill c → effect_in row.Ended i c ≡ None
ended_none i kill c k = if_false c.ended _ None k.running_on

killed_some : (i : Instance) (kill : Option (List ℕ)) (c : Change) → Kills kill c → effect_in row.Killed i c ≡ Some (Killed i.id kill)
killed_some i kill c k = if_true (not c.ended && not c.runs_after) _ None (not_both c.ended c.runs_after k.running_on k.stops) ∙ ap (λ (o : Option (List ℕ)). Some (Killed i.id o)) k.action

suspended_none : (i : Instance) (kill : Option (List ℕ)) (c : Change) → Kills kill c → effect_in row.Suspended i c ≡ None
suspended_none i kill c k = if_false (c.held && c.runs_after && not i.suspended) _ None (ap (λ (b : Bool). b && not i.suspended) (and_false c.held c.runs_after k.stops))

resumed_none : (i : Instance) (kill : Option (List ℕ)) (c : Change) → Kills kill c → effect_in row.Resumed i c ≡ None
resumed_none i kill c k = if_false (i.suspended && c.resumed && c.runs_after) _ None (and_false (i.suspended && c.resumed) c.runs_after k.stops)

module _ (change : ℕ → Option Change) (kill : ℕ → Option (List ℕ)) where
  none_in : (r : Row) → ((i : Instance) (kill : Option (List ℕ)) (c : Change) → Kills kill c → effect_in r i c ≡ None) → (is : List Instance) → AllByRecursion (IsKilled change kill) is → row_of r change is ≡ []
  none_in r quiet [] all = refl
  none_in r quiet (i ∷ is) all =
      let k = all.0 in
      ap (λ (o : Option Effect). cons_option o (row_of r change is)) (ap (with_change r i) k.found ∙ quiet i (kill i.id) k.its k.kills)
      ∙ none_in r quiet is all.1

  kills_in : (is : List Instance) → AllByRecursion (IsKilled change kill) is → row_of row.Killed change is ≡ map (λ i. Killed i.id (kill i.id)) is
  kills_in [] all = refl
  kills_in (i ∷ is) all =
      let k = all.0 in
      ap (λ (o : Option Effect). cons_option o (row_of row.Killed change is)) (ap (with_change row.Killed i) k.found ∙ killed_some i (kill i.id) k.its k.kills)
      ∙ ap (λ (es : List Effect). Killed i.id (kill i.id) ∷ es) (kills_in is all.1)

  none_kept : (is : List Instance) → AllByRecursion (IsKilled change kill) is → kept change is ≡ []
  none_kept [] all = refl
  none_kept (i ∷ is) all =
      let k = all.0 in
      ap (λ (o : Option Instance). cons_option o (kept change is)) (ap (after_change i) k.found ∙ if_false (not k.its.ended && k.its.runs_after) _ None (and_false (not k.its.ended) k.its.runs_after k.kills.stops))
      ∙ none_kept is all.1

  pub all_effects : (is : List Instance) → AllByRecursion (IsKilled change kill) is → old_effects change is ≡ map (λ i. Killed i.id (kill i.id)) is
  all_effects is all =
      ap (λ (es : List Effect). es ++ row_of row.Ended change is ++ row_of row.Killed change is ++ row_of row.Suspended change is ++ row_of row.Resumed change is) (none_in row.More more_none is all)
      ∙ ap (λ (es : List Effect). es ++ row_of row.Killed change is ++ row_of row.Suspended change is ++ row_of row.Resumed change is) (none_in row.Ended ended_none is all)
      ∙ ap (λ (es : List Effect). es ++ row_of row.Suspended change is ++ row_of row.Resumed change is) (kills_in is all)
      ∙ ap (λ (es : List Effect). map (λ i. Killed i.id (kill i.id)) is ++ es ++ row_of row.Resumed change is) (none_in row.Suspended suspended_none is all)
      ∙ ap (λ (es : List Effect). map (λ i. Killed i.id (kill i.id)) is ++ [] ++ es) (none_in row.Resumed resumed_none is all)
      ∙ append-nil (map (λ i. Killed i.id (kill i.id)) is ++ []) ∙ append-nil (map (λ i. Killed i.id (kill i.id)) is)

-- the touches of the instances that control holds

pub record IsPlain (t : Touch) : Type 0 where
  pub old : is_none t.started ≡ true
  pub unused : t.used ≡ false
  pub running_on : t.ended ≡ false

record HoldsIds (ids : List ℕ) (ts : List Touch) : Type 0 where
  same : map id_of ts ≡ ids
  plain : AllByRecursion IsPlain ts

both_plain : (ts us : List Touch) → AllByRecursion IsPlain ts → AllByRecursion IsPlain us → AllByRecursion IsPlain (ts ++ us)
both_plain [] us h g = g
both_plain (t ∷ ts) us h g = (h.0, both_plain ts us h.1 g)

both_hold : (is js : List ℕ) (ts us : List Touch) → HoldsIds is ts → HoldsIds js us → HoldsIds (is ++ js) (ts ++ us)
both_hold is js ts us h g =
    record {
      same = map-append id_of ts us ∙ ap (λ (xs : List ℕ). xs ++ map id_of us) h.same ∙ ap (λ (xs : List ℕ). is ++ xs) g.same;
      plain = both_plain ts us h.plain g.plain;
    }

held_hold : (p : Statement) (m : Selection) → IsMarkOf p m → HoldsIds (ids_in m) (held_touches p m)
held_hold Pause AtPause h = record { same = refl; plain = tt }
held_hold (Async n) (AtAsync id args queue suspended) h = record { same = refl; plain = (record { old = refl; unused = refl; running_on = refl }, tt) }
held_hold (If e p q) (First m) h = held_hold p m h
held_hold (If e p q) (Second m) h = held_hold q m h
held_hold (Suspend e p) (Inside m) h = held_hold p m h
held_hold (Seq p q) (First m) h = held_hold p m h
held_hold (Seq p q) (Second m) h = held_hold q m h
held_hold (Par p q) (First m) h = held_hold p m h
held_hold (Par p q) (Second m) h = held_hold q m h
held_hold (Par p q) (Both m n) h = both_hold (ids_in m) (ids_in n) (held_touches p m) (held_touches q n) (held_hold p m h.0) (held_hold q n h.1)
held_hold (Loop p) (Inside m) h = held_hold p m h
held_hold (Trap p) (Inside m) h = held_hold p m h
held_hold (Local s p) (Scope m b v) h = held_hold p m h
held_hold _ _ h = absurd h

control_holds : (K : Kernel) (c : Control) → IsControlOf K.statement c → HoldsIds (ids_of c) (holds_in K c)
control_holds K (At m) h = held_hold K.statement m h
control_holds K Fresh h = record { same = refl; plain = tt }
control_holds K Ended h = record { same = refl; plain = tt }

-- the change of the instance with an id

record FoundTouch (K : Kernel) (id : ℕ) (ts : List Touch) : Type 0 where
  touch : Touch
  found : find (λ t. t.id == id) ts ≡ Some touch
  changes : change_of (map (change_by K) (map stopped ts)) id ≡ Some (change_by K (stopped touch))
  plain : IsPlain touch

found_touch : (K : Kernel) (id : ℕ) (ts : List Touch) → AllByRecursion IsPlain ts → times id (map id_of ts) ≡ 1 → FoundTouch K id ts
found_touch K id [] all h = absurd (omega arith)
found_touch K id (t ∷ ts) all h = at (t.id == id) refl (λ e. found_touch K id ts all.1 e)
  where
    before : (b : Bool) → (t.id == id) ≡ b → is_of id (change_by K (stopped t)) ≡ b
    before b e = ap (λ (x : Bool). x && (t.id == id)) all.0.old ∙ e

    at : (b : Bool) → (t.id == id) ≡ b → (times id (map id_of ts) ≡ 1 → FoundTouch K id ts) → FoundTouch K id (t ∷ ts)
    at true e later =
        record {
          touch = t;
          found = ap (λ (x : Bool). cond x (Some t) (find (λ t. t.id == id) ts)) e;
          changes = ap (λ (x : Bool). cond x (Some (change_by K (stopped t))) (change_of (map (change_by K) (map stopped ts)) id)) (before true e);
          plain = all.0;
        }
    at false e later =
        let r = later (sym (ap (λ (x : Bool). cond x (suc (times id (map id_of ts))) (times id (map id_of ts))) e) ∙ h) in
        record {
          touch = r.touch;
          found = ap (λ (x : Bool). cond x (Some t) (find (λ t. t.id == id) ts)) e ∙ r.found;
          changes = ap (λ (x : Bool). cond x (Some (change_by K (stopped t))) (change_of (map (change_by K) (map stopped ts)) id)) (before false e) ∙ r.changes;
          plain = r.plain;
        }

-- each instance that runs

some_either : (b : Bool) (j : Instance) (o : Option Instance) → is_some o ≡ true → is_some (cond b (Some j) o) ≡ true
some_either true j o e = refl
some_either false j o e = e

held_more : (j : Instance) (running is : List Instance) → AllByRecursion (λ i. is_some (holder running i.id) ≡ true) is → AllByRecursion (λ i. is_some (holder (j ∷ running) i.id) ≡ true) is
held_more j running [] all = tt
held_more j running (i ∷ is) all = (some_either (j.id == i.id) j (holder running i.id) all.0, held_more j running is all.1)

all_held : (running : List Instance) → AllByRecursion (λ i. is_some (holder running i.id) ≡ true) running
all_held [] = tt
all_held (j ∷ js) = (ap (λ (b : Bool). is_some (cond b (Some j) (holder js j.id))) (same_id j.id), held_more j js js (all_held js))
  where
    same_id : (i : ℕ) → (i == i) ≡ true
    same_id i = grind (arith, nat_tests)

module _ (S : State Place) (s : Stands S) where
  abbrev K : Kernel
  K = S.place.kernel

  abbrev pub changes : List Change
  changes = map (change_by K) (map stopped (holds_in K S.place.control))

  one_killed : (i : Instance) → is_some (holder S.running i.id) ≡ true → IsKilled (change_of changes) (kill_of S.place) i
  one_killed i there =
      let h = control_holds K S.place.control s.rests in
      let f = found_touch K i.id (holds_in K S.place.control) h.plain (ap (times i.id) h.same ∙ s.marked i.id ∙ ap (λ (b : Bool). if b then 1 else 0) there) in
      record {
        its = change_by K (stopped f.touch);
        found = f.changes;
        kills = record { unused = f.plain.unused; running_on = f.plain.running_on; stops = refl; action = sym (ap (kill_of_site K) f.found) };
      }

  all_killed : (is : List Instance) → AllByRecursion (λ i. is_some (holder S.running i.id) ≡ true) is → AllByRecursion (IsKilled (change_of changes) (kill_of S.place)) is
  all_killed [] all = tt
  all_killed (i ∷ is) all = (one_killed i all.0, all_killed is all.1)

  none_born : (last : ℕ) (ts : List Touch) → born last (map (change_by K) (map stopped ts)) ≡ []
  none_born last [] = refl
  none_born last (t ∷ ts) = none_born last ts

  pub reset_effects : effects S.last changes S.running ≡ map (killed constructive S) S.running
  reset_effects =
      ap (λ (is : List Instance). old_effects (change_of changes) S.running ++ map started is) (none_born S.last (holds_in K S.place.control)) ∙ append-nil (old_effects (change_of changes) S.running)
      ∙ all_effects (change_of changes) (kill_of S.place) S.running (all_killed S.running (all_held S.running))

  pub reset_running : advanced S.last changes S.running ≡ []
  reset_running =
      ap (λ (is : List Instance). kept (change_of changes) S.running ++ is) (none_born S.last (holds_in K S.place.control)) ∙ append-nil (kept (change_of changes) S.running)
      ∙ none_kept (change_of changes) (kill_of S.place) S.running (all_killed S.running (all_held S.running))

  pub reset_last : last_after S.last changes ≡ S.last
  reset_last = ap (λ (is : List Instance). S.last + length is) (none_born S.last (holds_in K S.place.control)) ∙ plus_none S.last
    where
      plus_none : (n : ℕ) → n + 0 ≡ n
      plus_none n = omega arith
