-- How the parts of a reaction stand for what they make. (This project's own.)
use Rattle.std.specs.Prelude.{◌≡◌, ℕ, ◌<◌, Option, Some, None, List, map, flat_map, slice_get}
use Rattle.std.specs.List.{range_with_len}
use Rattle.hh_base.specs.declared.value.Pos.{Pos}
use Rattle.hh_base.specs.declared.value.FaultKind.{FaultKind}
use Rattle.hh_base.specs.declared.value.Value.{Value}
use Rattle.host_expr.specs.declared.cell.SigCell.{SigCell}
use Rattle.host_expr.specs.Environment.{Env, env_of, is_present}
use Rattle.hh_term.specs.declared.program.SignalDecl.{SignalDecl}
use Rattle.hh_term.specs.Kernel.{Kernel}
use Rattle.hh_term.specs.MustCan.{Table, table_of}
use Rattle.hh_term.specs.Reaction as reaction
use Rattle.hh_term.specs.Selection.{Selection, Control, At, Ended}
use Rattle.hh_term.specs.Step.{doubled_by, overflow_by, value_in}
use Rattle.hh_term.specs.Touches.{by_site, numbered, marks_numbered}
use Rattle.hh_term.specs.Views.{control_of}
use Rattle.last_walk.specs.declared.last_pass.Emitted.{Emitted}
use Rattle.last_walk.specs.declared.last_pass.LastPass.{LastPass}
use Rattle.last_walk.specs.LastWalk.{touch_of, selection_at, fault_place, place_of_fault, signal_place}
use Rattle.last_walk.specs.LastWalk.{place_of_signal, least, Counts}
use Rattle.last_walk.specs.declared.whole.Ran.{Ran}
use Rattle.sync_step.specs.declared.answer.Stepped.{Stepped}
use Rattle.sync_step.specs.Told.{now_in}

-- the emissions of a signal have these values
pub record Counted (emitted : List Emitted) (s : ℕ) (values : List Value) : Type 0 where
  pub emissions : Emitted
  pub here : slice_get emitted s ≡ Some emissions
  pub counts : Counts emissions values

-- what is wrong with the first n signals, where they have these values
abbrev pub overflows : Table → (ℕ → List Value) → ℕ → List (Pos × FaultKind)
overflows T values n = flat_map (λ s. overflow_by T s (values s)) (range_with_len 0 n)

abbrev pub doubles : Table → (ℕ → List Value) → ℕ → List ℕ
doubles T values n = flat_map (λ s. doubled_by T s (values s)) (range_with_len 0 n)

-- it is noted
pub record JudgedAll (T : Table) (n : ℕ) (emitted : List Emitted) (before after : LastPass) : Type 0 where
  pub fault : (values : ℕ → List Value) → ((s : ℕ) → s < n → Counted emitted s (values s)) →
      place_of_fault after.fault ≡ least (place_of_fault before.fault) (map fault_place (overflows T values n))
  pub doubled : (values : ℕ → List Value) → ((s : ℕ) → s < n → Counted emitted s (values s)) →
      place_of_signal T after.doubled
      ≡ least (place_of_signal T before.doubled) (map (signal_place T) (doubles T values n))

-- an interface signal with these emissions
abbrev pub count_of : Option Emitted → ℕ
count_of (Some e) = e.count
count_of None = 0

abbrev pub now_by : ℕ → SigCell → ℕ → reaction.Now
now_by s c emissions =
    record {
      signal = s;
      emissions = emissions;
      status = is_present c.status;
      val = value_in c.preval c.value;
    }

abbrev pub now_at : Env → List Emitted → ℕ → reaction.Now
now_at E emitted s = now_by s (E s) (count_of (slice_get emitted s))

abbrev pub control_by : ℕ → Option Selection → Control
control_by last (Some m) = At (marks_numbered last m).0
control_by last None = Ended

-- the name of the signals that are declared where this one is
abbrev pub Names : Kernel → Option ℕ → Option (List ℕ) → Type 0
Names K None name = name ≡ None
Names K (Some t) name =
    (s : ℕ) (d : SignalDecl) → slice_get K.signals s ≡ Some d → d.pos.0 ≡ signal_place (table_of K) t →
    name ≡ d.name

-- what was noted is told
pub record Concluded (K : Kernel) (last : ℕ) (ran : Ran) (emitted : List Emitted)
    (pass : LastPass) (a : Stepped) :
    Type 0 where
  pub signals : map now_in a.signals.items
      ≡ map (now_at (env_of pass.cells.signals.items) emitted) (range_with_len 0 K.interface)
  pub code : a.code ≡ ran.code
  pub next : control_of a.next ≡ control_by last (selection_at ran.next)
  pub touches : map touch_of a.touches.items ≡ numbered last (by_site (map touch_of pass.touches.items))
  pub multiple : Names K pass.doubled a.multiple
  pub fault : a.fault ≡ pass.fault
