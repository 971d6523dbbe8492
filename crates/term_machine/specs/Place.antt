-- Where a machine on terms stands between two reactions, and what it says of its signals and its async sites.
-- (This project's own.)
use Rattle.std.specs.Prelude.{ℕ, zero, Bool, true, false, cond, ◌&&◌, ◌==◌, Option, Some, None}
use Rattle.std.specs.Prelude.{List, [], ◌∷◌, slice_get}
use Rattle.std.specs.List.{find}
use Rattle.hh_base.specs.declared.value.Value.{Value}
use Rattle.hh_base.specs.declared.value.Dir.{Dir}
use Rattle.hh_base.specs.declared.value.Dir.TheVariants as dir
use Rattle.hh_base.specs.declared.item.Item.{Item}
use Rattle.hh_term.specs.Kernel.{Kernel}
use Rattle.hh_term.specs.Selection.{Selection, AtPause, AtAsync, First, Second, Both, Inside, Scope}
use Rattle.hh_term.specs.Selection.{Control, Fresh, At}
use Rattle.hh_term.specs.Touches.{Touch, held_touches}
use Rattle.hh_term.specs.Reaction.{Last, Now, first_lasts}
use Rattle.exec_instance.specs.declared.instance.Instance.{Instance}
use Rattle.exec_instance.specs.Running.{holder}

-- a program, where its control rests, and the last statuses and values of its interface. The queues in its
-- marks are those of the running instances, which a state holds beside its place
pub record Place : Type 0 where
  pub kernel : Kernel
  pub control : Control
  pub lasts : List Last

-- not started, with initial values
abbrev pub start_of : Kernel → Place
start_of K = record { kernel = K; control = Fresh; lasts = first_lasts K }

-- marks with the answers that wait for the running instances: each async mark holds those of the instance
-- with its id
abbrev pub queue_in : Option Instance → List Item → List Item
queue_in (Some i) queue = i.queue
queue_in None queue = queue

abbrev pub with_queues : List Instance → Selection → Selection
with_queues running AtPause = AtPause
with_queues running (AtAsync id args queue suspended) =
    AtAsync id args (queue_in (holder running id) queue) suspended
with_queues running (First m) = First (with_queues running m)
with_queues running (Second m) = Second (with_queues running m)
with_queues running (Both m n) = Both (with_queues running m) (with_queues running n)
with_queues running (Inside m) = Inside (with_queues running m)
with_queues running (Scope m status val) = Scope (with_queues running m) status val

abbrev pub control_with_queues : List Instance → Control → Control
control_with_queues running (At m) = At (with_queues running m)
control_with_queues running c = c

-- the names of signals
abbrev pub name_or_none : Option (List ℕ) → List ℕ
name_or_none (Some n) = n
name_or_none None = []

abbrev pub name_at : Kernel → ℕ → List ℕ
name_at K s = (elim (slice_get K.signals s) [ Some d ↦ name_or_none d.name | None ↦ [] ])

-- a signal whose presence is told: `out` or `inout`
abbrev pub is_told : Dir → Bool
is_told dir.Output = true
is_told dir.Both = true
is_told _ = false

abbrev pub is_told_at : Kernel → ℕ → Bool
is_told_at K s = (elim (slice_get K.signals s) [ Some d ↦ is_told d.dir | None ↦ false ])

-- the present outputs, in order of declaration
abbrev pub outputs_of : Kernel → List Now → List (ℕ × Value)
outputs_of K [] = []
outputs_of K (n ∷ ns) =
    cond (n.status && is_told_at K n.signal) ((n.signal, n.val) ∷ outputs_of K ns) (outputs_of K ns)

-- it completed with 0
abbrev pub has_ended : Option ℕ → Bool
has_ended (Some zero) = true
has_ended _ = false

-- what the program says of async site n: the place of its body, and the actions that it names
abbrev pub body_at : Kernel → ℕ → ℕ
body_at K n = (elim (slice_get K.sites n) [ Some a ↦ a.body | None ↦ 0 ])

abbrev pub kill_at : Kernel → ℕ → Option (List ℕ)
kill_at K n = (elim (slice_get K.sites n) [ Some a ↦ a.kill | None ↦ None ])

abbrev pub suspend_at : Kernel → ℕ → Option (List ℕ)
suspend_at K n = (elim (slice_get K.sites n) [ Some a ↦ a.suspend | None ↦ None ])

abbrev pub resume_at : Kernel → ℕ → Option (List ℕ)
resume_at K n = (elim (slice_get K.sites n) [ Some a ↦ a.resume | None ↦ None ])

-- the instances that a control holds, each with its site
abbrev pub holds_in : Kernel → Control → List Touch
holds_in K (At m) = held_touches K.statement m
holds_in K _ = []

-- the action that the async of the instance with this id names for a kill
abbrev pub kill_of_site : Kernel → Option Touch → Option (List ℕ)
kill_of_site K (Some t) = kill_at K t.site
kill_of_site K None = None

abbrev pub kill_of : Place → ℕ → Option (List ℕ)
kill_of p id = kill_of_site p.kernel (find (λ t. t.id == id) (holds_in p.kernel p.control))
