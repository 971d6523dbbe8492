-- Where the machine of the code stands, as a state of the constructive machine. (This project's own.)
use Rattle.std.specs.Prelude.{◌≡◌, ℕ, List, [], ◌∷◌, refl, length}
use Rattle.std.specs.Coded.{le_prop}
use Rattle.std.proofs.Math.Nat.{ℕ_set}
use Rattle.hh_term.specs.Statement.{Statement, Pause, If, Suspend, Seq, Par, Loop, Trap, Local, Async}
use Rattle.hh_term.specs.Selection.{Selection, AtPause, AtAsync, First, Second, Both, Inside, Scope}
use Rattle.hh_term.specs.Selection.{Control, Fresh, At, Ended}
use Rattle.hh_term.specs.Marks.{IsMarkOf, IsControlOf}
use Rattle.exec_instance.specs.declared.instance.Instance.{Instance}
use Rattle.exec_instance.specs.Running.{RiseFrom}
use Rattle.hh_term.specs.Kernel.{Kernel}
use Rattle.hh_term.specs.Views.{control_of}
use Rattle.status_rounds.specs.Before.{lasts_of}
use Rattle.reaction_run.specs.declared.reply.Reply.{Reply}
use Rattle.reaction_run.specs.Machine.{State}
use Rattle.term_machine.specs.Place.{Place}
use Rattle.term_machine.specs.Standing.{Stands}
use Rattle.term_reactor.specs.declared.stand.Stand.{Stand}
use Rattle.term_reactor.specs.declared.stand.Turn.{Turn}

abbrev pub state_at : Kernel → Stand → State Place
state_at K s =
    record {
      place = record { kernel = K; control = control_of s.control; lasts = lasts_of s.before.cells.items };
      running = s.instances.instances;
      pending = s.pending;
      last = s.instances.last;
    }

-- what holds of each state, and there is a last status and value for each interface signal
pub record Keeps (S : State Place) : Type 0 where
  pub stands : Stands S
  pub lasts : length S.place.lasts ≡ S.place.kernel.interface

-- this reply is given, and the machine stands so then
pub record IsTurn (K : Kernel) (said : Reply) (after : State Place) (t : Turn) : Type 0 where
  pub reply : t.reply ≡ said
  pub next : state_at K t.next ≡ after

-- there is one proof of it at most

mark_prop : (p : Statement) (m : Selection) (x y : IsMarkOf p m) → x ≡ y
mark_prop Pause AtPause x y = refl
mark_prop (Async n) (AtAsync id args queue suspended) x y = refl
mark_prop (If e p q) (First m) x y = mark_prop p m x y
mark_prop (If e p q) (Second m) x y = mark_prop q m x y
mark_prop (Suspend e p) (Inside m) x y = mark_prop p m x y
mark_prop (Seq p q) (First m) x y = mark_prop p m x y
mark_prop (Seq p q) (Second m) x y = mark_prop q m x y
mark_prop (Par p q) (First m) x y = mark_prop p m x y
mark_prop (Par p q) (Second m) x y = mark_prop q m x y
mark_prop (Par p q) (Both m n) x y = λ i. (mark_prop p m x.0 y.0 i, mark_prop q n x.1 y.1 i)
mark_prop (Loop p) (Inside m) x y = mark_prop p m x y
mark_prop (Trap p) (Inside m) x y = mark_prop p m x y
mark_prop (Local s p) (Scope m b v) x y = mark_prop p m x y
mark_prop _ _ x y = absurd x

control_prop : (p : Statement) (c : Control) (x y : IsControlOf p c) → x ≡ y
control_prop p Fresh x y = refl
control_prop p (At m) x y = mark_prop p m x y
control_prop p Ended x y = refl

rise_prop : (low last : ℕ) (is : List Instance) (x y : RiseFrom low is last) → x ≡ y
rise_prop low last [] x y = le_prop x y
rise_prop low last (i ∷ is) x y = λ j. (le_prop x.0 y.0 j, rise_prop i.id last is x.1 y.1 j)

pub keeps_prop : (S : State Place) → IsProp (Keeps S)
keeps_prop S x y =
    λ i. record {
      stands = record {
        rests = control_prop S.place.kernel.statement S.place.control x.stands.rests y.stands.rests i;
        rising = rise_prop 0 S.last S.running x.stands.rising y.stands.rising i;
        marked = λ id. ℕ_set _ _ (x.stands.marked id) (y.stands.marked id) i;
      };
      lasts = ℕ_set _ _ x.lasts y.lasts i;
    }
