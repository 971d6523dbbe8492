-- The interface signals, solved as the outermost scopes: they rise with what is known, and two rounds
-- reach the standstill.
use Rattle.std.proofs.Common.{refl, ℕ, List, [], ◌∷◌}
use Rattle.host_expr.specs.declared.cell.SigCell.{SigCell}
use Rattle.host_expr.specs.Environment.{Env, put, unsolved}
use Rattle.host_expr.proofs.Information.{signal_refl}
use Rattle.hh_term.specs.Statement.{Statement}
use Rattle.hh_term.specs.Selection.{Control, Fresh, At, Ended, Start, Resume}
use Rattle.hh_term.specs.MustCan.{Table, MustCan, Executed, must_can, solve, scoped}
use Rattle.hh_term.specs.Reaction.{Outer, given_bag, with_given, nest, program_must_can}
use Rattle.hh_term.specs.Knows.{ended, MustCanBelow, MustWithinCan}
use Rattle.hh_term.specs.Lawful.{InterfaceStandsStill}
use Rattle.hh_term.proofs.Embedding.{sub_append, same_sub, same_bag_up, same_bag_down}
use Rattle.hh_term.proofs.Rounds.{Grows, scoped_up}
use Rattle.hh_term.proofs.WithinCan.{hide_within}
use Rattle.hh_term.proofs.MustCanLaws.{must_can_lawful, grows}
use Rattle.hh_term.proofs.Standstill.{two_rounds}

pub given_up : (o : Outer) (a b : MustCan) → MustCanBelow a b → MustCanBelow (with_given o a) (with_given o b)
given_up o a b h =
    record {
      must = sub_append (same_bag_up (given_bag o)) h.must;
      code = h.code;
      can = sub_append (same_bag_down (given_bag o)) h.can;
      codes = h.codes;
    }

pub given_within : (o : Outer) (a : MustCan) → MustWithinCan a → MustWithinCan (with_given o a)
given_within o a h = record { must = sub_append (same_sub (given_bag o)) h.must; code = h.code }

pub given_grows : (o : Outer) (p : Env → MustCan) → Grows p p
    → Grows (λ E. with_given o (p E)) (λ E. with_given o (p E))
given_grows o p h =
    record {
      up = λ E F g. given_up o (p E) (p F) (h.up E F g);
      within = λ E. given_within o (p E) (h.within E);
    }

scoped_grows : (T : Table) (s : ℕ) (p : Env → MustCan) (c : SigCell) → Grows p p
    → Grows (λ E. scoped T s p E c) (λ E. scoped T s p E c)
scoped_grows T s p c h = record {
  up = λ E F g. scoped_up T s p p E F c c h g (signal_refl c);
  within = λ E. let F = put E s (solve T s p E c) in hide_within s (p F) (h.within F);
}

pub nest_grows : (T : Table) (os : List Outer) (p : Env → MustCan) → Grows p p → Grows (nest T os p) (nest T os p)
nest_grows T [] p h = h
nest_grows T (o ∷ os) p h =
    scoped_grows T o.signal (λ F. with_given o (nest T os p F)) (unsolved o.last.status o.last.val)
    (given_grows o (nest T os p) (nest_grows T os p h))

pub program_grows : (T : Table) (p : Statement) (c : Control)
    → Grows (program_must_can T p c) (program_must_can T p c)
program_grows T p Fresh = grows (must_can T p Start) (must_can_lawful T p Start) Executed Executed refl
program_grows T p (At m) =
    grows (must_can T p (Resume m)) (must_can_lawful T p (Resume m)) Executed Executed refl
program_grows T p Ended =
    record {
      up = λ E F g. record { must = ended; code = tt; can = ended; codes = λ c e. e };
      within = λ E. record { must = ended; code = λ c e. cc };
    }

pub interface_stands_still : InterfaceStandsStill
interface_stands_still T p c o os E =
    let inner = nest T os (program_must_can T p c) in
    two_rounds T o.signal (λ F. with_given o (inner F)) E o.last.status o.last.val
    (given_grows o inner (nest_grows T os (program_must_can T p c) (program_grows T p c)))
