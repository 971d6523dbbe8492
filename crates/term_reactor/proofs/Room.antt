-- Ids are left for all that a reaction starts: a program has few asyncs, and each rests once at most.
use Rattle.std.proofs.Common.{◌≡◌, ℕ, suc, ◌+◌, ◌<◌, ◌≤◌, Bool, true, false, cond, Option, Some, None, List, [], ◌∷◌, ◌++◌, map, length, sym, ◌∙◌, ap, subst, arith}
use Rattle.std.specs.Prelude.{◌==◌, ◌&&◌, ◌^◌, nat_lt, is_some, if◌then◌else◌}
use Rattle.std.proofs.Math.Bridge.{le_prop}
use Rattle.std.proofs.lemmas.List.FromFn.{length-range_with_len}
use Rattle.std.proofs.Math.Logic.{∥∥₁_elim}
use Rattle.std.proofs.lemmas.Bool.Decides.{nat_tests}
use Rattle.hh_base.specs.declared.value.Value.{Value}
use Rattle.hh_term.specs.Statement.{Statement, Pause, If, Suspend, Seq, Par, Loop, Trap, Local, Async}
use Rattle.hh_term.specs.Selection.{Selection, AtPause, AtAsync, First, Second, Both, Inside, Scope, Control}
use Rattle.hh_term.specs.Kernel.{Kernel, AsyncSite}
use Rattle.hh_term.specs.Marks.{IsMarkOf, IsControlOf, ids_in, ids_of}
use Rattle.hh_term.specs.Scopes.{sites_of}
use Rattle.hh_term.specs.IsProgram.{IsProgram}
use Rattle.hh_term.specs.Touches.{Touch, by_site}
use Rattle.hh_term.specs.Reaction.{Last, Completed, Completes, reaction}
use Rattle.exec_instance.specs.declared.instance.Instance.{Instance}
use Rattle.exec_instance.specs.Effects.{born, last_after}
use Rattle.reaction_run.specs.Machine.{State}
use Rattle.reaction_run.specs.Run.{last_limit}
use Rattle.reaction_run.proofs.Holders.{held_above}
use Rattle.term_machine.specs.Place.{Place, control_with_queues}
use Rattle.term_machine.specs.ConstructiveMachine.{change_by, has_sites}
use Rattle.term_machine.specs.Standing.{times, Stands}
use Rattle.term_machine.proofs.Tracking.{MarkIs, ids_next}
use Rattle.term_machine.proofs.Touched.{total, old_with, going_with, unfair, total_by_site, old_times, going_times, none_unfair, born_count, new_going}
use Rattle.term_machine.proofs.Reactions.{OnOutcome, Moves, moves}
use Rattle.term_machine.proofs.Waiting.{ids_with_queues, rests_with_queues}

times_few : (id : ℕ) (is : List ℕ) → times id is ≤ length is
times_few id [] = omega arith
times_few id (i ∷ is) = at (i == id) (times_few id is)
  where
    at : (b : Bool) → times id is ≤ length is → cond b (suc (times id is)) (times id is) ≤ suc (length is)
    at true h = omega arith
    at false h = omega arith

length_both : (xs ys : List ℕ) → length (xs ++ ys) ≡ length xs + length ys
length_both [] ys = omega arith
length_both (x ∷ xs) ys = ap suc (length_both xs ys) ∙ shift (length xs) (length ys)
  where
    shift : (a b : ℕ) → suc (a + b) ≡ suc a + b
    shift a b = omega arith

left_few : (n : ℕ) (xs ys : List ℕ) → n ≤ length xs → n ≤ length (xs ++ ys)
left_few n xs ys h = let e = length_both xs ys in omega arith

right_few : (n : ℕ) (xs ys : List ℕ) → n ≤ length ys → n ≤ length (xs ++ ys)
right_few n xs ys h = let e = length_both xs ys in omega arith

both_few : (is js xs ys : List ℕ) → length is ≤ length xs → length js ≤ length ys → length (is ++ js) ≤ length (xs ++ ys)
both_few is js xs ys h g = let e = length_both xs ys in let f = length_both is js in omega arith

-- a mark rests at each async once at most
marked_few : (p : Statement) (m : Selection) → IsMarkOf p m → length (ids_in m) ≤ length (sites_of p)
marked_few Pause AtPause h = omega arith
marked_few (Async n) (AtAsync id args queue suspended) h = omega arith
marked_few (If e p q) (First m) h = left_few (length (ids_in m)) (sites_of p) (sites_of q) (marked_few p m h)
marked_few (If e p q) (Second m) h = right_few (length (ids_in m)) (sites_of p) (sites_of q) (marked_few q m h)
marked_few (Suspend e p) (Inside m) h = marked_few p m h
marked_few (Seq p q) (First m) h = left_few (length (ids_in m)) (sites_of p) (sites_of q) (marked_few p m h)
marked_few (Seq p q) (Second m) h = right_few (length (ids_in m)) (sites_of p) (sites_of q) (marked_few q m h)
marked_few (Par p q) (First m) h = left_few (length (ids_in m)) (sites_of p) (sites_of q) (marked_few p m h)
marked_few (Par p q) (Second m) h = right_few (length (ids_in m)) (sites_of p) (sites_of q) (marked_few q m h)
marked_few (Par p q) (Both m n) h = both_few (ids_in m) (ids_in n) (sites_of p) (sites_of q) (marked_few p m h.0) (marked_few q n h.1)
marked_few (Loop p) (Inside m) h = marked_few p m h
marked_few (Trap p) (Inside m) h = marked_few p m h
marked_few (Local s p) (Scope m b v) h = marked_few p m h
marked_few _ _ h = absurd h

next_few : (p : Statement) (o : Option Selection) → MarkIs (IsMarkOf p) o → length (ids_next o) ≤ length (sites_of p)
next_few p (Some m) h = marked_few p m h
next_few p None h = omega arith

sites_many : (K : Kernel) → ∥ IsProgram K ∥₁ → length (sites_of K.statement) ≤ length K.sites
sites_many K rules = ∥∥₁_elim rules le_prop (λ r. let e = ap (λ (xs : List ℕ). length xs) r.sites_in_order ∙ length-range_with_len 0 (length K.sites) in omega arith)

sites_few : (K : Kernel) → ∥ IsProgram K ∥₁ → length K.sites ≤ 1024
sites_few K rules = ∥∥₁_elim rules le_prop (λ r. r.within_limits.sites)

-- how many are born where no mark holds the id 0
born_few : (K : Kernel) (c : Control) (before : List Last) (is : List (ℕ × Value)) (last : ℕ) (d : Completed) → reaction K c before is last ≡ Completes d → IsControlOf K.statement c → times 0 (ids_of c) ≡ 0 → length (born last (map (change_by K) d.touches)) ≤ length (sites_of K.statement)
born_few K c before is last d e rests none =
    let m = subst (OnOutcome (Moves K.statement c last)) e (moves K c before is last) in
    let a = m.stepped in
    let t = m.steps.0 rests in
    let all_fair : total unfair (by_site a.touches) ≡ 0 = total_by_site unfair a.touches ∙ none_unfair a.touches m.steps.1 in
    let no_olds : total (old_with 0) (by_site a.touches) ≡ 0 = total_by_site (old_with 0) a.touches ∙ sym (old_times 0 a.touches) ∙ ap (times 0) t.olds ∙ none in
    let count : length (born last (map (change_by K) d.touches)) ≡ times 0 (ids_next a.next) =
    ap (λ (ts : List Touch). length (born last (map (change_by K) ts))) m.touches
    ∙ born_count K (by_site a.touches) last last
    ∙ sym (new_going (by_site a.touches) all_fair no_olds)
    ∙ total_by_site (going_with 0) a.touches
    ∙ sym (going_times 0 a.touches)
    ∙ ap (times 0) t.going in
    let few = times_few 0 (ids_next a.next) in
    let rest = next_few K.statement a.next t.mark in
    omega arith

none_zero : (S : State Place) → Stands S → times 0 (ids_of S.place.control) ≡ 0
none_zero S s = s.marked 0 ∙ ap (λ (o : Option Instance). if is_some o then 1 else 0) (held_above 0 0 S.last S.running s.rising (omega arith))

by_worn : (sites : List AsyncSite) (last n : ℕ) → has_sites sites && nat_lt last_limit last ≡ false → n ≤ length sites → length sites ≤ 1024 → last < 2 ^ 64 → last + n < 2 ^ 64
by_worn [] last n e h g fits = omega arith
by_worn (s ∷ ss) last n e h g fits = let low : last ≤ 18446744073709550591 = not_below last e in omega arith
  where
    not_below : (last : ℕ) → nat_lt 18446744073709550591 last ≡ false → last ≤ 18446744073709550591
    not_below last e = grind (arith, nat_tests)

pub has_room : (S : State Place) (W : List Instance) (is : List (ℕ × Value)) (d : Completed) → ∥ IsProgram S.place.kernel ∥₁ → Stands S → has_sites S.place.kernel.sites && nat_lt last_limit S.last ≡ false → S.last < 2 ^ 64
    → reaction S.place.kernel (control_with_queues W S.place.control) S.place.lasts is S.last ≡ Completes d → last_after S.last (map (change_by S.place.kernel) d.touches) < 2 ^ 64
has_room S W is d rules s fresh fits e =
    let K = S.place.kernel in
    let c = control_with_queues W S.place.control in
    let few = born_few K c S.place.lasts is S.last d e (rests_with_queues W K.statement S.place.control s.rests) (ap (times 0) (ids_with_queues W S.place.control) ∙ none_zero S s) in
    by_worn K.sites S.last (length (born S.last (map (change_by K) d.touches))) fresh (le_trans few (sites_many K rules)) (sites_few K rules) fits
  where
    le_trans : {a b c : ℕ} → a ≤ b → b ≤ c → a ≤ c
    le_trans h g = omega arith
