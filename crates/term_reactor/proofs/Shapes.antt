-- What a reaction of a program gives, whatever it decides: what is undecided is of the interface, and each interface signal has a
-- status and a value then.
use Rattle.std.proofs.Common.{◌≡◌, ℕ, suc, ◌+◌, ◌<◌, ◌≤◌, Bool, true, false, cond, Option, Some, None, List, [], ◌∷◌, map, length, refl, ◌∙◌, ap, arith}
use Rattle.std.specs.Prelude.{◌&&◌, fold}
use Rattle.std.specs.List.{AllByRecursion}
use Rattle.hh_base.specs.declared.value.Pos.{Pos}
use Rattle.hh_base.specs.declared.value.Value.{Value}
use Rattle.hh_base.specs.declared.value.FaultKind.{FaultKind}
use Rattle.host_expr.specs.Environment.{Env, blank, is_decided, is_known}
use Rattle.hh_term.specs.Selection.{Control}
use Rattle.hh_term.specs.Kernel.{Kernel}
use Rattle.hh_term.specs.MustCan.{Bag, Table, table_of}
use Rattle.hh_term.specs.Reaction.{Last, Outer, Ran, Completed, Outcome, Undecided, Doubled, Faulted, Completes, program_step, program_must_can, completed, concluded, reaction, solved, undecided, leave_all, first_declared, earlier, outers_from, now_of}

-- of an interface with n signals
abbrev pub Shape : ℕ → Outcome → Type 0
Shape n (Undecided signals) = AllByRecursion (λ s. s < n) signals
Shape n (Completes d) = length d.signals ≡ n
Shape n _ = Unit {0}

outers_many : (s : ℕ) (is : List (ℕ × Value)) (ls : List Last) → length (outers_from s is ls) ≡ length ls
outers_many s is [] = refl
outers_many s is (l ∷ ls) = ap suc (outers_many (suc s) is ls)

nows_many : (E : Env) (bag : Bag) (os : List Outer) → length (map (now_of E bag) os) ≡ length os
nows_many E bag [] = refl
nows_many E bag (o ∷ os) = ap suc (nows_many E bag os)

undecided_head : (b : Bool) (s n : ℕ) (ss : List ℕ) → s < n → AllByRecursion (λ s. s < n) ss → AllByRecursion (λ s. s < n) (cond b ss (s ∷ ss))
undecided_head true s n ss h all = all
undecided_head false s n ss h all = (h, all)

undecided_below : (E : Env) (s n : ℕ) (is : List (ℕ × Value)) (ls : List Last) → s + length ls ≤ n → AllByRecursion (λ s. s < n) (undecided E (outers_from s is ls))
undecided_below E s n is [] h = tt
undecided_below E s n is (l ∷ ls) h = undecided_head (is_decided (E s).status && is_known (E s).value) s n (undecided E (outers_from (suc s) is ls)) (omega arith) (undecided_below E (suc s) n is ls (omega arith))

by_doubled : (n : ℕ) (T : Table) (d : Completed) (ds : List ℕ) (fs : List (Pos × FaultKind)) → length d.signals ≡ n
    → Shape n (elim ds [ s ∷ ss ↦ Doubled (fold (first_declared T) s ss) | [] ↦ (elim fs [ f ∷ gs ↦ Faulted (fold earlier f gs).0 (fold earlier f gs).1 | [] ↦ Completes d ]) ])
by_doubled n T d [] [] h = h
by_doubled n T d [] (f ∷ fs) h = tt
by_doubled n T d (s ∷ ss) fs h = tt

by_ran : (n : ℕ) (T : Table) (os : List Outer) (last : ℕ) (E : Env) (o : Option Ran) → length os ≡ n → Shape n (concluded T os last E o)
by_ran n T os last E (Some r) h = by_doubled n T (completed T os last E r) (leave_all T os r.stepped).doubled (leave_all T os r.stepped).faults (nows_many E r.stepped.bag os ∙ h)
by_ran n T os last E None h = tt

by_undecided : (n : ℕ) (o : Outcome) (ss : List ℕ) → Shape n o → AllByRecursion (λ s. s < n) ss → Shape n (elim ss [ [] ↦ o | s ∷ us ↦ Undecided (s ∷ us) ])
by_undecided n o [] h all = h
by_undecided n o (s ∷ ss) h all = all

pub shape : (K : Kernel) (c : Control) (before : List Last) (is : List (ℕ × Value)) (last n : ℕ) → length before ≡ n → Shape n (reaction K c before is last)
shape K c before is last n e =
    let T = table_of K in
    let os = outers_from 0 is before in
    let E = solved T os (program_must_can T K.statement c) blank in
    by_undecided n (concluded T os last E (program_step T K.statement c E)) (undecided E os) (by_ran n T os last E (program_step T K.statement c E) (outers_many 0 is before ∙ e)) (undecided_below E 0 n is before (omega arith))
