-- What worked programs and their copies do, by computation from the definitions alone.
use Rattle.std.proofs.Common.{◌≡◌, refl, ℕ, true, false, Option, Some, None, List, [], ◌∷◌, map}
use Rattle.std.specs.List.{filter}
use Rattle.hh_base.specs.declared.value.CombineWord.TheVariants.{Plus}
use Rattle.hh_base.specs.declared.value.Value.TheVariants as value
use Rattle.host_expr.specs.Expression.{Now}
use Rattle.hh_term.specs.Statement.{Nothing, Pause, If, Seq, Par, Loop, Trap, Exit, Async}
use Rattle.hh_term.specs.Selection.{Selection, Control, At, AtAsync, First, Second, Both, Inside}
use Rattle.hh_term.specs.Kernel.{Kernel, AsyncSite}
use Rattle.hh_term.specs.Touches.{Touch}
use Rattle.hh_term.specs.Reaction.{Outcome, Completes, reaction, first_lasts}
use Rattle.hh_term.proofs.Runs.{pauses, runs, input, number, program, emit_number, on, is}
use Rattle.loop_copy.specs.Copies.{copied_program}
use Rattle.copied_reaction.specs.Reacting.{counted, is_new}

-- module M(in A, out N: int combine plus) { loop { fork { trap T { loop { emit N(1); if (A.now) { break T; }
-- pause; } } } par { pause; } } }
-- With A the inner loop emits in one of its halves and leaves, and the other half of the outer one emits again.
levels_copied :
    runs (copied_program (program (input 12 ∷ number (Some Plus) 19 ∷ []) []
    (Loop (Par
    (Trap (Loop (Seq (Seq (emit_number 1 1) (If (Now 0) (Exit 0) Nothing)) Pause))) Pause))))
    ([] ∷ (on 0 ∷ []) ∷ [] ∷ [] ∷ [])
    ≡ pauses (is 1 1 ∷ []) ∷ pauses (is 1 2 ∷ []) ∷ pauses (is 1 1 ∷ []) ∷ pauses (is 1 1 ∷ []) ∷ []
levels_copied = refl

-- ---- two asyncs in a loop

abbrev touches_left : Outcome → List Touch
touches_left (Completes d) = d.touches
touches_left _ = []

abbrev control_left : Outcome → Option Control
control_left (Completes d) = Some d.next
control_left _ = None

abbrev site : AsyncSite
site = record { body = 0; signal = None; args = []; kill = None; suspend = None; resume = None }

-- loop { fork { async call work(); } par { async call work(); } }
abbrev two_workers : Kernel
two_workers = record (program [] [] (Loop (Par (Async 0) (Async 1)))) { sites = site ∷ site ∷ [] }

abbrev ended : ℕ → Selection
ended id = AtAsync id [] (record { value = value.Unit; last = true } ∷ []) false

-- both instances end, where the last id is 2
abbrev both_end : Kernel → (Selection → Selection) → Outcome
both_end K half = reaction K (At (Inside (half (Both (ended 1) (ended 2))))) (first_lasts K) [] 2

-- the new instances get the ids 3 and 4 in the order of their sites
new_ids : map (λ (t : Touch). t.id) (filter is_new (touches_left (both_end two_workers (λ m. m)))) ≡ 3 ∷ 4 ∷ []
new_ids = refl

-- so they do in either half
same_ids_first :
    counted two_workers (filter is_new (touches_left (both_end (copied_program two_workers) First)))
    ≡ filter is_new (touches_left (both_end two_workers (λ m. m)))
same_ids_first = refl

same_ids_second :
    counted two_workers (filter is_new (touches_left (both_end (copied_program two_workers) Second)))
    ≡ filter is_new (touches_left (both_end two_workers (λ m. m)))
same_ids_second = refl

-- From the second half control goes to the first.
abbrev rests : ℕ → Selection
rests id = AtAsync id [] [] false

goes_to_the_first :
    control_left (both_end (copied_program two_workers) Second)
    ≡ Some (At (Inside (First (Both (rests 3) (rests 4)))))
goes_to_the_first = refl

-- The order of all touches is another one: there the new ones stand before those that end.
touched_sites_first :
    map (λ (t : Touch). t.id) (touches_left (both_end (copied_program two_workers) First)) ≡ 1 ∷ 2 ∷ 3 ∷ 4 ∷ []
touched_sites_first = refl

touched_sites_second :
    map (λ (t : Touch). t.id) (touches_left (both_end (copied_program two_workers) Second)) ≡ 3 ∷ 4 ∷ 1 ∷ 2 ∷ []
touched_sites_second = refl

touched_sites :
    map (λ (t : Touch). t.id) (touches_left (both_end two_workers (λ m. m))) ≡ 1 ∷ 3 ∷ 2 ∷ 4 ∷ []
touched_sites = refl
