-- Where nothing refuses an expansion, its loops wait and it is within the limits.
use Rattle.std.proofs.Common.{◌≡◌, ℕ, ◌≤◌, Bool, true, false, List, [], ◌∷◌, ◌++◌, Option, Some, None}
use Rattle.std.proofs.Common.{refl, sym, ◌∙◌, length}
use Rattle.std.specs.Prelude.{nat_lt}
use Rattle.std.proofs.lemmas.Bool.{ltb-false}
use Rattle.hh_base.specs.declared.value.Pos.{Pos}
use Rattle.hh_term.specs.declared.limits.TheConstants.{SIZE_LIMIT, COPIED_LIMIT, HEIGHT_LIMIT, TRAP_LIMIT}
use Rattle.hh_term.specs.declared.limits.TheConstants.{SITE_LIMIT}
use Rattle.hh_term.specs.Codes.{static_codes}
use Rattle.hh_term.specs.Scopes.{LoopsWait}
use Rattle.hh_term.specs.IsProgram.{IsWithinLimits}
use Rattle.hh_term.specs.Sizes.{size_of, copied_size_of, height_of, traps_round}
use Rattle.hh_term.specs.Placed.{Placed, Nothing, Pause, Emit, If, Suspend, Seq, Par, Loop, Trap, Exit, Local}
use Rattle.hh_term.specs.Placed.{Async, unplaced}
use Rattle.kernel_expand.specs.declared.fault.ExpandFault.{ExpandFault}
use Rattle.kernel_expand.specs.declared.fault.ExpandFault.TheVariants as fault
use Rattle.kernel_expand.specs.Expansion.{Expansion, kernel_of_expansion}
use Rattle.kernel_expand.specs.Measures.{counted}
use Rattle.kernel_expand.specs.Refusals.{if_instant, instant_loops, least, past, instant, refusal_of}

past_none : (limit n : ℕ) (refusal : ℕ → ExpandFault) (others : Option ExpandFault)
    → past limit n refusal others ≡ None → (n ≤ limit) × (others ≡ None)
past_none limit n refusal others h = by_test (nat_lt limit n) refl
  where
    by_test : (b : Bool) → nat_lt limit n ≡ b → (n ≤ limit) × (others ≡ None)
    by_test true e = absurd (let step : past limit n refusal others ≡ Some (refusal (counted n)) = rw e refl in
        let no : ⊥ = cc in no)
    by_test false e = (
      ltb-false limit n e,
      let step : past limit n refusal others ≡ others = rw e refl in
          sym step ∙ h,
    )

none_instant : (xs : List Pos) → instant (least xs) ≡ None → xs ≡ []
none_instant [] h = refl
none_instant (x ∷ xs) h = absurd (let no : ⊥ = cc in no)

both_empty : {A : Type 0} (xs ys : List A) → xs ++ ys ≡ [] → (xs ≡ []) × (ys ≡ [])
both_empty [] ys h = (refl, h)
both_empty (x ∷ xs) ys h = absurd (let no : ⊥ = cc in no)

not_instant : (b : Bool) (at : Pos) → if_instant b at ≡ [] → b ≡ false
not_instant true at h = absurd (let no : ⊥ = cc in no)
not_instant false at h = refl

loops_wait : (t : Placed) → instant_loops t ≡ [] → LoopsWait (unplaced t)
loops_wait (Nothing at) h = tt
loops_wait (Pause at) h = tt
loops_wait (Emit at s e) h = tt
loops_wait (If at e p q) h = let b = both_empty (instant_loops p) (instant_loops q) h in
    (loops_wait p b.0, loops_wait q b.1)
loops_wait (Suspend at e p) h = loops_wait p h
loops_wait (Seq at p q) h = let b = both_empty (instant_loops p) (instant_loops q) h in
    (loops_wait p b.0, loops_wait q b.1)
loops_wait (Par at p q) h = let b = both_empty (instant_loops p) (instant_loops q) h in
    (loops_wait p b.0, loops_wait q b.1)
loops_wait (Loop at p) h =
    let b = both_empty (if_instant (static_codes (unplaced p) 0) at) (instant_loops p) h in
    (not_instant (static_codes (unplaced p) 0) at b.0, loops_wait p b.1)
loops_wait (Trap at p) h = loops_wait p h
loops_wait (Exit at k) h = tt
loops_wait (Local at s p) h = loops_wait p h
loops_wait (Async at n) h = tt

pub record Accepts (x : Expansion) : Type 0 where
  pub limits : IsWithinLimits (kernel_of_expansion x)
  pub loops : LoopsWait (unplaced x.statement)

pub accepted : (x : Expansion) → refusal_of x ≡ None → Accepts x
accepted x h =
    let K = kernel_of_expansion x in
    let size = past_none SIZE_LIMIT (size_of K K.statement) fault.TooLarge _ h in
    let height = past_none HEIGHT_LIMIT (height_of K.statement) fault.TooDeep _ size.1 in
    let traps = past_none TRAP_LIMIT (traps_round K.statement) fault.TrapsDeep _ height.1 in
    let sites = past_none SITE_LIMIT (length K.sites) fault.ManyAsyncs _ traps.1 in
    let copied = past_none COPIED_LIMIT (copied_size_of K K.statement) fault.CopyLarge _ sites.1 in
    record {
      limits = record {
        size = size.0;
        copied = copied.0;
        height = height.0;
        traps = traps.0;
        sites = sites.0;
      };
      loops = loops_wait x.statement (none_instant (instant_loops x.statement) copied.1);
    }
