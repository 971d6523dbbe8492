-- The codes of a started statement lie in its static codes.
use Rattle.std.proofs.Common.{◌≡◌, ℕ, zero, suc, ◌+◌, Bool, true, false, cond, []}
use Rattle.std.specs.Prelude.{◌∷◌}
use Rattle.host_expr.specs.declared.cell.Cell.{Cell}
use Rattle.host_expr.specs.declared.cell.Cell.TheVariants as cell
use Rattle.host_expr.specs.Environment.{put, unsolved}
use Rattle.host_expr.specs.Evaluation.{eval_of, truth}
use Rattle.host_expr.proofs.Truths.{or_mono, or_left, or_right}
use Rattle.hh_term.specs.Statement.{Nothing, Pause, Emit, If, Suspend, Seq, Par, Loop, Trap, Exit, Local}
use Rattle.hh_term.specs.Statement.{Async}
use Rattle.hh_term.specs.Selection.{Start}
use Rattle.hh_term.specs.Codes.{CodeSet, only, either, without_end, static_codes}
use Rattle.hh_term.specs.MustCan.{MustCan, Bag, Index, Executed, Possible, must_can, gives, emitted}
use Rattle.hh_term.specs.MustCan.{solve, chosen, is_end}
use Rattle.hh_term.specs.Lawful.{StartedCodesAreStatic}
use Rattle.hh_term.proofs.CodeSets.{in_turn_mono, greater_mono, lowered_mono}

cond_codes : (b : Bool) (x y : MustCan) (c : ℕ) (K : CodeSet) → (x.codes c ≡ true → K c ≡ true)
    → (y.codes c ≡ true → K c ≡ true) → (cond b x y).codes c ≡ true → K c ≡ true
cond_codes true x y c K h g e = h e
cond_codes false x y c K h g e = g e

chosen_codes : (x : Cell) (i : Index) (p q : Index → MustCan) (K L : CodeSet)
    → ((j : Index) (c : ℕ) → (p j).codes c ≡ true → K c ≡ true)
    → ((j : Index) (c : ℕ) → (q j).codes c ≡ true → L c ≡ true) → (c : ℕ)
    → (chosen x i p q).codes c ≡ true → either K L c ≡ true
chosen_codes cell.Unknown i p q K L h g c e =
    or_mono ((p Possible).codes c) ((q Possible).codes c) (K c) (L c) (h Possible c) (g Possible c) e
chosen_codes (cell.Known v) i p q K L h g c e =
    cond_codes (truth v) (p i) (q i) c (either K L) (λ f. or_left (K c) (L c) (h i c f))
    (λ f. or_right (K c) (L c) (g i c f)) e
chosen_codes (cell.Faulted o k) i p q K L h g c e = or_right (K c) (L c) (g i c e)

gives_codes : (b : Bag) (k : ℕ) (i : Index) (c : ℕ) → (gives b k i).codes c ≡ true → only k c ≡ true
gives_codes b k Executed c e = e
gives_codes b k Possible c e = e

loop_codes : (K L : CodeSet) → L 0 ≡ false → ((c : ℕ) → K c ≡ true → L c ≡ true) → (c : ℕ) → K c ≡ true
    → without_end L c ≡ true
loop_codes K L z h zero e = let t = h 0 e in cc
loop_codes K L z h (suc c) e = h (suc c) e

pub started_codes_are_static : StartedCodesAreStatic
started_codes_are_static T Nothing i E n c e = gives_codes [] 0 i c e
started_codes_are_static T Pause i E n c e = gives_codes [] 1 i c e
started_codes_are_static T (Emit s x) i E n c e = gives_codes ((s, emitted x E) ∷ []) 0 i c e
started_codes_are_static T (If x p q) i E n c e =
    chosen_codes (eval_of x E []) i (λ j. must_can T p Start j E) (λ j. must_can T q Start j E)
    (static_codes p) (static_codes q) (λ j. started_codes_are_static T p j E n.0)
    (λ j. started_codes_are_static T q j E n.1) c e
started_codes_are_static T (Suspend x p) i E n c e = started_codes_are_static T p i E n c e
started_codes_are_static T (Seq p q) i E n c e =
    let j = is_end (must_can T p Start i E).code in
    in_turn_mono (must_can T p Start i E).codes (must_can T q Start j E).codes (static_codes p)
    (static_codes q) (started_codes_are_static T p i E n.0) (started_codes_are_static T q j E n.1) c e
started_codes_are_static T (Par p q) i E n c e =
    greater_mono (must_can T p Start i E).codes (must_can T q Start i E).codes (static_codes p)
    (static_codes q) (started_codes_are_static T p i E n.0) (started_codes_are_static T q i E n.1) c e
started_codes_are_static T (Loop p) i E n c e =
    loop_codes (must_can T p Start i E).codes (static_codes p) n.0
    (started_codes_are_static T p i E n.1) c e
started_codes_are_static T (Trap p) i E n c e =
    lowered_mono (must_can T p Start i E).codes (static_codes p) (started_codes_are_static T p i E n) c e
started_codes_are_static T (Exit k) i E n c e = gives_codes [] (k + 2) i c e
started_codes_are_static T (Local s p) i E n c e =
    started_codes_are_static T p i
    (put E s (solve T s (must_can T p Start i) E (unsolved false (T.first s)))) n c e
started_codes_are_static T (Async k) i E n c e = gives_codes [] 1 i c e
